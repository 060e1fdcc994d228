-- The kept bits in their bytes: what adding or removing a place is, and a pass over the codes code by code.
use Prim.Native.Nat.{ℕ, suc, ◌*◌, ◌/◌, ◌<◌}
use mathlib.Core.Path.{◌≡◌, refl, sym, ap, ap₂, ◌∙◌}
use mathlib.Core.Bool.{Bool, true, false, not, ◌&&◌, ◌||◌, cond, and-true, and-false, or-true, or-false}
use mathlib.Core.List.{List}
use native.Mathlib.Nat.{mul_comm}
use native.Mathlib.Omega.{arith}
use lib.Dec.{eqb, ltb}
use lib.ListN.{length, get_or, take, drop, length-take}
use lib.Seq.{drop-cons, drop-length}
use borrow.Author.Tests.{eqb-true, ltb-false}
use Rattle.sets.specs.Sets.{Facts}
use Rattle.sets.proofs.Laws.{by-test}
use Rattle.facts.specs.Facts.{within, room, Kept, Added, Removed}
use Rattle.facts.proofs.Laws.{missing, kept_same, kept_trans}
use Rattle.records.specs.Words.{word, words}
use Rattle.records.proofs.Words.{words-index, length-words}
use Rattle.past.specs.Keeping.{Values, pushed, top, left, bit_of, keeps, written, value_at, operated, stepped}
use Rattle.closing.specs.Closing.{numbered}
use Rattle.past.specs.Keeping.{values, values_in, Written, Turned, Advanced}

-- A place without room has no bit.
no_bit : (bytes : List ℕ) (i : ℕ) → room 32 bytes i ≡ false → within 32 bytes i ≡ false
unfolding room
no_bit bytes i none =
    missing 32 bytes i (omega (arith, ltb-false (i / 8) (length (take 32 bytes)) none, length-take 32 bytes))

-- To add the place is to write a true bit.
pub added_written : {bytes after : List ℕ} {i : ℕ} → Added 32 bytes i after → Written bytes i true after
unfolding written
added_written {bytes} {after} {i} added = record { bits = λ j. added.set j ∙ here j; kept = added.kept }
  where
    with_room : (j : ℕ) → j ≡ i → (within 32 bytes j || (true && room 32 bytes i)) ≡ (true && room 32 bytes i)
    with_room j e =
        by-test (room 32 bytes i) (λ r. rw (r, or-true)) (λ r. rw (r, or-false, e) (no_bit bytes i r))

    here : (j : ℕ) → (within 32 bytes j || (eqb j i && room 32 bytes i))
        ≡ cond (eqb j i) (true && room 32 bytes i) (within 32 bytes j)
    here j =
        by-test (eqb j i) (λ e. rw e (with_room j (eqb-true j i e))) (λ e. rw (e, or-false))

-- To remove the place is to write a false bit.
pub removed-written : {bytes after : List ℕ} {i : ℕ} → Removed 32 bytes i after → Written bytes i false after
unfolding written
removed-written {bytes} {after} {i} removed = record { bits = λ j. removed.set j ∙ here j; kept = removed.kept }
  where
    here : (j : ℕ) → (within 32 bytes j && not (eqb j i)) ≡ cond (eqb j i) false (within 32 bytes j)
    here j = by-test (eqb j i) (λ e. rw (e, and-false)) (λ e. rw (e, and-true))

-- ---- one code

module _ (c i waiting : ℕ) (bytes : List ℕ) where
  abbrev here : Values
  here = values_in waiting bytes

  -- One of the last four operators has written its bit.
  pub turned-kept : {after : List ℕ} {bit : Bool} {n : ℕ} → keeps c ≡ true
      → bit ≡ bit_of c (top waiting) (value_at i c here) → Written bytes i bit after
      → n ≡ pushed (left c waiting) (value_at i c here) → Turned (operated (room 32 bytes) i c here) bytes after n
  unfolding operated
  turned-kept k e w number =
      record { number = number; bits = λ j. w.bits j ∙ rw (k, e); kept = w.kept }

  -- Every other operator has written nothing.
  pub turned_same : {n : ℕ} → keeps c ≡ false → n ≡ pushed (left c waiting) (value_at i c here)
      → Turned (operated (room 32 bytes) i c here) bytes bytes n
  unfolding operated
  turned_same k number = record { number = number; bits = λ j. rw k; kept = kept_same bytes }

  -- A fact's value waits.
  pub turned-fact : {n : ℕ} (X : Facts) → ltb c 32768 ≡ true → n ≡ pushed waiting (X c)
      → Turned (stepped X (room 32 bytes) i c here) bytes bytes n
  unfolding stepped
  turned-fact X low number = record { number = rw low number; bits = λ j. rw low; kept = kept_same bytes }

  -- Every other code is an operator.
  pub turned_operator : {after : List ℕ} {n : ℕ} (X : Facts) → ltb c 32768 ≡ false
      → Turned (operated (room 32 bytes) i c here) bytes after n
      → Turned (stepped X (room 32 bytes) i c here) bytes after n
  unfolding stepped
  turned_operator X high turned = rw high turned

-- ---- one code after another

-- The same values wait, and the same bits are kept.
record Same (v w : Values) : Type 0 where
  waiting : v.waiting ≡ w.waiting
  kept : (j : ℕ) → v.kept j ≡ w.kept j

value_same : (i c : ℕ) (v w : Values) → Same v w → value_at i c v ≡ value_at i c w
unfolding value_at
value_same i c v w same = rw (same.waiting, same.kept i)

written_same : (s t : Facts) (i : ℕ) (b d : Bool) (k m : Facts) → s i ≡ t i → b ≡ d → ((j : ℕ) → k j ≡ m j)
    → (j : ℕ) → written s i b k j ≡ written t i d m j
unfolding written
written_same s t i b d k m space bit same j = rw (space, bit, same j)

operated-same : (s t : Facts) (i c : ℕ) (v w : Values) → s i ≡ t i → Same v w
    → Same (operated s i c v) (operated t i c w)
unfolding operated
operated-same s t i c v w space same =
    let value = value_same i c v w same in
    let bit = ap₂ (bit_of c) (ap top same.waiting) value in
    record {
      waiting = ap₂ pushed (ap (left c) same.waiting) value;
      kept = λ j.
          by-test (keeps c) (λ k. rw k (written_same s t i _ _ v.kept w.kept space bit same.kept j))
          (λ k. rw k (same.kept j));
    }

stepped_same : (X s t : Facts) (i c : ℕ) (v w : Values) → s i ≡ t i → Same v w
    → Same (stepped X s i c v) (stepped X t i c w)
unfolding stepped
stepped_same X s t i c v w space same =
    by-test (ltb c 32768)
    (λ low. rw low (record { waiting = rw same.waiting; kept = same.kept }))
    (λ high. rw high (operated-same s t i c v w space same))

-- There is room where there was.
room-kept : {bytes after : List ℕ} (i : ℕ) → Kept 32 bytes after → room 32 after i ≡ room 32 bytes i
unfolding room
room-kept {bytes} {after} i k = rw (length-take 32 after, length-take 32 bytes, k.as_long)

-- A code after the codes behind it.
pub turned-next : (X : Facts) (i c : ℕ) (v : Values) {bytes now after : List ℕ} {n m : ℕ} → Turned v bytes now n
    → Turned (stepped X (room 32 now) i c (values_in n now)) now after m
    → Turned (stepped X (room 32 bytes) i c v) bytes after m
turned-next X i c v {bytes} {now} {after} {n} {m} done turn =
    let same =
    stepped_same X (room 32 now) (room 32 bytes) i c (values_in n now) v (room-kept i done.kept)
    (record { waiting = done.number; kept = done.bits }) in
    record {
      number = turn.number ∙ same.waiting;
      bits = λ j. turn.bits j ∙ same.kept j;
      kept = kept_trans done.kept turn.kept;
    }

-- The codes from a place on have been passed.
abbrev pub Passed : List ℕ → List ℕ → List ℕ → ℕ → List ℕ → ℕ → Type 0
Passed codes table bytes i now waiting =
    Turned (values (numbered table) (room 32 bytes) i (drop i (words codes)) (values_in 0 bytes)) bytes now waiting

-- Before the pass none have.
pub passed_none : (codes table bytes : List ℕ) → Passed codes table bytes (length codes / 2) bytes 0
unfolding values
passed_none codes table bytes =
    rw (← length-words codes, drop-length (words codes))
    (record { number = refl; bits = λ j. refl; kept = kept_same bytes })

-- One more has.
pub passed-more : (codes table bytes : List ℕ) (i c : ℕ) {now after : List ℕ} {n m : ℕ}
    → i < length codes / 2 → c ≡ word (drop (i * 2) codes)
    → Passed codes table bytes (suc i) now n
    → Turned (stepped (numbered table) (room 32 now) i c (values_in n now)) now after m
    → Passed codes table bytes i after m
unfolding values
passed-more codes table bytes i c h e done turn =
    let low : i < length (words codes) = omega (arith, length-words codes) in
    let here : get_or (words codes) i 0 ≡ c =
    words-index codes i low ∙ rw (mul_comm 2 i) (sym e) in
    rw (drop-cons (words codes) i 0 low, here) (turned-next (numbered table) i c _ done turn)

-- In the end all have.
pub passed-all : (codes table bytes : List ℕ) {after : List ℕ} {n : ℕ} → Passed codes table bytes 0 after n
    → Advanced codes table bytes after (top n)
passed-all codes table bytes p = record { value = ap top p.number; bits = p.bits; kept = p.kept }
