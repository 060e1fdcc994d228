-- Laws on the records of a section, one at a time, and on the answer of a loop that judges them in order.
use Prim.Native.Nat.{ℕ, zero, suc, ◌+◌, ◌-◌, ◌≤◌, ◌<◌}
use mathlib.Core.Path.{◌≡◌, refl, ap, ◌∙◌, sym}
use mathlib.Core.List.{List, [], ◌∷◌}
use mathlib.Core.Option.{Option, none, some}
use native.Mathlib.Nat.{not-suc-le-zero, suc-ne-zero, le_refl, le_of_eq}
use native.Mathlib.Omega.{arith}
use lib.Dec.{leb}
use lib.ListN.{length, take, drop, length-drop, drop_of_length-le}
use lib.Seq.{length-take-le, take_all, drop-drop}
use borrow.Author.Tests.{leb-true, leb-false, le-leb, lt-leb}
use Rattle.sets.proofs.Laws.{by-test}
use Rattle.records.specs.Words.{word}
use Rattle.records.specs.Records.{record_of_lem, records_in, records, first_from}

-- ---- one record

-- a part that ends where the list ends
pub rest_of : (xs : List ℕ) (at : ℕ) → take (length xs - at) (drop at xs) ≡ drop at xs
rest_of xs at = take_all (length xs - at) (drop at xs) (le_of_eq (length-drop at xs))

-- a record whose length fits
pub record-fits : (bytes : List ℕ) → 2 + word bytes ≤ length bytes → record_of_lem bytes ≡ take (2 + word bytes) bytes
unfolding record_of_lem
record-fits bytes h = rw (le-leb (2 + word bytes) (length bytes) h)

-- a record whose length does not fit
pub record-rest : (bytes : List ℕ) → length bytes < 2 + word bytes → record_of_lem bytes ≡ bytes
unfolding record_of_lem
record-rest bytes h = rw (lt-leb (2 + word bytes) (length bytes) h)

-- a record takes a byte of a section that has one, and no more than the section has
pub record-size : (bytes : List ℕ) → 0 < length bytes
    → (0 < length (record_of_lem bytes)) × (length (record_of_lem bytes) ≤ length bytes)
record-size bytes h =
    by-test (leb (2 + word bytes) (length bytes))
    (λ e.
    let fits : 2 + word bytes ≤ length bytes = leb-true _ _ e in
    rw (record-fits bytes fits) (omega (arith, length-take-le (2 + word bytes) bytes fits)))
    (λ e. rw (record-rest bytes (leb-false _ _ e)) (h, le_refl (length bytes)))

-- ---- the records of a section

-- turns beyond the number of bytes change nothing
more_turns : (turns turns' : ℕ) (bytes : List ℕ) → length bytes ≤ turns → length bytes ≤ turns'
    → records_in turns bytes ≡ records_in turns' bytes
unfolding records_in
more_turns zero zero bytes h h' = refl
more_turns zero (suc turns') [] h h' = refl
more_turns zero (suc turns') (b ∷ bytes) h h' = absurd (not-suc-le-zero h)
more_turns (suc turns) zero [] h h' = refl
more_turns (suc turns) zero (b ∷ bytes) h h' = absurd (not-suc-le-zero h')
more_turns (suc turns) (suc turns') [] h h' = refl
more_turns (suc turns) (suc turns') (b ∷ bytes) h h' =
    let r = record_of_lem (b ∷ bytes) in
    let size = record-size (b ∷ bytes) (omega arith) in
    let rest = drop (length r) (b ∷ bytes) in
    ap (λ (rs : List (List ℕ)). r ∷ rs)
    (more_turns turns turns' rest (rw length-drop (omega arith)) (rw length-drop (omega arith)))

-- no bytes, no records
pub records-none : records [] ≡ []
unfolding records
records-none = refl

pub records_empty : (section : List ℕ) → length section ≡ 0 → records section ≡ []
records_empty [] e = records-none
records_empty (b ∷ bytes) e = absurd (suc-ne-zero _ e)

-- a section is its first record and the records of the rest
pub records-next : (section : List ℕ) → 0 < length section
    → records section ≡ record_of_lem section ∷ records (drop (length (record_of_lem section)) section)
unfolding records
records-next [] h = absurd (not-suc-le-zero h)
records-next (b ∷ bytes) h =
    let r = record_of_lem (b ∷ bytes) in
    let size = record-size (b ∷ bytes) h in
    let rest = drop (length r) (b ∷ bytes) in
    ap (λ (rs : List (List ℕ)). r ∷ rs)
    (more_turns (length bytes) (length rest) rest (rw length-drop (omega arith)) (le_refl (length rest)))

-- no records from the section's end on
pub records-end : (section : List ℕ) (at : ℕ) → length section ≤ at → records (drop at section) ≡ []
records-end section at h = ap records (drop_of_length-le section h) ∙ records-none

-- the record at a place within the section, and the records after it
pub records-at : (section : List ℕ) (at : ℕ) (r : List ℕ) → r ≡ record_of_lem (drop at section) → at < length section
    → records (drop at section) ≡ r ∷ records (drop (at + length r) section)
records-at section at r e h =
    records-next (drop at section) (rw length-drop (omega arith))
    ∙ ap (λ (r' : List ℕ). r' ∷ records (drop (length r') (drop at section))) (sym e)
    ∙ ap (λ (rest : List ℕ). r ∷ records rest) (drop-drop (length r) at section)

-- the place after the record at a place within the section is further on, and at most the section's end
pub place_after : (section : List ℕ) (at : ℕ) (r : List ℕ) → r ≡ record_of_lem (drop at section) → at < length section
    → (at < at + length r) × (at + length r ≤ length section)
place_after section at r e h =
    let left : length (drop at section) ≡ length section - at = length-drop at section in
    let size = record-size (drop at section) (omega arith) in
    rw e (omega arith)

-- ---- judging the records in order

module _ (refuses : ℕ → List ℕ → Option ℕ) where
  module _ (n at : ℕ) (r : List ℕ) (rs : List (List ℕ)) where
    -- the first fault is at a record that is refused
    pub first-here : (k : ℕ) → refuses n r ≡ some k
        → first_from refuses n at (r ∷ rs) ≡ some (record { number = k; start = at; size = length r })
    unfolding first_from
    first-here k refused = rw (refused, first_from)

    -- and after one that is not
    pub first-later : refuses n r ≡ none
        → first_from refuses n at (r ∷ rs) ≡ first_from refuses (suc n) (at + length r) rs
    unfolding first_from
    first-later passed = rw (passed, first_from)
