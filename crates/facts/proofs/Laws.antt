-- The laws of sets in bytes: what a write of one byte does, that a buffer can hold every set, and that each contract
-- determines every byte. Throughout, w is the width: the set lies in the first w bytes of its buffer.
use Prim.Native.Nat.{ℕ, zero, suc, ◌+◌, ◌-◌, ◌*◌, ◌/◌, ◌%◌, ◌^◌, ◌≤◌, ◌<◌, zero-le, min}
use mathlib.Core.Path.{◌≡◌, refl, sym, ap, ap₂, ◌∙◌}
use mathlib.Core.Bool.{Bool, true, false, true≢false, false≢true, not, ◌&&◌, ◌||◌, cond}
use mathlib.Core.Bool.{and-true, and-false, or-true, or-false}
use mathlib.Core.Logic.{⊎_elim}
use mathlib.Core.List.{List, [], ◌∷◌, ◌++◌}
use native.Mathlib.Nat.{add-sub_of_le, le_refl}
use native.Mathlib.Omega.{arith}
use lib.Dec.{T, eqb, ltb, eqb→eq, lit<}
use lib.ListN.{length, get_or, take, drop, set, replicate, length-take, length-drop, length-set, length-append}
use lib.ListN.{get_or-append, get_or-eq_default}
use lib.Seq.{ext_get_or, get_or-take, get_or-drop, get_or-set_same, get_or-set_other, take-set-lt, drop-set-lt}
use lib.Count.{ones}
use borrow.Author.Tests.{ltb-true, ltb-false, eqb-true, eqb-false, eq-eqb, ne_eqb, lt-ltb, le-ltb}
use Rattle.std.specs.List.{list_any, sum_by}
use Rattle.std.proofs.Common.{add-one}
use Rattle.std.proofs.lemmas.List.{length-replicate, get_or-replicate, take_all}
use Rattle.std.proofs.lemmas.List.Sums.{sum_by_more}
use Rattle.std.proofs.lemmas.Slice.{drop-append-drop}
use Rattle.sets.specs.Sets.{Facts, size}
use Rattle.sets.proofs.Laws.{passes, fails, by-test, same_test, below_or_from}
use Rattle.sets.proofs.Size.{size-add, size_same, size_below}
use Rattle.facts.specs.Facts.{bit, within, room, Kept, Added, Removed, Cleared, AnyFrom}
use Rattle.facts.proofs.Byte.{on, on_none, on_some, changed, on-changed, packed, packed_lt, on-packed}
use Rattle.facts.proofs.Byte.{same_bits, size-on}

-- Every entry of the list is a byte.
abbrev pub Bytes : List ℕ → Type 0
Bytes l = (i : ℕ) → get_or l i 0 < 256

-- ---- where a number is, and where it cannot be

-- A number whose byte is among the first w is a bit of the buffer's entry.
pub members-byte : (w : ℕ) (l : List ℕ) (n : ℕ) → n / 8 < w → within w l n ≡ on (get_or l (n / 8) 0) (n % 8)
unfolding within
members-byte w l n h = ap (λ (b : ℕ). on b (n % 8)) (get_or-take w l (n / 8) 0 h)

-- A number of byte i, one of the first w, is a bit of the buffer's entry there.
pub members-at : (w : ℕ) (l : List ℕ) (i k : ℕ) → i < w → k < 8 → within w l (i * 8 + k) ≡ on (get_or l i 0) k
members-at w l i k h hk =
    members-byte w l (i * 8 + k) (omega arith) ∙ ap₂ (λ (n m : ℕ). on (get_or l n 0) m) (omega arith) (omega arith)

-- A number whose byte is not among the buffer's first w is not in the set.
pub missing : (w : ℕ) (l : List ℕ) (n : ℕ) → min w (length l) ≤ n / 8 → within w l n ≡ false
unfolding within
missing w l n h =
    ap (λ (b : ℕ). on b (n % 8)) (get_or-eq_default (take w l) 0 (rw length-take h))
    ∙ on_none 0 0 (n % 8) refl zero-le

-- A number of 8 * w or more is not in the set.
pub beyond : (w : ℕ) (l : List ℕ) (n : ℕ) → 8 * w ≤ n → within w l n ≡ false
beyond w l n h = missing w l n (omega arith)

-- A byte that is 0 has none of its eight numbers.
pub byte-none : (w : ℕ) (l : List ℕ) (i k : ℕ) → get_or l i 0 ≡ 0 → k < 8 → within w l (i * 8 + k) ≡ false
byte-none w l i k e h =
    ⊎_elim (λ q. members-at w l i k q h ∙ ap (λ (b : ℕ). on b k) e ∙ on_none 0 0 k refl (omega arith))
    (λ q. beyond w l (i * 8 + k) (omega arith)) (below_or_from i w)

-- Every entry among the first w is a byte.
pub held_bytes : (w : ℕ) (l : List ℕ) → Bytes l → Bytes (take w l)
held_bytes w l b i =
    ⊎_elim (λ h. rw (get_or-take w l i 0 h) (b i))
    (λ h. rw (get_or-eq_default (take w l) 0 {n = i} (omega (arith, length-take w l))) (lit< tt)) (below_or_from i w)

-- A buffer has room for a number whose byte is among its first w.
pub room_in : (w : ℕ) (l : List ℕ) (n : ℕ) → n / 8 < min w (length l) → room w l n ≡ true
unfolding room
room_in w l n h = rw length-take (lt-ltb (n / 8) (min w (length l)) h)

-- A buffer has no room for any other number.
room_out : (w : ℕ) (l : List ℕ) (n : ℕ) → min w (length l) ≤ n / 8 → room w l n ≡ false
unfolding room
room_out w l n h = rw length-take (le-ltb (n / 8) (min w (length l)) h)

-- ---- what is left alone

-- An operation that changes nothing leaves alone what it must.
pub kept_same : {w : ℕ} (l : List ℕ) → Kept w l l
kept_same l = record { as_long = refl; beyond = refl }

-- What two operations leave alone one after the other, both leave alone.
pub kept_trans : {w : ℕ} {a b c : List ℕ} → Kept w a b → Kept w b c → Kept w a c
kept_trans p q = record { as_long = q.as_long ∙ p.as_long; beyond = q.beyond ∙ p.beyond }

-- A write of one of the first w bytes leaves alone what it must.
pub kept_set : {w : ℕ} (l : List ℕ) (i v : ℕ) → i < w → Kept w l (set l i v)
kept_set {w} l i v h = record { as_long = length-set l i v; beyond = drop-set-lt w l i v h }

-- ---- one bit changed

-- the buffer with a number's bit set or cleared in its byte
abbrev pub put : Bool → List ℕ → ℕ → List ℕ
put to l n = set l (n / 8) (changed to (get_or l (n / 8) 0) (n % 8))

-- Numbers of one byte are the same where their bits are.
same_place : (n g : ℕ) → g / 8 ≡ n / 8 → eqb (g % 8) (n % 8) ≡ eqb g n
same_place n g e =
    same_test (λ t. passes (eq-eqb g n (omega (arith, eqb→eq (g % 8) (n % 8) t))))
    (λ t. passes (eq-eqb (g % 8) (n % 8) (ap (λ (m : ℕ). m % 8) (eqb→eq g n t))))

module _ (w : ℕ) (l : List ℕ) (n : ℕ) (h : n / 8 < min w (length l)) (b : get_or l (n / 8) 0 < 256) where
  -- The number is then in the set or not, and every other one as before.
  within-put : (to : Bool) (g : ℕ) → within w (put to l n) g ≡ cond (eqb g n) to (within w l g)
  unfolding within bit
  within-put to g = by-test (eqb (g / 8) (n / 8)) here elsewhere
    where
      here : eqb (g / 8) (n / 8) ≡ true → within w (put to l n) g ≡ cond (eqb g n) to (within w l g)
      here q =
          let d = eqb-true (g / 8) (n / 8) q in
          members-byte w (put to l n) g (omega arith)
          ∙ ap (λ (i : ℕ). on (get_or (put to l n) i 0) (g % 8)) d
          ∙ ap (λ (c : ℕ). on c (g % 8)) (get_or-set_same l (n / 8) _ 0 (omega arith))
          ∙ on-changed to (get_or l (n / 8) 0) (n % 8) (g % 8) b (omega arith) (omega arith)
          ∙ ap₂ (λ (e x : Bool). cond e to x) (same_place n g d)
          (ap (λ (i : ℕ). on (get_or l i 0) (g % 8)) (sym d) ∙ sym (members-byte w l g (omega arith)))

      elsewhere : eqb (g / 8) (n / 8) ≡ false → within w (put to l n) g ≡ cond (eqb g n) to (within w l g)
      elsewhere q =
          let d = eqb-false (g / 8) (n / 8) q in
          ap (λ (m : List ℕ). bit m g) (take-set-lt w l (n / 8) _ (omega arith))
          ∙ ap (λ (c : ℕ). on c (g % 8)) (get_or-set_other (take w l) (n / 8) (g / 8) _ 0 d)
          ∙ rw (ne_eqb g n (λ p. d (ap (λ (m : ℕ). m / 8) p)))

  -- To set its bit is to add the number.
  pub added_set : Added w l n (put true l n)
  added_set =
      record {
        set = λ g. rw (room_in w l n h, and-true) (within-put true g ∙ as_or (eqb g n) (within w l g));
        kept = kept_set l (n / 8) _ (omega arith);
      }
    where
      as_or : (e x : Bool) → cond e true x ≡ (x || e)
      as_or true x = sym (or-true x)
      as_or false x = sym (or-false x)

  -- To clear its bit is to remove the number.
  pub removed-set : Removed w l n (put false l n)
  removed-set =
      record {
        set = λ g. within-put false g ∙ as_and (eqb g n) (within w l g);
        kept = kept_set l (n / 8) _ (omega arith);
      }
    where
      as_and : (e x : Bool) → cond e false x ≡ (x && not e)
      as_and true x = sym (and-false x)
      as_and false x = sym (and-true x)

-- A number whose byte the buffer lacks is added, and removed, by doing nothing.
module _ (w : ℕ) (l : List ℕ) (n : ℕ) (h : min w (length l) ≤ n / 8) where
  pub added_missing : Added w l n l
  added_missing = record { set = λ g. rw (room_out w l n h, and-false, or-false); kept = kept_same l }

  pub removed-missing : Removed w l n l
  removed-missing =
      record {
        set = λ g. by-test (eqb g n) (λ q. rw (eqb-true g n q, missing w l n h)) (λ q. rw (q, and-true));
        kept = kept_same l;
      }

-- ---- `clear`

-- To leave 0 in each of the first w bytes is to clear the set.
pub cleared-zero : {w : ℕ} {l a : List ℕ} → Kept w l a → ((i : ℕ) → i < min w (length l) → get_or a i 0 ≡ 0)
    → Cleared w l a
cleared-zero {w} {l} {a} p z = record { set = λ g. ⊎_elim (here g) (lacking g) (below_or_from _ _); kept = p }
  where
    here : (g : ℕ) → g / 8 < min w (length l) → within w a g ≡ false
    here g h =
        members-byte w a g (omega arith) ∙ ap (λ (b : ℕ). on b (g % 8)) (z (g / 8) h)
        ∙ on_none 0 0 (g % 8) refl zero-le

    lacking : (g : ℕ) → min w (length l) ≤ g / 8 → within w a g ≡ false
    lacking g h = missing w a g (omega (arith, p.as_long))

-- To write 0 over the bytes that the set has is to clear it.
pub cleared_zeros : (w : ℕ) (l : List ℕ) (n : ℕ) → n ≡ min w (length l) → Cleared w l (replicate n 0 ++ drop n l)
cleared_zeros w l n e =
    let zeros : List ℕ = replicate n 0 in
    let long : length zeros ≡ n = length-replicate n _ in
    cleared-zero
    (record {
      as_long = omega (arith, length-append zeros (drop n l), length-drop n l);
      beyond = drop-append-drop n l zeros w (omega arith) long;
    })
    (λ i h. get_or-append zeros (drop n l) 0 i (omega arith) ∙ get_or-replicate n i 0 0 (omega arith))

-- ---- `any_from`

module _ (w : ℕ) (l : List ℕ) (i j : ℕ) where
  -- A byte of the set that a shift by j leaves nothing of has no number from its bit j on.
  pub none_from : get_or (take w l) i 0 / 2 ^ j ≡ 0 → (g : ℕ) → i * 8 + j ≤ g → g < i * 8 + 8 → within w l g ≡ false
  unfolding within bit
  none_from e g lo hi =
      ap (λ (n : ℕ). on (get_or (take w l) n 0) (g % 8)) (omega arith)
      ∙ on_none (get_or (take w l) i 0) j (g % 8) e (omega arith)

  -- A byte of the set that a shift by j leaves something of has a number from its bit j on.
  pub some-from : Bytes l → j < 8 → 0 < get_or (take w l) i 0 / 2 ^ j → (g : ℕ) × (i * 8 + j ≤ g) × T (within w l g)
  unfolding within bit
  some-from b hj p =
      let (k, from, low, t) = on_some (get_or (take w l) i 0) j (held_bytes w l b i) hj p in
      let same : within w l (i * 8 + k) ≡ on (get_or (take w l) i 0) k =
      ap₂ (λ (n m : ℕ). on (get_or (take w l) n 0) m) (omega arith) (omega arith) in
      (i * 8 + k, omega arith, rw same t)

-- Where some entry of a list is not 0, there is an index of one.
not_zero : (xs : List ℕ) → list_any (ltb 0) xs ≡ true → (k : ℕ) × (0 < get_or xs k 0)
not_zero [] e = absurd (false≢true e)
not_zero (x ∷ xs) e =
    by-test (ltb 0 x) (λ h. (0, ltb-true 0 x h)) (λ h. let (k, p) = not_zero xs (rw h at e) in (suc k, p))

-- Where none is, each one is 0.
each_zero : (xs : List ℕ) → list_any (ltb 0) xs ≡ false → (k : ℕ) → get_or xs k 0 ≡ 0
each_zero [] e k = refl
each_zero (x ∷ xs) e k =
    by-test (ltb 0 x) (λ h. absurd (true≢false (rw h at e)))
    (λ h.
    elim k as (λ k. get_or (x ∷ xs) k 0 ≡ 0)
    [ zero ↦ omega (arith, ltb-false 0 x h) | suc i ↦ each_zero xs (rw h at e) i ])

-- With the bytes of the set from that of `from` on: a number of `from` or more is in the first one, past those below
-- it, or in a later one.
pub any_part : (w : ℕ) (l : List ℕ) (from : ℕ) (part : List ℕ) → Bytes l → part ≡ drop (from / 8) (take w l)
    → AnyFrom w l from (ltb 0 (get_or part 0 0 / 2 ^ (from % 8)) || list_any (ltb 0) (drop 1 part))
any_part w l from part b e = by-test (ltb 0 here) first (λ h. by-test (list_any (ltb 0) later) (second h) (neither h))
  where
    later : List ℕ
    later = drop 1 part

    here : ℕ
    here = get_or part 0 0 / 2 ^ (from % 8)

    at : (k : ℕ) → get_or part k 0 ≡ get_or (take w l) (from / 8 + k) 0
    at k = rw e (get_or-drop (from / 8) (take w l) k 0)

    at_later : (k : ℕ) → get_or later k 0 ≡ get_or (take w l) (from / 8 + (1 + k)) 0
    at_later k = get_or-drop 1 part k 0 ∙ at (1 + k)

    found : (i j : ℕ) → from ≤ i * 8 + j → j < 8 → 0 < get_or (take w l) i 0 / 2 ^ j → AnyFrom w l from true
    found i j lo hj p =
        let (g, after, t) = some-from w l i j b hj p in
        record { none = λ q. absurd (true≢false q); some = λ _. (g, omega arith, t) }

    first : ltb 0 here ≡ true → AnyFrom w l from (ltb 0 here || list_any (ltb 0) later)
    first h =
        rw h (found (from / 8 + 0) (from % 8) (omega arith) (omega arith) (rw (at 0) at (ltb-true 0 here h)))

    second : ltb 0 here ≡ false → list_any (ltb 0) later ≡ true
        → AnyFrom w l from (ltb 0 here || list_any (ltb 0) later)
    second h q =
        let (k, p) = not_zero later q in
        rw (h, q) (found (from / 8 + (1 + k)) 0 (omega arith) (lit< tt) (omega (arith, at_later k)))

    past : list_any (ltb 0) later ≡ false → (i : ℕ) → from / 8 + 1 ≤ i → get_or (take w l) i 0 ≡ 0
    past q i h =
        let k : i ≡ from / 8 + (1 + (i - (from / 8 + 1))) = omega arith in
        ap (λ (k : ℕ). get_or (take w l) k 0) k ∙ sym (at_later (i - (from / 8 + 1)))
        ∙ each_zero later q (i - (from / 8 + 1))

    neither : ltb 0 here ≡ false → list_any (ltb 0) later ≡ false
        → AnyFrom w l from (ltb 0 here || list_any (ltb 0) later)
    neither h q =
        let none : get_or (take w l) (from / 8 + 0) 0 / 2 ^ (from % 8) ≤ 0 = rw (at 0) at (ltb-false 0 here h) in
        rw (h, q)
        (record {
          none = λ _ g lo. ⊎_elim
              (none_from w l (from / 8 + 0) (from % 8) (omega arith) g (omega arith))
              (λ p. none_from w l (g / 8) 0 (omega (arith, past q (g / 8) (omega arith))) g (omega arith) (omega arith))
              (below_or_from g ((from / 8 + 0) * 8 + 8));
          some = λ p. absurd (false≢true p);
        })

-- Where the set ends before the byte of `from`, it has no such number.
pub none_past : (w : ℕ) (l : List ℕ) (from : ℕ) → min w (length l) ≤ from / 8 → AnyFrom w l from false
none_past w l from h =
    record { none = λ _ g lo. missing w l g (omega arith); some = λ e. absurd (false≢true e) }

-- ---- the count

-- One byte more counts its ones more.
pub count-byte : (w : ℕ) (l : List ℕ) (i : ℕ) → i < w → get_or l i 0 < 256
    → size (within w l) (i * 8 + 8) ≡ ones (get_or l i 0) + size (within w l) (i * 8)
count-byte w l i h b =
    size-add (within w l) (i * 8) 8
    ∙ ap (λ (s : ℕ). s + size (within w l) (i * 8))
    (size_same (λ k. within w l (i * 8 + k)) (on (get_or l i 0)) 8 (λ k. members-at w l i k h)
    ∙ size-on (get_or l i 0) b)

-- The bytes that the buffer has hold the whole count.
pub count-all : (w : ℕ) (l : List ℕ) → size (within w l) (8 * w) ≡ size (within w l) (min w (length l) * 8)
count-all w l = size_below (within w l) _ _ (omega arith) (λ k h. missing w l k (omega arith))

-- The ones of the bytes that the set has are its size.
pub count_ones : (w : ℕ) (l : List ℕ) → Bytes l → sum_by ones (take w l) ≡ size (within w l) (8 * w)
unfolding size
count_ones w l b =
    let all = upto (length (take w l)) (le_refl _) in
    ap (sum_by ones) (sym (take_all (length (take w l)) (take w l) (le_refl _))) ∙ all
    ∙ ap (λ (n : ℕ). size (within w l) (n * 8)) (length-take w l) ∙ sym (count-all w l)
  where
    upto : (i : ℕ) → i ≤ length (take w l) → sum_by ones (take i (take w l)) ≡ size (within w l) (i * 8)
    upto zero h = refl
    upto (suc i) h =
        let low : i < w = omega (arith, length-take w l) in
        let more : (i + 1) * 8 ≡ i * 8 + 8 = omega arith in
        rw (← add-one i, sum_by_more ones (take w l) i 0 h, upto i (omega arith), get_or-take w l i 0 low)
        (omega (arith, count-byte w l i low (b i), ap (size (within w l)) more))

-- ---- what a buffer can hold

-- "every set of its facts" (demand 3): each set of numbers below 8 * w is the set that some buffer of w bytes holds.
pub every_set : (w : ℕ) (X : Facts) → ((n : ℕ) → 8 * w ≤ n → X n ≡ false)
    → (l : List ℕ) × (length l ≡ w) × Bytes l × ((n : ℕ) → within w l n ≡ X n)
unfolding within bit
every_set zero X none = ([], refl, λ i. lit< tt, λ n. missing 0 [] n (omega arith) ∙ sym (none n (omega arith)))
every_set (suc w) X none =
    let (l, long, bytes, same) = every_set w (λ n. X (8 + n)) (λ n h. none (8 + n) (omega arith)) in
    (packed 8 X ∷ l, ap suc long, more l bytes, λ n. ⊎_elim (first l n) (later l same n) (below_or_from n 8))
  where
    more : (l : List ℕ) → Bytes l → Bytes (packed 8 X ∷ l)
    more l bytes zero = packed_lt 8 X
    more l bytes (suc i) = bytes i

    at : (l : List ℕ) (n i k : ℕ) → n / 8 ≡ i → n % 8 ≡ k
        → within (suc w) (packed 8 X ∷ l) n ≡ on (get_or (packed 8 X ∷ take w l) i 0) k
    at l n i k p q = ap₂ (λ (i k : ℕ). on (get_or (packed 8 X ∷ take w l) i 0) k) p q

    first : (l : List ℕ) (n : ℕ) → n < 8 → within (suc w) (packed 8 X ∷ l) n ≡ X n
    first l n h = at l n 0 n (omega arith) (omega arith) ∙ on-packed 8 X n h

    later : (l : List ℕ) → ((n : ℕ) → within w l n ≡ X (8 + n))
        → (n : ℕ) → 8 ≤ n → within (suc w) (packed 8 X ∷ l) n ≡ X n
    later l same n h =
        at l n (suc ((n - 8) / 8)) ((n - 8) % 8) (omega arith) (omega arith) ∙ same (n - 8) ∙ ap X (add-sub_of_le h)

-- ---- what the records say determines every byte

-- Buffers of one length that hold the same set and are the same after the first w bytes are the same list.
pub same_bytes : (w : ℕ) (a b : List ℕ) → Bytes a → Bytes b → length a ≡ length b
    → ((n : ℕ) → within w a n ≡ within w b n) → drop w a ≡ drop w b → a ≡ b
same_bytes w a b ha hb long same rest = ext_get_or 0 a b long (λ i _. ⊎_elim (near i) (far i) (below_or_from i w))
  where
    near : (i : ℕ) → i < w → get_or a i 0 ≡ get_or b i 0
    near i h =
        same_bits (get_or a i 0) (get_or b i 0) (ha i) (hb i)
        (λ k hk. sym (members-at w a i k h hk) ∙ same (i * 8 + k) ∙ members-at w b i k h hk)

    past : (l : List ℕ) (i : ℕ) → w ≤ i → get_or (drop w l) (i - w) 0 ≡ get_or l i 0
    past l i h = get_or-drop w l (i - w) 0 ∙ ap (λ (k : ℕ). get_or l k 0) (add-sub_of_le h)

    far : (i : ℕ) → w ≤ i → get_or a i 0 ≡ get_or b i 0
    far i h = sym (past a i h) ∙ ap (λ (l : List ℕ). get_or l (i - w) 0) rest ∙ past b i h

-- What an operation leaves alone and the set after it determine every byte.
pub determined : {w : ℕ} {l a b : List ℕ} → Bytes a → Bytes b → Kept w l a → Kept w l b
    → ((n : ℕ) → within w a n ≡ within w b n) → a ≡ b
determined {w} {l} {a} {b} ha hb p q same =
    same_bytes w a b ha hb (p.as_long ∙ sym q.as_long) same (p.beyond ∙ sym q.beyond)

module _ {w : ℕ} {l a b : List ℕ} (ha : Bytes a) (hb : Bytes b) where
  -- Two buffers that adding one number can leave are the same.
  pub added_unique : {n : ℕ} → Added w l n a → Added w l n b → a ≡ b
  added_unique p q = determined ha hb p.kept q.kept (λ g. p.set g ∙ sym (q.set g))

  -- Two buffers that removing one number can leave are the same.
  pub removed_unique : {n : ℕ} → Removed w l n a → Removed w l n b → a ≡ b
  removed_unique p q = determined ha hb p.kept q.kept (λ g. p.set g ∙ sym (q.set g))

  -- Two buffers that clearing can leave are the same.
  pub cleared_unique : Cleared w l a → Cleared w l b → a ≡ b
  cleared_unique p q = determined ha hb p.kept q.kept (λ g. p.set g ∙ sym (q.set g))

-- Two answers to whether a number of F or more is in the set are the same.
pub any-from_unique : {w : ℕ} {l : List ℕ} {F : ℕ} (p q : Bool) → AnyFrom w l F p → AnyFrom w l F q → p ≡ q
any-from_unique true true P Q = refl
any-from_unique true false P Q = let (g, from, t) = P.some refl in absurd (fails (Q.none refl g from) t)
any-from_unique false true P Q = let (g, from, t) = Q.some refl in absurd (fails (P.none refl g from) t)
any-from_unique false false P Q = refl
