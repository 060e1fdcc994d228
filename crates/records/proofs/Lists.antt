-- Laws on the lists of a record: which number is their largest, and what one more list does to the marks.
use Prim.Native.Nat.{ℕ, suc, ◌+◌, ◌*◌, ◌%◌, ◌≤◌, ◌<◌}
use mathlib.Core.Path.{◌≡◌, refl}
use mathlib.Core.Bool.{Bool, true, false, ◌||◌, cond, or-true, or-false, or_assoc}
use mathlib.Core.List.{List, [], ◌∷◌}
use mathlib.Core.Option.{Option, none, some, map}
use lib.Dec.{leb, ltb, eqb}
use native.Mathlib.Nat.{not-suc-le-zero, suc-ne-zero}
use native.Mathlib.Omega.{arith}
use lib.ListN.{length, take, drop}
use borrow.Author.Tests.{leb-false, le-ltb, le-leb, lt-leb}
use Rattle.sets.proofs.Laws.{by-test}
use Rattle.records.specs.Words.{word, words, odd}
use Rattle.records.specs.Records.{bare, cut_lists, cut_clause}
use Rattle.records.specs.Marking.{marked_by, picked, picked_of}
use Rattle.records.specs.declared.Marks.{Marks}
use Rattle.records.specs.declared.Row.{Row}
use Rattle.records.proofs.Words.{odd_is, length-words}

-- ---- numbers that ascend

-- the number before a larger one reaches no limit that the larger one doesn't
pub largest_last : (limit x y : ℕ) (later : Bool) → x < y
    → (leb limit x || (leb limit y || later)) ≡ (leb limit y || later)
largest_last limit x y later h =
    by-test (leb limit y)
    (λ e. rw (e, or-true))
    (λ e. let above = leb-false limit y e in rw (lt-leb limit x (omega arith)))

-- ---- cutting a record's bytes into lists

-- the first list, where the bytes have it
pub cut-next : (k : ℕ) (bytes : List ℕ) → 2 + 2 * word bytes ≤ length bytes
    → cut_lists (suc k) bytes
    ≡ map (λ rest. words (take (2 * word bytes) (drop 2 bytes)) ∷ rest)
    (cut_lists k (drop (2 + 2 * word bytes) bytes))
unfolding cut_lists
cut-next k bytes h = rw (le-leb (2 + 2 * word bytes) (length bytes) h)

-- bytes that end before the first list does
pub cut_short : (k : ℕ) (bytes : List ℕ) → length bytes < 2 + 2 * word bytes → cut_lists (suc k) bytes ≡ none
unfolding cut_lists
cut_short k bytes h = rw (lt-leb (2 + 2 * word bytes) (length bytes) h)

-- bytes left over
pub cut-over : (bytes : List ℕ) → 0 < length bytes → cut_lists 0 bytes ≡ none
unfolding cut_lists
cut-over [] h = absurd (not-suc-le-zero h)
cut-over (b ∷ bytes) h = refl

-- no bytes
pub empty : (bytes : List ℕ) → length bytes ≡ 0 → bytes ≡ []
empty [] e = refl
empty (b ∷ bytes) e = absurd (suc-ne-zero _ e)

-- a clause's tests in the code's order, and its two lists in the code's parts
pub clause_tests : (bytes : List ℕ)
    → cut_clause bytes
    ≡ cond (ltb (length bytes) 2 || eqb (length bytes % 2) 1) none
    (some (words (take 2 bytes) ∷ words (drop 2 bytes) ∷ []))
unfolding cut_clause word words odd
clause_tests [] = refl
clause_tests (a ∷ []) = refl
clause_tests (a ∷ b ∷ rest) =
    rw (le-ltb (length (a ∷ b ∷ rest)) 2 (omega arith), or-false (odd rest), odd_is (a ∷ b ∷ rest))

-- ---- the number for some marks and the lists still to come

-- no more lists
pub picked-end : (rows : List Row) (m : Marks) → picked_of rows m (some []) ≡ picked m
unfolding picked_of
picked-end rows m = rw (or-false m.count, or-false m.fact, or-false m.name, or-false m.order)

-- one more list, whose row is the first
pub picked_more : (m : Marks) {row : Row} {r : Marks} (rows later : List Row) (l : List ℕ) → rows ≡ row ∷ later
    → r ≡ marked_by row l m → (lists : Option (List (List ℕ)))
    → picked_of rows m (map (λ rest. l ∷ rest) lists) ≡ picked_of later r lists
unfolding picked_of marked_by
picked_more m rows later l first is none = refl
picked_more m rows later l first is (some lists) = rw (first, is) (simp or_assoc)

-- the same for what is left of the body
module _ (rows : List Row) (m : Marks) (rest : List ℕ) (left : ℕ) where
  -- no more lists, and bytes left over
  pub number-over : left ≡ 0 → 0 < length rest → picked_of rows m (cut_lists left rest) ≡ some 4
  unfolding picked_of
  number-over done h = rw (done, cut-over rest h)

  -- none left over
  pub number-end : left ≡ 0 → length rest ≡ 0 → picked_of rows m (cut_lists left rest) ≡ picked m
  unfolding cut_lists
  number-end done h = rw (done, empty rest h) (picked-end rows m)

  -- one more list, and k after it
  module _ (k : ℕ) (more : left ≡ suc k) where
    -- the list does not fit
    pub number_short : length rest < 2 + 2 * word rest → picked_of rows m (cut_lists left rest) ≡ some 4
    unfolding picked_of
    number_short h = rw (more, cut_short k rest h)

    -- the list fits
    pub number-next : (row : Row) (later : List Row) (r : Marks) → rows ≡ row ∷ later
        → 2 + 2 * word rest ≤ length rest
        → r ≡ marked_by row (words (take (2 * word rest) (drop 2 rest))) m
        → picked_of rows m (cut_lists left rest) ≡ picked_of later r (cut_lists k (drop (2 + 2 * word rest) rest))
    number-next row later r first h marks =
        rw (more, cut-next k rest h)
        (picked_more m rows later (words (take (2 * word rest) (drop 2 rest))) first marks
        (cut_lists k (drop (2 + 2 * word rest) rest)))

-- ---- bare numbers

-- an odd byte is left over
pub bare-odd : (names : Bool) (limit : ℕ) (bytes : List ℕ) → eqb (length bytes % 2) 1 ≡ true
    → bare names limit bytes ≡ some 4
unfolding bare
bare-odd names limit bytes e = rw (odd_is, e)

-- otherwise the marks of one list tell, which is as long as its bytes allow
pub bare-even : (names : Bool) (limit : ℕ) (bytes : List ℕ) (r : Marks) → eqb (length bytes % 2) 1 ≡ false
    → let row : Row = record { longest = length bytes; limit = limit; names = names } in
    let none : Marks = record { count = false; fact = false; name = false; order = false } in
    r ≡ marked_by row (words bytes) none
    → bare names limit bytes ≡ picked r
unfolding bare picked marked_by
bare-even names limit bytes r e is =
    let within : length (words bytes) ≤ length bytes = omega (arith, length-words bytes) in
    rw (odd_is, e, is, le-ltb (length bytes) (length (words bytes)) within)
