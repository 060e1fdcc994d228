-- How a formula is taken from state to state: one pass over its codes from the last to the first, with the values that
-- wait for their operator as bits of one number, and one bit kept for each code (document 02, wish 11). That this is
-- the formula's truth is what Remembering.antt is about.
use Rattle.std.specs.Prelude.{ℕ, suc, ◌+◌, ◌*◌, ◌/◌, ◌%◌, ◌≡◌, Bool, not, ◌&&◌, ◌||◌, cond, List, [], ◌∷◌, ltb, eqb}
use Rattle.sets.specs.Sets.{Facts}
use Rattle.facts.specs.Facts.{within, room, Kept}
use Rattle.records.specs.Words.{words}
use Rattle.records.specs.Codes.{over_one_lem}
use Rattle.closing.specs.Closing.{numbered}

-- ---- the values that wait

-- the number with one bit more, the last value; only 64 bits are there, and a formula "at most 32 deep" needs no more
unfoldable pub pushed : ℕ → Bool → ℕ
pushed waiting value = waiting % 9223372036854775808 * 2 + cond value 1 0

-- the last value
unfoldable pub top : ℕ → Bool
top waiting = eqb (waiting % 2) 1

-- the values that are left when an operator has taken its parts'
unfoldable pub left : ℕ → ℕ → ℕ
unfolding over_one_lem
left c waiting = cond (over_one_lem c) (waiting / 2) (waiting / 4)

-- ---- an operator

-- "in this order, not, and, or, implies, Yesterday, Once, Historically, Since": an operator's value by those of its
-- parts, and by the bit that it kept from the state before
unfoldable pub value_of : ℕ → Bool → Bool → Bool → Bool
value_of c p q bit =
    cond (eqb c 32768) (not p)
    (cond (eqb c 32769) (p && q)
    (cond (eqb c 32770) (p || q)
    (cond (eqb c 32771) (not p || q)
    (cond (eqb c 32772) bit (cond (eqb c 32773) (p || bit) (cond (eqb c 32774) (p && not bit) (q || p && bit)))))))

-- the operators that keep a bit are the last four
unfoldable pub keeps : ℕ → Bool
keeps c = ltb 32771 c

-- the bit to keep: Yesterday's is its part's value; Historically's is true once it is false, so that every bit is false
-- at the start
unfoldable pub bit_of : ℕ → Bool → Bool → Bool
bit_of c p value = cond (eqb c 32772) p (cond (eqb c 32774) (not value) value)

-- ---- the pass

-- The values that wait, and the set of the places whose bit is kept as true.
pub record Values : Type 0 where
  pub waiting : ℕ
  pub kept : Facts

-- the set with the bit of one place written, where there is room for it
unfoldable pub written : Facts → ℕ → Bool → Facts → Facts
written space i bit kept j = cond (eqb j i) (bit && space i) (kept j)

-- the value of the operator at a place
unfoldable pub value_at : ℕ → ℕ → Values → Bool
unfolding top value_of
value_at i c v = value_of c (top v.waiting) (top (v.waiting / 2)) (v.kept i)

-- after the operator at a place
unfoldable pub operated : Facts → ℕ → ℕ → Values → Values
unfolding pushed top left keeps bit_of written value_at
operated space i c v =
    record {
      waiting = pushed (left c v.waiting) (value_at i c v);
      kept = cond (keeps c) (written space i (bit_of c (top v.waiting) (value_at i c v)) v.kept) v.kept;
    }

-- after the code at a place: "below 32,768 a fact", "read in the closure"
unfoldable pub stepped : Facts → Facts → ℕ → ℕ → Values → Values
unfolding pushed operated
stepped X space i c v =
    cond (ltb c 32768) (record { waiting = pushed v.waiting (X c); kept = v.kept }) (operated space i c v)

-- after all codes from a place on, the last of them first
unfoldable pub values : Facts → Facts → ℕ → List ℕ → Values → Values
unfolding stepped
values X space i [] v = v
values X space i (c ∷ codes) v = stepped X space i c (values X space (suc i) codes v)

-- ---- what the functions do to the kept bits

-- the bit of one place is written, and nothing else
pub record Written (bytes : List ℕ) (i : ℕ) (bit : Bool) (after : List ℕ) : Type 0 where
  pub bits : (j : ℕ) → within 32 after j ≡ written (room 32 bytes) i bit (within 32 bytes) j
  pub kept : Kept 32 bytes after

-- the values that wait and the kept bits are these, and nothing else is changed
pub record Turned (v : Values) (bytes after : List ℕ) (waiting : ℕ) : Type 0 where
  pub number : waiting ≡ v.waiting
  pub bits : (j : ℕ) → within 32 after j ≡ v.kept j
  pub kept : Kept 32 bytes after

-- the values that wait are in a number, the kept bits in the first 32 bytes
abbrev pub values_in : ℕ → List ℕ → Values
values_in waiting bytes = record { waiting = waiting; kept = within 32 bytes }

-- ---- what `advance` does

-- after the pass over all codes, in the state whose round numbers are in the table; before it no value waits
abbrev pub passed : List ℕ → List ℕ → List ℕ → Values
passed codes table bytes = values (numbered table) (room 32 bytes) 0 (words codes) (values_in 0 bytes)

-- The answer is the one value that waits in the end, the kept bits are those of the pass, and nothing else is changed.
-- Where there are no codes nothing is: no value waits, and the bits are those from before.
pub record Advanced (codes table bytes after : List ℕ) (answer : Bool) : Type 0 where
  pub value : answer ≡ top (passed codes table bytes).waiting
  pub bits : (j : ℕ) → within 32 after j ≡ (passed codes table bytes).kept j
  pub kept : Kept 32 bytes after
