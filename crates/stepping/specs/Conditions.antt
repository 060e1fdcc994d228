-- The used names in their bytes, a condition in the words of `meaning`, and what an unmet one says in a verdict
-- (document 01, "The verdict also has"; document 02, wishes 7 and 9).
use Rattle.std.specs.Prelude.{ℕ, ◌<◌, List, Option as Found, Some, None}
use Rattle.std.proofs.Math.Option.{Option, none, some}
use Rattle.sets.specs.Sets.{Facts}
use Rattle.meaning.specs.Run.{Condition}
use Rattle.meaning.specs.Run.Condition.{positive, negative, unused}
use Rattle.facts.specs.Facts.{within}
use Rattle.stepping.specs.declared.conditions.Condition.TheVariants as condition

-- ---- what is asked

-- "the new bytes hold the last state's used names, laid out like facts" (document 02, wish 9)
abbrev pub names_in : List ℕ → Facts
names_in = within 128

unfoldable pub condition_of : condition.the_data → Condition
condition_of (condition.Positive f) = positive f
condition_of (condition.Negative f) = negative f
condition_of (condition.Unused n) = unused n

abbrev pub unmet_in : Found condition.the_data → Option Condition
unmet_in None = none
unmet_in (Some c) = some (condition_of c)

-- a table has an entry for the condition's fact, where it is judged by the table
unfoldable pub KnownIn : Condition → Type 0
KnownIn (positive f) = f < 4096
KnownIn (negative f) = f < 4096
KnownIn (unused n) = Unit

-- ---- what a verdict says of it

-- a step that can't fire: 10 BLOCKED; "a used one is 13 USED" (document 02, wish 9)
unfoldable pub stop_number : Condition → ℕ
stop_number (positive f) = 10
stop_number (negative f) = 10
stop_number (unused n) = 13

-- a condition's fact; "the verdict's fact being the first used name"
unfoldable pub fact_in : Condition → ℕ
fact_in (positive f) = f
fact_in (negative f) = f
fact_in (unused n) = n

-- document 02, wish 7: "whether the unmet one was positive or negative": 1 is positive, 2 negative; of a used name,
-- "kind and round none"
unfoldable pub kind_in : Condition → ℕ
kind_in (positive f) = 1
kind_in (negative f) = 2
kind_in (unused n) = 0

-- "if negative, the round in which its fact arose", by the round numbers of the state in which it was judged
unfoldable pub round_in : (ℕ → ℕ) → Condition → ℕ
round_in number (positive f) = 65535
round_in number (negative f) = number f
round_in number (unused n) = 65535
