-- What a pair's run comes to: the verdict's numbers and values by how it ends, and what it leaves in the lent buffers
-- (document 01, "Verdict numbers and the order", "The verdict also has", "Buffers").
use Rattle.std.specs.Prelude.{ℕ, ◌+◌, ◌≡◌, List}
use Rattle.meaning.specs.Model.{Model}
use Rattle.meaning.specs.Rounds.{round_number}
use Rattle.meaning.specs.Run.{Ending, Outcome, run}
use Rattle.meaning.specs.Run.Ending.{attack, blocked, not_met, upheld}
use Rattle.facts.specs.Facts.{members, Kept}
use Rattle.files.specs.Files.{model_of_lem, trace_of}
use Rattle.files.specs.Answers.{entry_part_lem, goal_part_lem}
use Rattle.files.specs.declared.Part.{Part}
use Rattle.closing.specs.Closing.{Filled}
use Rattle.stepping.specs.Conditions.{names_in, stop_number, fact_in, kind_in, round_in}
use Rattle.reaching.specs.Reaching.{Lent}
use Rattle.running.specs.declared.Verdict.{Verdict}

-- ---- the numbers and values of each ending

-- "For 0 and 1: the empty part at the model's start."
abbrev pub nothing : Part
nothing = record { mark = 0; start = 0; size = 0 }

-- 0 ATTACK, 10 BLOCKED, 11 NOATTACK, 13 USED; "ATTACK exactly if the formula is false in the last state" (document 02,
-- wish 11), so that a formula that is true is 11
unfoldable pub number_of : Ending → ℕ
unfolding stop_number
number_of attack = 0
number_of (blocked c) = stop_number c
number_of (not_met c) = 11
number_of upheld = 11

-- "for 10 and 11 the first unmet condition ..; otherwise 65,535"; for a formula "NOATTACK then has no fact" (wish 11)
unfoldable pub fact_of : Ending → ℕ
unfolding fact_in
fact_of attack = 65535
fact_of (blocked c) = fact_in c
fact_of (not_met c) = fact_in c
fact_of upheld = 65535

-- 0 "where there is no value"
unfoldable pub kind_of : Ending → ℕ
unfolding kind_in
kind_of attack = 0
kind_of (blocked c) = kind_in c
kind_of (not_met c) = kind_in c
kind_of upheld = 0

-- 65,535 "where there is no value"
unfoldable pub round_of_lem : (ℕ → ℕ) → Ending → ℕ
unfolding round_in
round_of_lem number attack = 65535
round_of_lem number (blocked c) = round_in number c
round_of_lem number (not_met c) = round_in number c
round_of_lem number upheld = 65535

-- "9 and 10: the two bytes in the trace. 11: the attack state's record.": the blocked step's entry stands after the
-- attack state's; for 13 "all else as for BLOCKED"; of a formula that is true, "its part is the formula's record" (wish
-- 11)
unfoldable pub part_for : List ℕ → List ℕ → ℕ → Ending → Part
unfolding entry_part_lem goal_part_lem trace_of
part_for m t step attack = nothing
part_for m t step (blocked c) = entry_part_lem t (1 + step)
part_for m t step (not_met c) = goal_part_lem m (trace_of t).goal
part_for m t step upheld = goal_part_lem m (trace_of t).goal

-- ---- the verdict of a run

-- the outcome of the pair's run
unfoldable pub outcome : List ℕ → List ℕ → Outcome
unfolding run model_of_lem trace_of
outcome m t = run (model_of_lem m) (trace_of t)

-- an outcome as a verdict
unfoldable pub ran : List ℕ → List ℕ → Outcome → Verdict
unfolding number_of fact_of kind_of round_of_lem round_number part_for
ran m t o = record {
  number = number_of o.ending;
  step = o.step;
  fact = fact_of o.ending;
  rounds = o.rounds;
  held = o.held;
  kind = kind_of o.ending;
  round = round_of_lem (round_number (model_of_lem m).clauses o.state.facts) o.ending;
  part = part_for m t o.step o.ending;
}

-- ---- the buffers

-- "For 0, 10 and 11 the first 512 bytes hold the last state reached .. bits from F on are zero. The first 4,096 table
-- entries hold that state's round numbers .. Anything beyond is unchanged."; the names' bytes "wherever the state is
-- written"
pub record Left (m : Model) (o : Outcome) (before after : Lent) : Type 0 where
  pub facts : (g : ℕ) → members after.state g ≡ o.state.facts g
  pub kept : Kept 512 before.state after.state
  pub names : (n : ℕ) → names_in after.names n ≡ o.state.names n
  pub names-kept : Kept 128 before.names after.names
  pub rounds : Filled m.clauses o.state.facts before.table after.table
