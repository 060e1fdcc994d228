-- Laws on the bytes at fault of a run, by how it ended.
use Prim.Native.Nat.{ℕ, ◌<◌}
use mathlib.Core.Path.{◌≡◌, refl}
use mathlib.Core.List.{List}
use mathlib.Core.Option.{none}
use lib.ListN.{length, get_or}
use Rattle.sets.specs.Sets.{Facts}
use Rattle.meaning.specs.Past.{History}
use Rattle.meaning.specs.Model.{Aim}
use Rattle.meaning.specs.Run.{Condition, Ending}
use Rattle.meaning.specs.Run.Ending.{blocked}
use Rattle.meaning.specs.Promises.{GoalUnmet, lacks, still_true}
use Rattle.records.specs.Words.{word}
use Rattle.files.specs.Files.{trace_of, pair_fault}
use Rattle.files.specs.Answers.{part_of, entry_part_lem, goal_part_lem}
use Rattle.causes.proofs.Named.{step_part}
use Rattle.running.specs.Outcomes.{number_of, part_for}

-- A run whose goal isn't met has 11 and the goal's part.
pub goal-ends : (m t : List ℕ) (step : ℕ) {X used : Facts} {past : History} {A : Aim} {x : Ending}
    → GoalUnmet X used past A x → (number_of x ≡ 11) × (part_for m t step x ≡ goal_part_lem m (trace_of t).goal)
unfolding number_of part_for
goal-ends m t step (lacks h) = (refl, refl)
goal-ends m t step (still_true h) = (refl, refl)

-- A blocked run's part is two bytes of the trace, the number of the blocked step's rule.
pub blocked-at : (m t : List ℕ) → pair_fault m t ≡ none → (c : Condition) {step : ℕ} → step < length (trace_of t).steps
    → let part = part_for m t step (blocked c) in
    (part.mark ≡ 1) × (length (part_of m t part) ≡ 2) × (word (part_of m t part) ≡ get_or (trace_of t).steps step 0)
unfolding part_for entry_part_lem
blocked-at m t fine c {step} h = let (_, two, is) = step_part m t fine step h in (refl, two, is)
