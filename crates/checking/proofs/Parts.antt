-- Laws on the bytes at fault, by what decides the verdict.
use Prim.Native.Nat.{ℕ}
use mathlib.Core.Path.{◌≡◌, refl, ◌∙◌, ap}
use mathlib.Core.List.{List}
use mathlib.Core.Option.{none, some}
use native.Mathlib.Omega.{arith}
use lib.Dec.{ltb}
use lib.ListN.{length}
use Rattle.sets.proofs.Laws.{by-test}
use Rattle.meaning.specs.Run.{Outcome}
use Rattle.meaning.specs.Promises.{EndsSo}
use Rattle.meaning.specs.Promises.EndsSo.{attack, blocked, not_met}
use Rattle.files.specs.Files.{Blamed, model_of_lem, trace_of, pair_fault}
use Rattle.files.specs.Files.Blamed.{model, trace}
use Rattle.files.specs.Answers.{blamed_number, blamed_part, bytes_at, part_of, entry_part_lem, record_part_lem}
use Rattle.files.specs.Answers.{goal_part_lem}
use Rattle.causes.specs.Causes.{Cause}
use Rattle.causes.proofs.Causes.{FoundIn, pair_cause, cause_range}
use Rattle.causes.proofs.Named.{step_part, goal-within, state-named, formula-named}
use Rattle.checking.specs.Verdict.{refused, blamed}
use Rattle.running.specs.Outcomes.{number_of, part_for, ran}
use Rattle.checking.specs.Promises.{Stopping, AtFault, InFile}
use Rattle.checking.specs.Promises.InFile.{in_model, in_trace}
use Rattle.running.specs.declared.Verdict.{Verdict}
use Rattle.running.proofs.Parts.{goal-ends, blocked-at}
use Rattle.checking.proofs.Causes.{refusing_is, stopping_is, stop_range}

-- The bytes of a cause are those at fault.
by-cause : {m t : List ℕ} {v : Verdict} → Cause m t v.part.mark v.number (part_of m t v.part) → AtFault m t v
by-cause c = let (r, _) = cause_range c in record {
  empty = λ h. absurd (omega (arith, refusing_is r));
  cause = λ _. c;
  entry = λ h. absurd (omega (arith, refusing_is r, stopping_is h));
  state = λ h. absurd (omega (arith, refusing_is r));
  formula = λ h. absurd (omega (arith, refusing_is r));
}

-- A goal's part is the model's.
goal-mark : (m : List ℕ) (g : ℕ) → (goal_part_lem m g).mark ≡ 0
unfolding goal_part_lem record_part_lem
goal-mark m g = by-test (ltb g (length (model_of_lem m).goals)) (λ e. rw e) (λ e. rw e)

module _ (m t : List ℕ) where
  -- Those of a fault lie in its file,
  pub fault_in : (b : Blamed) → FoundIn m t b → InFile m t (blamed_part b)
  unfolding blamed_part
  fault_in (model f) found = in_model refl found.within
  fault_in (trace f) found = in_trace refl found.within

  -- and are those of its cause.
  pub fault-at : (b : Blamed) → pair_fault m t ≡ some b → AtFault m t (blamed b)
  unfolding blamed refused blamed_number blamed_part part_of bytes_at
  fault-at (model f) e = by-cause (pair_cause m t (model f) e).cause
  fault-at (trace f) e = by-cause (pair_cause m t (trace f) e).cause

  module _ (fine : pair_fault m t ≡ none) {o : Outcome} where
    -- Those of a run lie in the file marked,
    pub run_in : EndsSo (model_of_lem m) (trace_of t).goal (trace_of t).steps o → InFile m t (ran m t o).part
    unfolding ran part_for entry_part_lem goal_part_lem
    run_in (attack e s a) = rw e (in_model refl (omega arith))
    run_in (blocked c e s X h u) = rw e (in_trace refl (step_part m t fine o.step s).0)
    run_in (not_met x e s X h u) =
        let part = (goal-ends m t o.step u).1 in
        rw (e, part) (in_model (goal-mark m (trace_of t).goal) (goal-within m t fine))

    -- and are those that the ending names.
    pub run_at : EndsSo (model_of_lem m) (trace_of t).goal (trace_of t).steps o → AtFault m t (ran m t o)
    unfolding ran number_of part_for
    run_at (attack e s a) =
        let number : number_of o.ending ≡ 0 = rw e in
        record {
          empty = λ _. rw e;
          cause = λ h. absurd (omega (arith, refusing_is h));
          entry = λ h. absurd (omega (arith, stopping_is h));
          state = λ h. absurd (omega arith);
          formula = λ h. absurd (omega arith);
        }
    run_at (blocked c e s X h u) =
        let number : Stopping (number_of o.ending) = rw e (stop_range c) in
        record {
          empty = λ h. absurd (omega (arith, stopping_is number));
          cause = λ h. absurd (omega (arith, stopping_is number, refusing_is h));
          entry = λ _. rw e (blocked-at m t fine c s);
          state = λ h. absurd (omega (arith, stopping_is number));
          formula = λ h. absurd (omega (arith, stopping_is number));
        }
    run_at (not_met x e s X h u) =
        let number = ap number_of e ∙ (goal-ends m t o.step u).0 in
        let part = ap (part_for m t o.step) e ∙ (goal-ends m t o.step u).1 in
        record {
          empty = λ h. absurd (omega arith);
          cause = λ h. absurd (omega (arith, refusing_is h));
          entry = λ h. absurd (omega (arith, stopping_is h));
          state = λ _ l. rw part (goal-mark m (trace_of t).goal, (state-named m t fine l).1);
          formula = λ _ l. rw part (goal-mark m (trace_of t).goal, (formula-named m t fine l).1);
        }
