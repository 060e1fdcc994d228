-- For models of versions 1 and 2 nothing changed: a model of the same lists without names has the same verdicts, and
-- leaves the same in what is lent.
use Prim.Native.Nat.{ℕ}
use mathlib.Core.Path.{◌≡◌, refl, sym, ap, subst, ◌∙◌}
use mathlib.Core.List.{List}
use mathlib.Core.Option.{Option, none, some}
use native.Mathlib.Omega.{arith}
use Rattle.meaning.specs.Model.{Model}
use Rattle.meaning.specs.Rounds.{round_number}
use Rattle.meaning.specs.Run.{Outcome, run}
use Rattle.files.specs.Files.{model_of_lem, trace_of, model_fault}
use Rattle.files.proofs.Laws.{none_named, none-formulas}
use Rattle.causes.proofs.Alike.{same-fault}
use Rattle.reaching.specs.Reaching.{Lent}
use Rattle.running.specs.Outcomes.{number_of, fact_of, kind_of, round_of_lem, outcome, ran}
use Rattle.checking.specs.Verdict.{refusal}
use Rattle.checking.specs.Verdict.{verdict_of_lem, Buffers, Checked}
use Rattle.running.specs.Outcomes.{Left}
use Rattle.checking.specs.Promises.{Line, shown, verdict, SameLists}
use Rattle.running.specs.declared.Verdict.{Verdict}
use Rattle.checking.proofs.Theorems.{LentBytes, left_unique}

-- They are one model.
same-model : (one two : List ℕ) → SameLists one two → model_of_lem one ≡ model_of_lem two
same-model one two same = λ i. record {
  F = same.F i;
  initial = same.initial i;
  persistent = same.persistent i;
  names = (none_named one same.version ∙ sym same.none-names) i;
  clauses = same.clauses i;
  rules = same.rules i;
  goals = same.goals i;
  formulas = (none-formulas one (omega (arith, same.version)) ∙ sym same.none-formulas) i;
}

-- what the verdict of an outcome shows
abbrev line : Model → Outcome → Line
line M o = record {
  number = number_of o.ending;
  step = o.step;
  fact = fact_of o.ending;
  rounds = o.rounds;
  held = o.held;
  kind = kind_of o.ending;
  round = round_of_lem (round_number M.clauses o.state.facts) o.ending;
}

module _ {one two : List ℕ} (t : List ℕ) (fine-one : model_fault one ≡ none) (fine-two : model_fault two ≡ none)
    (same : SameLists one two) where
  same_outcome : outcome one t ≡ outcome two t
  unfolding outcome
  same_outcome = ap (λ (M : Model). run M (trace_of t)) (same-model one two same)

  same-refusal : (l : Lent) → refusal one t l ≡ refusal two t l
  unfolding refusal
  same-refusal l = rw (same-fault one two t fine-one fine-two (same-model one two same))

  -- What a verdict shows is the same, whatever is lent and whatever the trace.
  pub nothing-changed : (l : Lent) → shown (verdict one t l) ≡ shown (verdict two t l)
  unfolding verdict_of_lem ran
  nothing-changed l = ap (λ (r : Option Verdict). shown (verdict_of_lem one t r)) (same-refusal l) ∙ go (refusal two t l)
    where
      go : (r : Option Verdict) → shown (verdict_of_lem one t r) ≡ shown (verdict_of_lem two t r)
      go none = λ i. line (same-model one two same i) (same_outcome i)
      go (some v) = refl

  -- So is every byte and entry that a check leaves.
  pub nothing-left-changed : {l a b : Lent} → LentBytes a → LentBytes b → {v w : Verdict}
      → Checked one t l a v → Checked two t l b w → a ≡ b
  unfolding Buffers
  nothing-left-changed {l} {a} {b} bytes-a bytes-b x y =
      go (refusal two t l) (subst (λ (r : Option Verdict). Buffers one t r l a) (same-refusal l) x.buffers)
      y.buffers
    where
      go : (r : Option Verdict) → Buffers one t r l a → Buffers two t r l b → a ≡ b
      go none p q =
          let p' : Left (model_of_lem two) (outcome two t) l a =
          subst (λ ((M, o) : Model × Outcome). Left M o l a) (λ i. (same-model one two same i, same_outcome i)) p in
          left_unique two t l bytes-a bytes-b p' q
      go (some v) p q = p ∙ sym q
