-- The verdict by each ending.
use Rattle.std.proofs.Common.{◌≡◌, ◌<◌, ℕ, List, length, sym, ap, ◌∙◌, subst, arith}
use mathlib.Core.Logic.{inl, inr}
use mathlib.Core.Option.{none}
use Rattle.meaning.specs.Model.{aims}
use Rattle.files.specs.Files.{pair_fault, model_of_lem, trace_of}
use Rattle.files.specs.Answers.{goal_part_lem}
use Rattle.files.proofs.Traces.{pair_shape, pair_fits, pair_entries, pair_few, pair_goal-known}
use Rattle.stepping.specs.Conditions.{condition_of, KnownIn}
use Rattle.stepping.specs.declared.conditions.Condition.TheVariants as condition
use Rattle.running.specs.Running.{ending_of, Shows}
use Rattle.running.specs.Outcomes.{outcome}
use Rattle.running.specs.declared.Ended.{Ended}
use Rattle.running.specs.declared.Ending.TheVariants as ends
use Rattle.running.proofs.Ends.{ending-known, round_is}
use Rattle.running.proofs.Verdicts.{ran-attack, ran-blocked, ran-not_met, ran-upheld}
use Rattle.running.proofs.verdict_of.Goals as goal

-- the ending's condition has an entry
module _ (m t : List ℕ) (fine : pair_fault m t ≡ none) {steps held : ℕ} {e : Ended}
    (shows : Shows (outcome m t) steps e held) (c : condition.the_data) where
  known-blocked : e.ending ≡ ends.Blocked c → KnownIn (condition_of c)
  unfolding ending_of
  known-blocked told = ending-known m t fine (condition_of c) (inl (sym shows.ending ∙ ap ending_of told))

  known_not_met : e.ending ≡ ends.NotMet c → KnownIn (condition_of c)
  unfolding ending_of
  known_not_met told = ending-known m t fine (condition_of c) (inr (sym shows.ending ∙ ap ending_of told))

-- a trace that is judged names a goal that the model has
named : (m t : List ℕ) → pair_fault m t ≡ none → {g : ℕ} → g ≡ (trace_of t).goal → g < length (aims (model_of_lem m))
named m t fine is = subst (λ g. g < length (aims (model_of_lem m))) (sym is) (pair_goal-known m t fine)

pub round_of-requires : goal.round_of-requires
round_of-requires c = (known-blocked _ _ c.requires.0 c.requires.1 _ c.in-Blocked.is, c.requires.2.long)

pub overflow_add-step : goal.overflow_add-step
overflow_add-step c = omega (arith, c.requires.1.within, pair_few _ _ c.requires.0)

pub entry_part-requires : goal.entry_part-requires
entry_part-requires c = omega (arith, c.requires.1.within, pair_few _ _ c.requires.0)

pub round_of-requires-in-NotMet : goal.round_of-requires-in-NotMet
round_of-requires-in-NotMet c = (known_not_met _ _ c.requires.0 c.requires.1 _ c.in-NotMet.is, c.requires.2.long)

pub goal_of-requires : goal.goal_of-requires
goal_of-requires c = (pair_fits _ _ c.requires.0, omega (arith, pair_entries _ _ c.requires.0))

pub goal_part-requires : goal.goal_part-requires
goal_part-requires c = (pair_shape _ _ c.requires.0, named _ _ c.requires.0 c.goal_of.ensures)

pub goal_of-requires-in-Upheld : goal.goal_of-requires-in-Upheld
goal_of-requires-in-Upheld c = (pair_fits _ _ c.requires.0, omega (arith, pair_entries _ _ c.requires.0))

pub goal_part-requires-in-Upheld : goal.goal_part-requires-in-Upheld
goal_part-requires-in-Upheld c = (pair_shape _ _ c.requires.0, named _ _ c.requires.0 c.goal_of-in-Upheld.ensures)

pub returns-in-Attack : goal.returns-in-Attack
returns-in-Attack c = ran-attack _ _ _ _ c.requires.1 c.in-Attack.is

pub returns-in-Blocked : goal.returns-in-Blocked
returns-in-Blocked c =
    let known = known-blocked _ _ c.requires.0 c.requires.1 _ c.in-Blocked.is in
    ran-blocked _ _ _ _ c.requires.1 _ c.fact_of.ensures c.kind_of.ensures
    (c.round_of.ensures ∙ round_is _ _ c.requires.2 _ known) (c.number.ensures ∙ c.refusal_of.ensures)
    c.in-Blocked.is c.entry_part.ensures

pub returns-in-NotMet : goal.returns-in-NotMet
returns-in-NotMet c =
    let known = known_not_met _ _ c.requires.0 c.requires.1 _ c.in-NotMet.is in
    rw (c.number-in-NotMet.ensures)
    (ran-not_met _ _ _ _ c.requires.1 _ c.fact_of-in-NotMet.ensures c.kind_of-in-NotMet.ensures
    (c.round_of-in-NotMet.ensures ∙ round_is _ _ c.requires.2 _ known) c.in-NotMet.is
    (c.goal_part.ensures ∙ ap (goal_part_lem c.args.model.now) c.goal_of.ensures))

pub returns-in-Upheld : goal.returns-in-Upheld
returns-in-Upheld c =
    rw (c.number-in-Upheld.ensures)
    (ran-upheld _ _ _ _ c.requires.1 c.in-Upheld.is
    (c.goal_part-in-Upheld.ensures ∙ ap (goal_part_lem c.args.model.now) c.goal_of-in-Upheld.ensures))
