-- The trace of a judged pair names a goal that the model has.
use Rattle.std.proofs.Common.{◌<◌, length, sym, subst, arith}
use Rattle.meaning.specs.Model.{aims}
use Rattle.files.specs.Files.{model_of_lem}
use Rattle.files.specs.Known.{GoalCodes}
use Rattle.files.proofs.Traces.{pair_shape, pair_fits, pair_entries, pair_goal-known}
use Rattle.reaching.proofs.goal_codes.Goals as goal

pub goal_of-requires : goal.goal_of-requires
goal_of-requires c = (pair_fits _ _ c.requires, omega (arith, pair_entries _ _ c.requires))

pub formula-requires : goal.formula-requires
formula-requires c = (
  pair_shape _ _ c.requires,
  subst (λ g. g < length (aims (model_of_lem c.args.model.now))) (sym c.goal_of.ensures)
      (pair_goal-known _ _ c.requires),
)

pub returns : goal.returns
returns c = subst (λ g. GoalCodes c.args.model.now g c.formula.result.now) c.goal_of.ensures c.formula.ensures
