-- The steps, then the last state closed for the fact.
use Rattle.std.proofs.Common.{arith}
use Rattle.files.proofs.Traces.{pair_shape}
use Rattle.closing.specs.Closing.Way.{indexed}
use Rattle.reaching.specs.Reaching.{aimed}
use Rattle.reaching.proofs.Aiming.{keeps_zeros}
use Rattle.holding.proofs.Answers.{asks-blocked, asks-worked}
use Rattle.holding.proofs.run_for.Goals as goal

pub goal_codes-codes-requires : goal.goal_codes-codes-requires
goal_codes-codes-requires c = c.requires.0.fine

pub reach-reached-requires : goal.reach-reached-requires
reach-reached-requires c = (
  c.requires.0,
  c.goal_codes-codes.ensures,
  keeps_zeros (aimed c.args.model.now c.args.trace.now),
  indexed c.requires.1 c.requires.2,
)

pub close_worked-worked-requires : goal.close_worked-worked-requires
close_worked-worked-requires c = (
  pair_shape _ _ c.requires.0.fine,
  omega (arith, c.reach-reached.ensures.steps.as_long, c.requires.0.entries),
  c.requires.1,
  c.requires.2,
)

pub bounds-table-asked : goal.bounds-table-asked
bounds-table-asked c =
    omega (
      arith,
      c.requires.3,
      c.close_worked-worked.ensures.as_long,
      c.reach-reached.ensures.steps.as_long,
      c.requires.0.entries,
    )

pub returns-in-Some-clause-asks : goal.returns-in-Some-clause-asks
returns-in-Some-clause-asks c =
    asks-blocked _ _ c.reach-reached.ensures.steps _ _ c.in-Some.is c.refusal_of.ensures

pub returns-in-None-clause-asks : goal.returns-in-None-clause-asks
returns-in-None-clause-asks c =
    asks-worked _ _ c.reach-reached.ensures.steps _ c.in-None.is c.requires.3 c.close_worked-worked.ensures
