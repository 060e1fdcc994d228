-- With no entries lent for the index, states are closed by sweeps.
use Rattle.std.proofs.Common.{refl, rules}
use Rattle.closing.specs.Closing.Way.{sweeps}
use Rattle.reaching.specs.Reaching.{aimed}
use Rattle.reaching.proofs.Aiming.{keeps_zeros}
use Rattle.running.proofs.Ends.{left-from, steps-here, ready_on}
use Rattle.running.proofs.run_swept.Goals as goal

pub goal_codes-codes-requires : goal.goal_codes-codes-requires
goal_codes-codes-requires c = c.requires.fine

pub reach-reached-requires : goal.reach-reached-requires
reach-reached-requires c = (
  c.requires,
  c.goal_codes-codes.ensures,
  keeps_zeros (aimed c.args.model.now c.args.trace.now),
  sweeps refl,
)

pub conclude-requires : goal.conclude-requires
conclude-requires c =
    let led = c.reach-reached.ensures.steps in
    record {
      ready = ready_on _ _ c.requires led;
      steps = steps-here _ _ led;
      goal = c.goal_codes-codes.ensures;
      way = sweeps refl;
    }

pub returns : goal.returns
returns c =
    let led = c.reach-reached.ensures.steps in
    let (verdict, left) = c.conclude.ensures.verdict in
    let whole = left-from led.kept led.names-kept led.as_long led.beyond left in
    (verdict, search rules)
