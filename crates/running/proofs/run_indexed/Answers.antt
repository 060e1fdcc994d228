-- The index is built, then the pair run by it.
use Rattle.std.proofs.Common.{refl, rules}
use Rattle.files.proofs.Traces.{fine_pair}
use Rattle.closing.specs.Closing.Way.{indexed}
use Rattle.closing.proofs.Indexing.{cleared}
use Rattle.reaching.specs.Reaching.{aimed}
use Rattle.reaching.proofs.Aiming.{keeps_zeros}
use Rattle.running.proofs.Ends.{left-from, steps-here, ready_on}
use Rattle.running.proofs.run_indexed.Goals as goal

pub build_index-n-requires : goal.build_index-n-requires
build_index-n-requires c =
    let fine = fine_pair _ _ c.requires.0.fine in
    (fine.shape, fine.model-size, c.requires.1, cleared, refl)

pub goal_codes-codes-requires : goal.goal_codes-codes-requires
goal_codes-codes-requires c = c.requires.0.fine

pub reach-reached-requires : goal.reach-reached-requires
reach-reached-requires c =
    let index = c.build_index-n.ensures in (
      c.requires.0,
      c.goal_codes-codes.ensures,
      keeps_zeros (aimed c.args.model.now c.args.trace.now),
      indexed index.listed index.placed,
    )

pub conclude-requires : goal.conclude-requires
conclude-requires c =
    let index = c.build_index-n.ensures in
    let led = c.reach-reached.ensures.steps in
    record {
      ready = ready_on _ _ c.requires.0 led;
      steps = steps-here _ _ led;
      goal = c.goal_codes-codes.ensures;
      way = indexed index.listed index.placed;
    }

pub returns : goal.returns
returns c =
    let led = c.reach-reached.ensures.steps in
    let (verdict, left) = c.conclude.ensures.verdict in
    let whole = left-from led.kept led.names-kept led.as_long led.beyond left in
    (verdict, search rules, c.build_index-n.ensures.holds)
