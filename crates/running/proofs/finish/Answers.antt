-- A blocked step ends the run, or what is asked of the last state once it is closed.
use Rattle.std.proofs.Common.{arith}
use Rattle.facts.specs.Facts.{members}
use Rattle.reaching.proofs.Stepwise.{rounds-few}
use Rattle.files.proofs.Traces.{pair_shape, pair_few}
use Rattle.running.proofs.Ends.{ends-blocked, ends_asked}
use Rattle.running.proofs.finish.Goals as goal

pub close_judged-rounds-requires : goal.close_judged-rounds-requires
close_judged-rounds-requires c = (pair_shape _ _ c.requires.ready.fine, c.requires.ready.entries, c.requires.way)

pub ask-requires : goal.ask-requires
ask-requires c = (
  c.requires.ready.fine,
  omega (arith, c.close_judged-rounds.ensures.filled.as_long, c.requires.ready.entries),
  c.requires.goal,
)

pub overflow_add-result : goal.overflow_add-result
overflow_add-result c =
    let m = c.args.model.now in
    let t = c.args.trace.now in
    omega (
      arith,
      c.requires.steps.bound,
      c.requires.steps.within,
      pair_few m t c.requires.ready.fine,
      c.close_judged-rounds.ensures.number,
      rounds-few m (pair_shape m t c.requires.ready.fine) (members c.args.lent.now.state.now),
    )

pub returns-in-Some-clause-ends : goal.returns-in-Some-clause-ends
returns-in-Some-clause-ends c = ends-blocked _ _ c.requires.steps _ c.in-Some.is

pub returns-in-None-clause-ends : goal.returns-in-None-clause-ends
returns-in-None-clause-ends c =
    ends_asked _ _ c.requires.steps (pair_shape _ _ c.requires.ready.fine) c.in-None.is c.close_judged-rounds.ensures
    c.ask.ensures
