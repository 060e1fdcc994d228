-- The end, and the verdict of it.
use Rattle.std.proofs.Common.{arith}
use Rattle.files.proofs.Traces.{pair_shape}
use Rattle.running.proofs.Ends.{held-is}
use Rattle.running.proofs.conclude.Goals as goal

pub verdict_of-requires : goal.verdict_of-requires
verdict_of-requires c =
    let ended = c.finish-ended.ensures.ends in
    let table = ended.left.rounds in (
      c.requires.ready.fine,
      record {
        within = ended.within;
        ending = ended.ending;
        step = ended.step;
        rounds = ended.rounds;
        held-is = held-is _ _ (pair_shape _ _ c.requires.ready.fine) _ ended.left.facts c.count.ensures;
      },
      record { long = omega (arith, table.as_long, c.requires.ready.entries); entries = table.entries },
    )

pub returns-clause-verdict : goal.returns-clause-verdict
returns-clause-verdict c = (c.verdict_of.ensures, c.finish-ended.ensures.ends.left)
