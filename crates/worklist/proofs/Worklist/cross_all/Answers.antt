use Rattle.std.proofs.Common.{arith}
use Rattle.worklist.proofs.Turns.{crossing_start, crossing_can, crossing_next, crossing_end}
use Rattle.worklist.proofs.Worklist.cross_all.Goals as goal

pub loop-k-init : goal.loop-k-init
loop-k-init c = crossing_start c.requires.2

pub cross-requires : goal.cross-requires
cross-requires c = (c.requires.0, c.requires.1, crossing_can c.loop-k.invariant (omega arith))

pub loop-k-preserved : goal.loop-k-preserved
loop-k-preserved c = crossing_next c.loop-k.invariant (omega arith) c.cross.ensures

pub returns : goal.returns
returns c = crossing_end c.loop-k.invariant (omega arith)
