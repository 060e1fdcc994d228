-- The loop ends where all bytes are copied, or where there is no more room.
use Rattle.std.proofs.Common.{◌∙◌, arith}
use Rattle.exports.proofs.Fronts.{over_min}
use Rattle.exports.proofs.copy.Goals as goal

pub returns-after-loop-i-clause-front : goal.returns-after-loop-i-clause-front
returns-after-loop-i-clause-front c = c.loop-i.invariant.1 ∙ over_min c.args.bytes.now c.args.out.now _ (omega arith)

pub returns-then-i-out-clause-front : goal.returns-then-i-out-clause-front
returns-then-i-out-clause-front c = c.loop-i.invariant.1 ∙ over_min c.args.bytes.now c.args.out.now _ (omega arith)
