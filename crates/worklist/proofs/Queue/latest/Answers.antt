use Rattle.std.proofs.Common.{arith}
use Rattle.worklist.proofs.Seeing.{latest-none, latest-last}
use Rattle.worklist.proofs.Queue.latest.Goals as goal

pub returns-in-Some : goal.returns-in-Some
returns-in-Some c = latest-last _ _ _ _ (omega (arith, c.requires.1)) c.in-Some.ensures.item.3

pub returns-in-None : goal.returns-in-None
returns-in-None c = latest-none _ _ _ (omega (arith, c.requires.1)) c.in-None.ensures.item.3
