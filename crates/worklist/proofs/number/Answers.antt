use Rattle.std.proofs.Common.{sym}
use Rattle.worklist.proofs.Seeing.{number-low, number-none}
use Rattle.worklist.proofs.number.Goals as goal

pub returns-then-f-lt4096 : goal.returns-then-f-lt4096
returns-then-f-lt4096 c = sym (number-low _ _ c.if-f-lt4096.true)

pub returns-else-f-lt4096 : goal.returns-else-f-lt4096
returns-else-f-lt4096 c = sym (number-none _ _ c.if-f-lt4096.false)
