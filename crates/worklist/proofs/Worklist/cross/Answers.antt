use Rattle.worklist.proofs.Seeing.{cross-more, cross-last}
use Rattle.worklist.proofs.Worklist.cross.Goals as goal

pub returns-then-left-eq0 : goal.returns-then-left-eq0
returns-then-left-eq0 c =
    cross-last _ _ _ _ _ _ _ c.requires.2 c.if-left-eq0.true (rw c.head.ensures at c.arrive.ensures)

pub returns-else-left-eq0 : goal.returns-else-left-eq0
returns-else-left-eq0 c = cross-more _ _ _ _ _ _ _ c.requires.2 c.if-left-eq0.false
