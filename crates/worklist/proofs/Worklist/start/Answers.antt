use Rattle.worklist.proofs.Starting.{opened-start, opened-all}
use Rattle.worklist.proofs.Worklist.start.Goals as goal

pub returns-else-bodies-eq0 : goal.returns-else-bodies-eq0
returns-else-bodies-eq0 c =
    let pre = c.requires in
    let (lacking, facts, count) = c.bodies.ensures in
    let known = pre.0.known in
    rw (facts, count) (opened-all known lacking c.if-bodies-eq0.false (opened-start known pre.4 pre.5 _ lacking.sized))
