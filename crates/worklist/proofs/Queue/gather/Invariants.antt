use Rattle.worklist.proofs.Starting.{Gathering}
use Rattle.worklist.proofs.Queue.gather.Given as goal

-- The facts below `f` have been looked at.
abbrev pub invariant-loop-f : goal.invariant-loop-f
invariant-loop-f l = Gathering l.table l.f l.n l.self.facts.now
