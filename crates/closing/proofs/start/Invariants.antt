-- The facts of the bytes so far have their numbers, and no later one has any.
use Rattle.closing.proofs.Starting.{Begun}
use Rattle.closing.proofs.start.Given as goal

abbrev pub invariant-loop-i : goal.invariant-loop-i
invariant-loop-i l = Begun l.state l.fn.table l.i l.table
