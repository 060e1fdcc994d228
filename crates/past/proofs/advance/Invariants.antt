-- The codes from place i on have been passed.
use Rattle.past.proofs.Bits.{Passed}
use Rattle.past.proofs.advance.Given as goal

abbrev pub invariant-loop-i : goal.invariant-loop-i
invariant-loop-i l = Passed l.codes l.table l.initial.kept l.i l.kept l.waiting
