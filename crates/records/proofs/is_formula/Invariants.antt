-- The codes are a formula exactly if those that are left are what the operators above ask for.
use Rattle.records.proofs.Codes.{Come}
use Rattle.records.proofs.is_formula.Given as goal

abbrev pub invariant-loop-code : goal.invariant-loop-code
invariant-loop-code l = Come l.codes l.above l.code-iterator.0.now
