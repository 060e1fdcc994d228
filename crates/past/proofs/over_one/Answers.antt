-- `over_one` meets its contract.
use Rattle.std.proofs.Common.{arith}
use Rattle.std.proofs.lemmas.Bool.Decides.{nat_tests}
use Rattle.sets.specs.Sets.{any, listed}
use Rattle.records.specs.Codes.{over_one_lem}
use Rattle.past.proofs.over_one.Goals as goal

pub returns-in_default : goal.returns-in_default
unfolding over_one_lem listed any
returns-in_default c = grind (arith, nat_tests)

pub returns-in_default-2 : goal.returns-in_default-2
unfolding over_one_lem listed any
returns-in_default-2 c = grind (arith, nat_tests)

pub returns-in-32768 : goal.returns-in-32768
unfolding over_one_lem listed any
returns-in-32768 c = grind (arith, nat_tests)

pub returns-in-32768-2 : goal.returns-in-32768-2
unfolding over_one_lem listed any
returns-in-32768-2 c = grind (arith, nat_tests)
