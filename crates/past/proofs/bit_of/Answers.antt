-- `bit_of` meets its contract: one case for each arm.
use native.Mathlib.Omega.{arith}
use borrow.Author.Tests.{ne_eqb}
use Rattle.past.specs.Keeping.{bit_of}
use Rattle.past.proofs.bit_of.Goals as goal

pub returns-in-32772 : goal.returns-in-32772
unfolding bit_of
returns-in-32772 c = rw c.in-32772.is

pub returns-in-32774 : goal.returns-in-32774
unfolding bit_of
returns-in-32774 c = rw c.in-32774.is

pub returns-in_default : goal.returns-in_default
unfolding bit_of
returns-in_default c =
    let code = c.args.code in
    rw (ne_eqb code 32772 (λ e. omega arith), ne_eqb code 32774 (λ e. omega arith))
