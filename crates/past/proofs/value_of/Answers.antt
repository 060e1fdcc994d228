-- `value_of` meets its contract: one case for each arm.
use native.Mathlib.Omega.{arith}
use borrow.Author.Tests.{ne_eqb}
use Rattle.past.specs.Keeping.{value_of}
use Rattle.past.proofs.value_of.Goals as goal

pub returns-in-32768 : goal.returns-in-32768
unfolding value_of
returns-in-32768 c = rw c.in-32768.is

pub returns-in-32769 : goal.returns-in-32769
unfolding value_of
returns-in-32769 c = rw c.in-32769.is

pub returns-in-32770 : goal.returns-in-32770
unfolding value_of
returns-in-32770 c = rw c.in-32770.is

pub returns-in-32771 : goal.returns-in-32771
unfolding value_of
returns-in-32771 c = rw c.in-32771.is

pub returns-in-32772 : goal.returns-in-32772
unfolding value_of
returns-in-32772 c = rw c.in-32772.is

pub returns-in-32773 : goal.returns-in-32773
unfolding value_of
returns-in-32773 c = rw c.in-32773.is

pub returns-in-32774 : goal.returns-in-32774
unfolding value_of
returns-in-32774 c = rw c.in-32774.is

pub returns-in_default : goal.returns-in_default
unfolding value_of
returns-in_default c =
    let code = c.args.code in
    rw (
      ne_eqb code 32768 (λ e. omega arith),
      ne_eqb code 32769 (λ e. omega arith),
      ne_eqb code 32770 (λ e. omega arith),
      ne_eqb code 32771 (λ e. omega arith),
      ne_eqb code 32772 (λ e. omega arith),
      ne_eqb code 32773 (λ e. omega arith),
      ne_eqb code 32774 (λ e. omega arith),
    )
