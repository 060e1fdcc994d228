-- `records::pass` meets its contract: a fact ends a formula, and an operator is one bit more.
use mathlib.Core.Path.{◌∙◌}
use native.Mathlib.Omega.{arith}
use borrow.Author.Tests.{lt-ltb, le-ltb}
use borrow.Author.Rules.{rules}
use Rattle.records.specs.Above.{bits_of, after}
use Rattle.records.proofs.pass.Statement.{statement}
use Rattle.records.proofs.pass.Tie as tie

end-requires : tie.Need-end-requires
end-requires c κs = search rules

returns : tie.Need-returns-then-code-lt32768
unfolding after
returns c = λ l e. c.end.ensures l e ∙ rw (lt-ltb _ _ c.if-code-lt32768.true)

over-two-requires : tie.Need-over_two-requires
over-two-requires c κs = search rules

mul-result : tie.Need-overflow_mul-result
mul-result c = search rules

add-result : tie.Need-overflow_add-result
add-result c = search rules

mul-result-2 : tie.Need-overflow_mul-result-else-over_two
mul-result-2 c = search rules

returns-2 : tie.Need-returns-then-over_two
unfolding after bits_of
returns-2 c = λ l e.
    rw (le-ltb _ _ c.if-code-lt32768.false, ← c.over_two.ensures, c.if-over_two.true) (omega arith)

returns-3 : tie.Need-returns-else-over_two
unfolding after bits_of
returns-3 c = λ l e.
    rw (le-ltb _ _ c.if-code-lt32768.false, ← c.over_two.ensures, c.if-over_two.false) (omega arith)

pub pass_spec : {M : Type 1} → statement M
pass_spec =
    tie.close
    (tie.spec
    end-requires
    returns
    over-two-requires
    mul-result
    add-result
    mul-result-2
    returns-2
    returns-3)
