-- `step` meets its contract: a code below 32,768 is a fact, every other an operator.
use mathlib.Core.Path.{◌∙◌}
use borrow.Author.Tests.{lt-ltb, le-ltb}
use Rattle.past.proofs.Bits.{turned-fact, turned_operator}
use Rattle.past.proofs.step.Goals as goal

pub returns-then-code-lt32768 : goal.returns-then-code-lt32768
returns-then-code-lt32768 c =
    turned-fact _ _ _ _ _ (lt-ltb _ _ c.if-code-lt32768.true)
    (c.push.ensures ∙ rw c.stands.ensures)

pub returns : goal.returns
returns c =
    turned_operator _ _ _ _ _ (le-ltb _ _ c.if-code-lt32768.false)
    c.operate.ensures
