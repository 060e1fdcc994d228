-- `operate` meets its contract: the value is the operator's, and the last four have written their bit.
use Prim.Native.Nat.{◌/◌}
use mathlib.Core.Path.{ap, ap₂, ◌∙◌}
use borrow.Author.Tests.{lt-ltb, le-ltb}
use Rattle.past.specs.Keeping.{pushed, top, bit_of, keeps, value_of, value_at}
use Rattle.past.proofs.Bits.{turned-kept, turned_same}
use Rattle.past.proofs.operate.Goals as goal
use Rattle.past.proofs.operate.Goals.{then-code-gt32771, else-code-gt32771}

pub returns : goal.returns
unfolding value_at top keeps
returns c =
    let bytes = c.args.kept.now in
    let code = c.args.code in
    let i = c.args.i in
    let waiting = c.args.waiting in
    let value = c.value_of-value.ensures ∙ ap (value_of code (top waiting) (top (waiting / 2))) c.has.ensures in
    let number = c.push.ensures ∙ ap₂ pushed c.rest.ensures value in
    elim c.if-code-gt32771.branch [
      | then-code-gt32771 w ↦
          rw w.kept-is
          (turned-kept code i waiting bytes (lt-ltb 32771 code w.if-code-gt32771.true)
          (w.bit_of.ensures ∙ ap (bit_of code (top waiting)) value) w.keep.ensures number)
      | else-code-gt32771 w ↦
          rw w.kept-is (turned_same code i waiting bytes (le-ltb 32771 code w.if-code-gt32771.false) number)
    ]
