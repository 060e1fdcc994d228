-- `facts::add` meets its contract: the mask sets the number's bit, and a number without a byte cannot be added.
use mathlib.Core.Path.{ap, ◌∙◌}
use native.Mathlib.Omega.{arith}
use lib.ListN.{length, length-take}
use Rattle.facts.proofs.Laws.{added_set, added_missing}
use Rattle.facts.proofs.add.Goals as goal

pub returns-then-n-held : goal.returns-then-n-held
returns-then-n-held c =
    let long = ap length c.held.ensures ∙ length-take c.args.width c.args.set.now in
    rw c.mask.ensures
    (added_set c.args.width c.args.set.now c.args.n (omega (arith, long)) (omega arith))

pub returns-else-n-held : goal.returns-else-n-held
returns-else-n-held c =
    let long = ap length c.held.ensures ∙ length-take c.args.width c.args.set.now in
    added_missing c.args.width c.args.set.now c.args.n (omega (arith, long))
