-- While the numbers ascend the last is the largest.
use mathlib.Core.Path.{◌≡◌, sym, ap, ◌∙◌}
use mathlib.Core.Bool.{false, not, or-false}
use lib.Dec.{leb}
use borrow.Author.Tests.{lt-ltb, le-ltb}
use Rattle.sets.specs.Sets.{any}
use Rattle.records.specs.Words.{words, ascending}
use Rattle.records.proofs.Words.{words-end}
use Rattle.records.proofs.Lists.{largest_last}
use Rattle.records.proofs.look.Goals as goal

pub returns-in_default : goal.returns-in_default
unfolding any ascending
returns-in_default c = let none = c.in_default.ensures.steps.0 in (rw none, rw none)

pub returns-then-f-last : goal.returns-then-f-last
unfolding any ascending
returns-then-f-last c =
    let list = c.args.list.now in
    let broken : ascending (words list) ≡ false =
    c.loop-f.invariant.1 ∙ rw (c.in-Some-f.ensures.steps, le-ltb _ _ c.if-f-last.true) in
    (c.reaches.ensures ∙ words-end c.args.limit list c.type_inv.list, ap not (sym broken))

pub loop-f-preserved : goal.loop-f-preserved
unfolding any ascending
loop-f-preserved c =
    let inv = c.loop-f.invariant in (
      inv.0 ∙ rw (c.in-Some-f.ensures.steps) (largest_last _ _ _ _ c.if-f-last.false),
      inv.1 ∙ rw (c.in-Some-f.ensures.steps, lt-ltb _ _ c.if-f-last.false),
    )

pub returns : goal.returns
unfolding any ascending
returns c =
    let inv = c.loop-f.invariant in
    let none = c.in-None.ensures.steps.0 in
    (rw (inv.0, none, or-false (leb c.args.limit c.loop-f.last)), rw (inv.1, none))
