-- The entry at hand is the one looked for, or it is passed.
use mathlib.Core.Path.{ap, ◌∙◌}
use native.Mathlib.Omega.{arith}
use borrow.Author.Tests.{le-leb, lt-leb}
use lib.ListN.{length}
use Rattle.records.proofs.Words.{length-words}
use Rattle.files.proofs.Entries.{lacking, lacking-here, lacking-later, lacking-end}
use Rattle.files.proofs.trace.lacking.Goals as goal

pub loop-number-init : goal.loop-number-init
loop-number-init c =
    rw (c.into_iter-number-iterator.ensures.into_iter_gives)
    (omega (arith, length-words c.args.entries.now), omega arith)

pub returns-then-known-number : goal.returns-then-known-number
returns-then-known-number c =
    let here =
    ap (lacking c.loop-number.known c.args.rules) c.in-Some.ensures.steps
    ∙ lacking-here _ _ _ _ (le-leb _ _ c.if-known-number.true) in
    omega (arith, c.loop-number.invariant.1, here)

pub loop-number-preserved : goal.loop-number-preserved
loop-number-preserved c =
    let steps = c.in-Some.ensures.steps in
    let later =
    ap (lacking c.loop-number.known c.args.rules) steps
    ∙ lacking-later _ _ _ _ (lt-leb _ _ c.if-known-number.false) in
    (omega (arith, c.loop-number.invariant.0, ap length steps), omega (arith, c.loop-number.invariant.1, later))

pub returns : goal.returns
returns c =
    let end = ap (lacking c.loop-number.known c.args.rules) c.in-None.ensures.steps.0 ∙ lacking-end _ _ in
    omega (arith, c.loop-number.invariant.1, end)
