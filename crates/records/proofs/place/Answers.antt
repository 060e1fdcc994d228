-- Each turn passes one record.
use mathlib.Core.Path.{sym, ap, ◌∙◌}
use native.Mathlib.Omega.{arith}
use native.Mathlib.Nat.{zero-add}
use Rattle.records.proofs.Places.{total, total_records, place_passed, place_end}
use Rattle.records.proofs.place.Goals as goal

pub loop-record-init : goal.loop-record-init
loop-record-init c =
    let made = c.take-record-items.ensures in
    rw (c.into_iter-record-iterator.ensures.into_iter_gives, made.source, made.count)
    (zero-add _ ∙ total_records c.args.section.now, sym (zero-add _))

pub loop-record-preserved : goal.loop-record-preserved
loop-record-preserved c =
    let inv = c.loop-record.invariant in
    let steps = c.in-Some.ensures.steps in (
      omega (arith, inv.0, ap total steps.0),
      omega (arith, inv.1, place_passed _ _ _ _ _ steps.0 steps.1),
    )

pub returns : goal.returns
returns c = omega (arith, c.loop-record.invariant.1, place_end _ _ (λ h. (c.in-None.ensures.steps h).0))
