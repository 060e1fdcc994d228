use Rattle.std.proofs.Common.{◌∙◌, sym, refl}
use Rattle.worklist.proofs.Turns.{between_start}
use Rattle.worklist.proofs.Laws.{zeros_at, closes_from, closes_stored, not-stored}
use Rattle.worklist.proofs.run.Goals as goal

-- The fact is stored: round 0 is what is shown.
pub returns-then-number-eq0 : goal.returns-then-number-eq0
returns-then-number-eq0 c = closes_stored c.requires.begun _ (sym c.number.ensures ∙ c.if-number-eq0.true)

pub start-requires : goal.start-requires
start-requires c =
    let pre = c.requires in
    (pre.judged, pre.places, refl, zeros_at 4096, pre.begun, c.gather.ensures)

pub drain-requires : goal.drain-requires
drain-requires c =
    let pre = c.requires in
    let absent = not-stored pre.begun _ (λ e. c.if-number-eq0.false (c.number.ensures ∙ e)) in
    let begun = c.start.ensures in (
      rw begun.state pre.judged,
      pre.listed,
      pre.places,
      rw begun.state (between_start pre.judged.known absent begun),
    )

pub returns : goal.returns
returns c =
    let started = c.start.ensures in
    closes_from started.state started.as_long started.beyond c.drain.ensures
