use Rattle.std.proofs.Common.{◌∙◌, arith}
use Rattle.meaning.proofs.Theorems.{index-length}
use Rattle.worklist.proofs.Entries.{entries_at, places-fit}
use Rattle.worklist.proofs.Turns.{turn-low, turn-few, turn-count, turn-amid, turn-next}
use Rattle.worklist.proofs.Turns.{waits_none, end-number, end-latest, end-crossings}
use Rattle.worklist.proofs.Worklist.drain.Goals as goal

pub entries_of-entries-requires : goal.entries_of-entries-requires
entries_of-entries-requires c =
    let low = turn-low c.requires.0.known c.loop-f.invariant.0 c.in-Some.ensures in
    let here = entries_at c.requires.1 c.in-Some.f low in
    (omega (arith, c.requires.1.room), here.order, here.fits)

pub offset_bounds-table-f : goal.offset_bounds-table-f
offset_bounds-table-f c =
    let low = turn-low c.requires.0.known c.loop-f.invariant.0 c.in-Some.ensures in
    omega arith

pub bounds-table-f : goal.bounds-table-f
bounds-table-f c =
    let low = turn-low c.requires.0.known c.loop-f.invariant.0 c.in-Some.ensures in
    omega (arith, c.loop-f.invariant.0.fits.table)

pub overflow_add-r : goal.overflow_add-r
overflow_add-r c =
    let (few, low) = turn-few c.requires.0.known c.loop-f.invariant.0 c.in-Some.ensures in
    omega arith

pub cross_all-requires : goal.cross_all-requires
cross_all-requires c = (
  c.requires.0.cut,
  c.requires.2,
  turn-amid c.requires.0.known c.loop-f.invariant.0 c.in-Some.ensures c.requires.1 c.entries_of-entries.ensures,
)

pub overflow_add-crossings : goal.overflow_add-crossings
overflow_add-crossings c =
    let known = c.requires.0.known in
    let count = turn-count known c.loop-f.invariant.0 c.in-Some.ensures c.requires.1 c.entries_of-entries.ensures in
    omega (arith, places-fit c.requires.1 (index-length known))

pub loop-f-smaller : goal.loop-f-smaller
loop-f-smaller c =
    let (few, low) = turn-few c.requires.0.known c.loop-f.invariant.0 c.in-Some.ensures in
    omega arith

pub loop-f-preserved : goal.loop-f-preserved
loop-f-preserved c =
    let (between, long, beyond) = c.loop-f.invariant in
    let done = c.cross_all.ensures in (
      turn-next c.requires.0.known between c.in-Some.ensures c.requires.1 c.entries_of-entries.ensures done,
      done.as_long ∙ long,
      done.beyond ∙ beyond,
    )

pub returns : goal.returns
returns c =
    let known = c.requires.0.known in
    let (between, long, beyond) = c.loop-f.invariant in
    let done = waits_none _ _ _ _ _ c.in_default.ensures in
    record {
      rounds = c.latest.ensures ∙ end-latest known between done;
      crossings = end-crossings known between done;
      as_long = long;
      entries = end-number known between done;
      beyond = beyond;
    }
