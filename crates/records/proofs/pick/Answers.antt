-- The tests are those of the marks in document 01's order.
use mathlib.Core.Path.{◌≡◌}
use mathlib.Core.Bool.{Bool, true, false, ◌||◌}
use Rattle.records.specs.Records.{given, ◌or_else◌}
use Rattle.records.specs.Marking.{picked}
use Rattle.records.proofs.Judging.{or_clear}
use Rattle.records.proofs.pick.Goals as goal

pub returns-then-marks-2 : goal.returns-then-marks-2
unfolding picked given ◌or_else◌
returns-then-marks-2 c = rw (c.if-marks-2.true)

pub returns-then-marks-3 : goal.returns-then-marks-3
unfolding picked given ◌or_else◌
returns-then-marks-3 c = rw (c.if-marks-2.false, c.if-marks-3.true)

pub returns-then-marks-4 : goal.returns-then-marks-4
unfolding picked given ◌or_else◌
returns-then-marks-4 c = rw (c.if-marks-2.false, c.if-marks-3.false, c.if-marks-4.true)

-- some mark is set, and none of the first three
last : (a b c d : Bool) → (((a || b) || c) || d) ≡ true → a ≡ false → b ≡ false → c ≡ false → d ≡ true
last a b c d e f g h = rw (f, g, h) at e

pub returns-else-marks-4 : goal.returns-else-marks-4
unfolding picked given ◌or_else◌
returns-else-marks-4 c =
    let set = last _ _ _ _ c.if-marks.true c.if-marks-2.false c.if-marks-3.false c.if-marks-4.false in
    rw (c.if-marks-2.false, c.if-marks-3.false, c.if-marks-4.false, set)

-- no mark is set
none_set : (a b c d : Bool) → (((a || b) || c) || d) ≡ false → (a ≡ false) × (b ≡ false) × (c ≡ false) × (d ≡ false)
none_set a b c d e =
    let order = or_clear ((a || b) || c) d e in
    let name = or_clear (a || b) c order.0 in
    let fact = or_clear a b name.0 in
    (fact.0, fact.1, name.1, order.1)

pub returns-else-marks : goal.returns-else-marks
unfolding picked given ◌or_else◌
returns-else-marks c =
    let m = c.args.marks in
    let (count, fact, name, order) = none_set m.count m.fact m.name m.order c.if-marks.false in
    rw (count, fact, name, order)
