-- Each list marks what its row asks, and the record is refused where a list or its end is missing.
use Prim.Native.Nat.{suc, ◌+◌, ◌-◌}
use mathlib.Core.Path.{◌≡◌, sym, ◌∙◌}
use native.Mathlib.Omega.{arith}
use Rattle.std.proofs.Common.{rules}
use Rattle.records.specs.Records.{list_count_lem}
use Rattle.records.proofs.Lists.{number_short, number-next, number-over, number-end}
use Rattle.records.proofs.Judging.{counted-row}
use Rattle.records.proofs.check_lists.Goals as goal

pub returns-in_default : goal.returns-in_default
returns-in_default c =
    let left : list_count_lem c.args.kind - c.loop-j.j ≡ suc (list_count_lem c.args.kind - (c.loop-j.j + 1)) =
    omega (arith, c.loop-j-test.true, c.list_count-j-end.ensures) in
    sym (c.loop-j.invariant ∙ number_short _ _ _ _ _ left c.in_default.ensures)

pub row_of-requires : goal.row_of-requires
row_of-requires c = counted-row _ _ _ (omega (arith, c.loop-j-test.true, c.list_count-j-end.ensures))

pub loop-j-preserved : goal.loop-j-preserved
loop-j-preserved c =
    let left : list_count_lem c.args.kind - c.loop-j.j ≡ suc (list_count_lem c.args.kind - (c.loop-j.j + 1)) =
    omega (arith, c.loop-j-test.true, c.list_count-j-end.ensures) in
    let split = c.in-Some.ensures in
    c.loop-j.invariant
    ∙ number-next _ _ _ _ _ left _ _ _ c.row_of.ensures split.0 (rw split.1 at c.mark_list-marks.ensures)
    ∙ rw (← split.2)

pub returns-then-not-is_empty : goal.returns-then-not-is_empty
returns-then-not-is_empty c =
    sym (c.loop-j.invariant
    ∙ number-over _ _ _ _ (omega (arith, c.loop-j-test.false, c.list_count-j-end.ensures)) (search rules))

pub returns : goal.returns
returns c =
    c.pick.ensures
    ∙ sym (c.loop-j.invariant
    ∙ number-end _ _ _ _ (omega (arith, c.loop-j-test.false, c.list_count-j-end.ensures)) (search rules))
