-- `conditions::round_of`: the fact of a negative condition has an entry.
use Rattle.std.proofs.Common.{◌<◌, arith}
use Rattle.stepping.specs.Conditions.{condition_of, KnownIn}
use Rattle.stepping.proofs.conditions.round_of.Goals as goal

pub offset_bounds-table-f : goal.offset_bounds-table-f
unfolding condition_of KnownIn
offset_bounds-table-f c =
    let small : c.in-Negative.f < 4096 = rw c.in-Negative.is at c.requires.0 in
    omega arith

pub bounds-table-f : goal.bounds-table-f
unfolding condition_of KnownIn
bounds-table-f c =
    let small : c.in-Negative.f < 4096 = rw c.in-Negative.is at c.requires.0 in
    omega (arith, c.requires.1)
