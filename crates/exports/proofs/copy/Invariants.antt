-- After i turns the first i bytes are copied, for which there was room.
use Rattle.std.proofs.Common.{length, take, drop, ◌++◌, ◌≤◌, ◌≡◌}
use Rattle.exports.proofs.copy.Given as goal

abbrev pub invariant-loop-i : goal.invariant-loop-i
invariant-loop-i l =
    (l.i ≤ length l.initial.out) × (l.out ≡ take l.i l.bytes ++ drop l.i l.initial.out)
    × (length l.out ≡ length l.initial.out)
