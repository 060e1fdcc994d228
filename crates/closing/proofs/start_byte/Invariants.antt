-- The byte's first facts have their numbers.
use Rattle.std.proofs.Common.{◌≡◌, ℕ, ◌/◌, ◌%◌, ◌^◌, ◌<◌, cond, eqb, get_or}
use Rattle.closing.proofs.start_byte.Given as goal

abbrev pub invariant-loop-k : goal.invariant-loop-k
invariant-loop-k l = (j : ℕ) → j < l.k → get_or l.eight j 0 ≡ cond (eqb (l.byte / 2 ^ j % 2) 1) 0 65535
