use Rattle.std.proofs.Common.{◌≡◌, ◌-◌, length, drop}
use Rattle.files.specs.Files.{clauses_in}
use Rattle.worklist.specs.Working.{state_in}
use Rattle.worklist.specs.Arrays.{held, Between}
use Rattle.worklist.proofs.Worklist.drain.Given as goal

-- The facts before `at` have been taken, and all of them arose sooner than the one asked for.
abbrev pub invariant-loop-f : goal.invariant-loop-f
invariant-loop-f l =
    Between (clauses_in l.clauses.bytes.now) (state_in l.fn.table) l.asked l.at l.crossings (held l.self l.table)
    × (length l.table ≡ length l.fn.table) × (drop 4096 l.table ≡ drop 4096 l.fn.table)

abbrev pub decreases-loop-f : goal.decreases-loop-f
decreases-loop-f l = 4096 - l.at
