-- The entry looked for is after those that were passed.
use Prim.Native.Nat.{◌+◌, ◌*◌, ◌≤◌}
use mathlib.Core.Path.{◌≡◌}
use lib.ListN.{length}
use Rattle.records.specs.Words.{words}
use Rattle.files.proofs.Entries.{lacking}
use Rattle.files.proofs.trace.lacking.Given as goal

abbrev pub invariant-loop-number : goal.invariant-loop-number
invariant-loop-number l =
    let left = words l.number-iterator.0.now in
    (l.at + 2 * length left ≤ length l.entries)
    × (2 * lacking l.goals l.rules (words l.entries) ≡ l.at + 2 * lacking l.known l.rules left)
