-- The first fault is that of a judge who has come to record n, at its place, and the records that are left.
use Prim.Native.Nat.{◌+◌, ◌-◌, ◌≤◌}
use mathlib.Core.Path.{◌≡◌}
use lib.ListN.{length}
use Rattle.records.specs.Records.{records, judge, first_from, first_fault_lem}
use Rattle.records.proofs.first_fault.Given as goal

abbrev pub invariant-loop-rest : goal.invariant-loop-rest
invariant-loop-rest l =
    (length l.rest ≤ length l.section)
    × (l.n + length (records l.rest) ≡ length (records l.section))
    × (first_fault_lem (judge l.kind l.facts) l.section
    ≡ first_from (judge l.kind l.facts) l.n (length l.section - length l.rest) (records l.rest))

abbrev pub decreases-loop-rest : goal.decreases-loop-rest
decreases-loop-rest l = length l.rest
