-- What the whole body is refused for is that of the marks at hand and the lists still to come.
use Prim.Native.Nat.{◌-◌}
use mathlib.Core.Path.{◌≡◌}
use lib.ListN.{drop}
use Rattle.records.specs.Records.{rows, list_count_lem, cut_lists}
use Rattle.records.specs.Marking.{picked_of}
use Rattle.records.proofs.check_lists.Given as goal

abbrev pub invariant-loop-j : goal.invariant-loop-j
invariant-loop-j l =
    picked_of (rows l.kind l.facts) l.fn.marks (cut_lists (list_count_lem l.kind) l.body)
    ≡ picked_of (drop l.j (rows l.kind l.facts)) l.marks (cut_lists (list_count_lem l.kind - l.j) l.rest)
