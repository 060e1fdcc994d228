use Rattle.files.specs.Files.{clauses_in}
use Rattle.worklist.specs.Arrays.{held}
use Rattle.worklist.proofs.Turns.{Crossing}
use Rattle.worklist.proofs.Worklist.cross_all.Given as goal

-- The entries so far have been crossed.
abbrev pub invariant-loop-k : goal.invariant-loop-k
invariant-loop-k l =
    Crossing (clauses_in l.clauses.bytes.now) l.r l.entries l.k-index (held l.fn.self l.fn.table)
    (held l.self l.table)
