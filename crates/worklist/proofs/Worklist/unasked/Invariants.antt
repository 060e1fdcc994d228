use Rattle.files.specs.Files.{clauses_in}
use Rattle.worklist.specs.Working.{state_in}
use Rattle.worklist.specs.Arrays.{arrays}
use Rattle.worklist.proofs.Starting.{Opened}
use Rattle.worklist.proofs.Worklist.unasked.Given as goal

-- The clauses before `k` have been passed.
abbrev pub invariant-loop-k : goal.invariant-loop-k
invariant-loop-k l =
    Opened (clauses_in l.clauses.bytes.now) (state_in l.fn.table) l.fn.table l.k
    (arrays l.fn.self.lacks.now l.table l.queue.facts.now l.queue.n)
