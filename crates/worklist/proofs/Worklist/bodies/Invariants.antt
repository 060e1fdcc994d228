use Rattle.std.proofs.Common.{◌≡◌, ◌≤◌, ◌-◌, length, drop}
use Rattle.std.specs.Iterator.Adapters.{enumerate_count, enumerate_source}
use Rattle.std.specs.Slice.Iter.{windows_rest, windows_size}
use Rattle.files.specs.Files.{clauses_in}
use Rattle.worklist.proofs.Starting.{Noted}
use Rattle.worklist.proofs.Worklist.bodies.Given as goal

-- It has been noted of the clauses before `k`, none of which is the last.
abbrev pub invariant-loop-k : goal.invariant-loop-k
invariant-loop-k l =
    let k = enumerate_count l.k-iterator in
    let left = enumerate_source l.k-iterator in
    (goal.iterator-loop-k).can_next l.k-iterator × (goal.iterator-loop-k).is_finite l.k-iterator
    × (windows_size left ≡ 2) × (windows_rest left ≡ drop k l.clauses.starts.now)
    × (k ≤ length l.clauses.starts.now - 1)
    × Noted (clauses_in l.clauses.bytes.now) k l.least l.self.lacks.now
    × (l.self.queue.facts.now ≡ l.fn.self.queue.facts.now) × (l.self.queue.n ≡ l.fn.self.queue.n)
