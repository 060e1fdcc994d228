-- What the clauses that are left would still do to the table is what all of them do to the table as it was.
use Rattle.std.proofs.Common.{◌≤◌, length}
use Rattle.lists.specs.Lists.{AllCut}
use Rattle.records.specs.declared.Kind.{Kind}
use Rattle.files.specs.Files.{clauses_in}
use Rattle.closing.specs.Closing.{Bounded}
use Rattle.closing.proofs.Sweeps.{Sweeping}
use Rattle.closing.proofs.sweep.Given as goal

abbrev pub invariant-loop-rest : goal.invariant-loop-rest
invariant-loop-rest l =
    record {
      within : length l.rest ≤ length l.clauses;
      cut : AllCut Kind.Clause l.rest;
      bounded : Bounded (clauses_in l.rest);
      sweeping : Sweeping (clauses_in l.clauses) l.r l.initial.table (clauses_in l.rest) l.table l.added;
    }

abbrev pub decreases-loop-rest : goal.decreases-loop-rest
decreases-loop-rest l = length l.rest
