-- The table holds the numbers after r rounds, and there are as many rounds at least. The measure is how many are left.
use Rattle.std.proofs.Common.{◌-◌, ◌≤◌}
use Rattle.meaning.specs.Rounds.{rounds}
use Rattle.facts.specs.Facts.{members}
use Rattle.files.specs.Files.{clauses_in}
use Rattle.closing.specs.Closing.{Written}
use Rattle.closing.proofs.Rounds.{number_after}
use Rattle.closing.proofs.close_clauses.Given as goal

abbrev pub invariant-loop-r : goal.invariant-loop-r
invariant-loop-r l =
    record {
      within : l.r ≤ rounds (clauses_in l.clauses) (members l.state);
      holds : Written (number_after (clauses_in l.clauses) (members l.state) l.r) l.fn.table l.table;
    }

abbrev pub decreases-loop-r : goal.decreases-loop-r
decreases-loop-r l = rounds (clauses_in l.clauses) (members l.state) - l.r
