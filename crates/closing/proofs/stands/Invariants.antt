-- The answer is that for the facts that are left.
use Rattle.std.proofs.Common.{◌≡◌, ◌*◌, drop}
use Rattle.sets.specs.Sets.{every}
use Rattle.records.specs.Words.{words}
use Rattle.closing.specs.Sweep.{up_to}
use Rattle.closing.proofs.Bodies.{Low}
use Rattle.closing.proofs.stands.Given as goal

abbrev pub invariant-loop-pair : goal.invariant-loop-pair
invariant-loop-pair l =
    record {
      low : Low l.body (4 * l.pair-index);
      same : every (up_to l.table l.r) (words l.body)
          ≡ every (up_to l.table l.r) (words (drop (4 * l.pair-index) l.body));
    }
