-- What the numbers that are left would add, and what was added, is what all of them add.
use Rattle.std.proofs.Common.{ℕ, ◌*◌, ◌≡◌, ◌||◌}
use Rattle.sets.specs.Sets.{listed}
use Rattle.facts.specs.Facts.{within, Kept}
use Rattle.records.specs.Words.{words}
use Rattle.stepping.proofs.Changing.{Below}
use Rattle.stepping.proofs.add_all.Given as goal

abbrev pub invariant-loop-number : goal.invariant-loop-number
invariant-loop-number l = record {
  known : Below (8 * l.width) (words l.number-iterator.0.now);
  kept : Kept l.width l.initial.set l.set;
  is : (g : ℕ)
      → (within l.width l.set g || listed (words l.number-iterator.0.now) g)
      ≡ (within l.width l.initial.set g || listed (words l.list) g);
}
