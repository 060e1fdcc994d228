-- The first unmet condition is the first of those that are left.
use Rattle.std.proofs.Common.{ℕ, ◌≡◌, map}
use Rattle.sets.specs.Sets.{◌∈◌}
use Rattle.meaning.specs.Run.{Condition, unmet}
use Rattle.records.specs.Words.{words}
use Rattle.closing.specs.Closing.{numbered}
use Rattle.stepping.specs.Conditions.{condition_of, names_in}
use Rattle.stepping.proofs.conditions.first_of.Given as goal

abbrev pub invariant-loop-f : goal.invariant-loop-f
invariant-loop-f g l = record {
  of_list : (f : ℕ) → f ∈ words l.f-iterator.0.now → f ∈ words l.list;
  ahead : (k : ℕ → Condition)
      → ((f : ℕ) (c : _) → f ∈ words l.list → goal.F-post g l.asked f c → condition_of c ≡ k f)
      → unmet (numbered l.table) (names_in l.used) (map k (words l.f-iterator.0.now))
      ≡ unmet (numbered l.table) (names_in l.used) (map k (words l.list));
}
