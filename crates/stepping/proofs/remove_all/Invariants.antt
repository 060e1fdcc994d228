-- What the facts that are left would remove, and what was removed, is what all of them remove.
use Rattle.std.proofs.Common.{ℕ, ◌≡◌}
use Rattle.sets.specs.Sets.{listed}
use Rattle.facts.specs.Facts.{members, Kept}
use Rattle.records.specs.Words.{words}
use Rattle.stepping.proofs.Changing.{without}
use Rattle.stepping.proofs.remove_all.Given as goal

abbrev pub invariant-loop-fact : goal.invariant-loop-fact
invariant-loop-fact l = record {
  kept : Kept 512 l.initial.state l.state;
  facts : (g : ℕ)
      → without (listed (words l.persistent)) g (members l.state g) (listed (words l.fact-iterator.0.now) g)
      ≡ without (listed (words l.persistent)) g (members l.initial.state g) (listed (words l.list) g);
}
