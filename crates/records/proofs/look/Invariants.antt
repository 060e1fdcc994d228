-- The last number and those still to come tell the largest and the order of the whole list.
use mathlib.Core.Path.{◌≡◌}
use mathlib.Core.List.{◌∷◌}
use lib.Dec.{leb}
use Rattle.sets.specs.Sets.{any}
use Rattle.records.specs.Words.{words, ascending}
use Rattle.records.proofs.look.Given as goal

abbrev pub invariant-loop-f : goal.invariant-loop-f
invariant-loop-f l =
    (any (leb l.limit) (words l.list) ≡ any (leb l.limit) (l.last ∷ words l.f-iterator.0.now))
    × (ascending (words l.list) ≡ ascending (l.last ∷ words l.f-iterator.0.now))
