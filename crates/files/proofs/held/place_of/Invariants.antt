-- The place is that of the section at hand, and no section before it has the role.
use Prim.Native.Nat.{ℕ, ◌<◌}
use mathlib.Core.Path.{◌≡◌}
use lib.ListN.{get_or}
use Rattle.sections.specs.Sections.{section_at}
use Rattle.sections.specs.declared.Role.TheVariants.{Sizes}
use Rattle.files.proofs.held.place_of.Given as goal

abbrev pub invariant-loop-other : goal.invariant-loop-other
invariant-loop-other l =
    ((j : ℕ) → j < l.other-index → get_or l.other-items j Sizes ≡ l.role → ⊥)
    × (l.at ≡ section_at l.model l.other-index)
