-- A section's records are counted as its role asks.
use Prim.Native.Nat.{ℕ}
use mathlib.Core.Logic.{◌⊎◌, inl, inr}
use mathlib.Core.Path.{◌≡◌}
use Rattle.sections.specs.declared.Role.{Role}
use Rattle.sections.specs.declared.Role.TheVariants.{Sizes, Initial, Persistent, Names}
use Rattle.files.specs.Answers.{noted}
use Rattle.files.specs.declared.Counts.{Counts}
use Rattle.files.proofs.model.note.Goals as goal

pub returns-in-Clauses : goal.returns-in-Clauses
unfolding noted
returns-in-Clauses c = rw (c.in-Clauses.is)

pub returns-in-Rules : goal.returns-in-Rules
unfolding noted
returns-in-Rules c = rw (c.in-Rules.is)

pub returns-in-Goals : goal.returns-in-Goals
unfolding noted
returns-in-Goals c = rw (c.in-Goals.is)

pub returns-in-Formulas : goal.returns-in-Formulas
unfolding noted
returns-in-Formulas c = rw (c.in-Formulas.is)

-- sections of bare numbers count for nothing
uncounted : (n : Counts) (r : Role) (k : ℕ) → (r ≡ Sizes) ⊎ (r ≡ Initial) ⊎ (r ≡ Persistent) ⊎ (r ≡ Names)
    → n ≡ noted n r k
unfolding noted
uncounted n r k (inl e) = rw e
uncounted n r k (inr (inl e)) = rw e
uncounted n r k (inr (inr (inl e))) = rw e
uncounted n r k (inr (inr (inr e))) = rw e

pub returns-in-Sizes : goal.returns-in-Sizes
returns-in-Sizes c = uncounted _ _ _ c.in-Sizes.is
