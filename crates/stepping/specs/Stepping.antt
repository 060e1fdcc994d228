-- What the functions that change the state leave in its buffers. No promise to the outside rests on this.
use Rattle.std.specs.Prelude.{ℕ, ◌≡◌, List}
use Rattle.sets.specs.Sets.{Facts}
use Rattle.facts.specs.Facts.{within, Kept}

-- the buffer holds this set in its first `width` bytes, and nothing else of it changed
pub record Holds (width : ℕ) (before after : List ℕ) (X : Facts) : Type 0 where
  pub set : (g : ℕ) → within width after g ≡ X g
  pub kept : Kept width before after
