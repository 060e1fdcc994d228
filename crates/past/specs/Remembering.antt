-- What the kept bits say of the past: by a code's place, the truth that the next state has to know (document 02, wish
-- 11). The truth is that over the whole history, which nobody keeps.
use Rattle.std.specs.Prelude.{ℕ, ◌≤◌, ◌≡◌, Bool, false, not, ◌&&◌, List, [], ◌∷◌, ◌++◌, ltb, length, get_or}
use Rattle.meaning.specs.Past.{Formula, History, truth}
use Rattle.meaning.specs.Past.Formula.{fact, negation, both, either, implies, yesterday, once, historically, since}
use Rattle.facts.specs.Facts.{within}

-- The bits of a formula's codes, in their order: of Yesterday its part's truth in the present state, if there is one,
-- of Once and Since their own, of Historically whether it is false; of every other code nothing.
unfoldable pub memory : Formula → History → List Bool
unfolding truth
memory (fact f) h = false ∷ []
memory (negation p) h = false ∷ memory p h
memory (both p q) h = false ∷ memory p h ++ memory q h
memory (either p q) h = false ∷ memory p h ++ memory q h
memory (implies p q) h = false ∷ memory p h ++ memory q h
memory (yesterday p) h = (ltb 0 (length h) && truth p h) ∷ memory p h
memory (once p) h = truth (once p) h ∷ memory p h
memory (historically p) h = not (truth (historically p) h) ∷ memory p h
memory (since p q) h = truth (since p q) h ∷ memory p h ++ memory q h

-- The first 32 bytes hold these bits, each at its code's place, and no others.
pub record Remembers (φ : Formula) (h : History) (bytes : List ℕ) : Type 0 where
  pub long : 32 ≤ length bytes
  pub bits : (j : ℕ) → within 32 bytes j ≡ get_or (memory φ h) j false
