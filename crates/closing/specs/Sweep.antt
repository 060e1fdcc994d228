-- What the parts of closing do to the round table: its numbers at the start, and after a sweep (document 01, "Rounds",
-- "Buffers").
use Rattle.std.specs.Prelude.{ℕ, ◌+◌, ◌/◌, ◌%◌, ◌^◌, ◌<◌, ◌≡◌, Bool, ◌&&◌, cond, List, leb, eqb, length, get_or}
use Rattle.sets.specs.Sets.{Facts, any, ◌∈◌}
use Rattle.meaning.specs.Model.{Clause}
use Rattle.meaning.specs.Rounds.{stands}
use Rattle.records.specs.Words.{words}

-- ---- the start

-- "Round 0 is the state.": a stored fact has the number 0, every other none
unfoldable pub stored : Facts → ℕ → ℕ
stored S f = cond (S f) 0 65535

-- the eight entries are the numbers of a byte's facts
abbrev pub Eight : ℕ → List ℕ → Type 0
Eight b entries = (k : ℕ) → k < 8 → get_or entries k 0 ≡ cond (eqb (b / 2 ^ k % 2) 1) 0 65535

-- ---- a sweep

-- a clause's body: facts below 4,096, "2 bytes each"
pub record Body (bytes : List ℕ) : Type 0 where
  pub even : length bytes % 2 ≡ 0
  pub below : (b : ℕ) → b ∈ words bytes → b < 4096

-- the facts whose number is at most r: those that stand in round r
unfoldable pub up_to : List ℕ → ℕ → Facts
up_to table r f = leb (get_or table f 0) r

-- the fact has no number yet
unfoldable pub outside : List ℕ → Facts
outside table f = eqb (get_or table f 0) 65535

-- "every head of a clause all of whose body facts stand in round r": one that has no number yet gets r + 1
unfoldable pub swept : List Clause → ℕ → List ℕ → ℕ → ℕ
unfolding any stands up_to outside
swept cs r table f =
    cond (outside table f && any (λ c. eqb c.head f && stands (up_to table r) c) cs) (r + 1) (get_or table f 0)

-- there is such a head
unfoldable pub adds : List Clause → ℕ → List ℕ → Bool
unfolding any stands up_to outside
adds cs r table = any (λ c. outside table c.head && stands (up_to table r) c) cs
