-- Sets of facts, and the few words about lists and sets that document 01 uses.
use Rattle.std.specs.Prelude.{ℕ, zero, suc, ◌+◌, Bool, true, false, ◌&&◌, ◌||◌, cond, eqb}
use mathlib.Core.List.{List, [], ◌∷◌, Memᴰ}

infix 40 ◌∈◌
-- A set of facts says of each number whether it is in the set.
abbrev pub Facts : Type 0
Facts = ℕ → Bool

-- every entry of the list passes the test
unfoldable pub every {ℓ} : {A : Type ℓ} → (A → Bool) → List A → Bool
every p [] = true
every p (x ∷ xs) = p x && every p xs

-- some entry of the list passes the test
unfoldable pub any {ℓ} : {A : Type ℓ} → (A → Bool) → List A → Bool
any p [] = false
any p (x ∷ xs) = p x || any p xs

-- the set of the facts that a list names
unfoldable pub listed : List ℕ → Facts
unfolding any
listed xs f = any (eqb f) xs

-- how many facts below n the set has
unfoldable pub size : Facts → ℕ → ℕ
size X zero = zero
size X (suc n) = cond (X n) 1 0 + size X n

-- the first number below n that passes the test, and n where none does
unfoldable pub first : (ℕ → Bool) → ℕ → ℕ
first p zero = zero
first p (suc n) = elim (p zero) [ true ↦ zero | false ↦ suc (first (λ k. p (suc k)) n) ]

-- x stands in the list
abbrev pub ◌∈◌ {ℓ} : {A : Type ℓ} → A → List A → Type ℓ
x ∈ xs = Memᴰ x xs
