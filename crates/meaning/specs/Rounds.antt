-- Rounds, the closure, and a fact's round number (document 01, "Closure, step, goal").
use Rattle.std.specs.Prelude.{ℕ, zero, suc, ◌+◌, Bool, not, ◌&&◌, ◌||◌, cond, List, [], ◌∷◌, map, eqb, length}
use Rattle.sets.specs.Sets.{Facts, every, any, listed, first}
use Rattle.meaning.specs.Model.{Clause}

-- "all of whose body facts stand": the whole body of the clause is in the set
unfoldable pub stands : Facts → Clause → Bool
unfolding every
stands X c = every X c.body

-- "Round r+1 is round r together with every head of a clause all of whose body facts stand in round r."
unfoldable pub next : List Clause → Facts → Facts
unfolding any stands
next cs X f = X f || any (λ c. eqb c.head f && stands X c) cs

-- "Round 0 is the state."
unfoldable pub round : List Clause → Facts → ℕ → Facts
unfolding next
round cs S zero = S
round cs S (suc r) = next cs (round cs S r)

-- the set holds the head of every clause whose body stands in it, so that the next round is the same
unfoldable pub obeys : List Clause → Facts → Bool
unfolding every stands
obeys cs X = every (λ c. not (stands X c) || X c.head) cs

-- "The number of rounds is that round's number": the first round that equals the next one. There is one among the
-- rounds from 0 to the number of clauses.
unfoldable pub rounds : List Clause → Facts → ℕ
unfolding obeys round first
rounds cs S = first (λ r. obeys cs (round cs S r)) (length cs)

-- "The closure is the first round that equals the next one."
unfoldable pub closure : List Clause → Facts → Facts
unfolding round rounds
closure cs S = round cs S (rounds cs S)

-- "A fact's round number is the first round it stands in, or 65,535 if it is outside the closure."
unfoldable pub round_number : List Clause → Facts → ℕ → ℕ
unfolding closure rounds round first
round_number cs S f = cond (closure cs S f) (first (λ r. round cs S r f) (rounds cs S)) 65535

-- how many different entries of the list pass the test
unfoldable pub different : (ℕ → Bool) → List ℕ → ℕ
unfolding listed
different p [] = zero
different p (x ∷ xs) = cond (p x && not (listed xs x)) 1 0 + different p xs

-- demand 3 (docs/PROMISES.md): the different clause heads that are missing from the start
unfoldable pub missing_heads : List Clause → Facts → ℕ
unfolding different
missing_heads cs S = different (λ f. not (S f)) (map (λ c. c.head) cs)
