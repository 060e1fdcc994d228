-- Goals about the past: formulas, and their truth over the closures of the states reached (document 02, wish 11;
-- document 000 for Yesterday, Once, Historically and Since). Nothing here keeps a value from state to state.
use Rattle.std.specs.Prelude.{ℕ, zero, suc, Bool, true, false, not, ◌&&◌, ◌||◌, List, [], ◌∷◌, ltb, length, drop}
use Rattle.sets.specs.Sets.{Facts}

-- "formulas over facts with not, and, or, implies and document 000's Yesterday, Once, Historically and Since"
pub data Formula : Type 0 where
  fact : ℕ → Formula
  negation : Formula → Formula
  both : Formula → Formula → Formula
  either : Formula → Formula → Formula
  implies : Formula → Formula → Formula
  yesterday : Formula → Formula
  once : Formula → Formula
  historically : Formula → Formula
  since : Formula → Formula → Formula

-- The closures of the states reached up to now, the present state's first: without its first j entries it is the
-- history as it was j states ago.
abbrev pub History : Type 0
History = List Facts

-- "Facts are read in the closure of each state"
unfoldable pub present : History → Facts
present [] f = false
present (X ∷ past) f = X f

-- some number below n passes the test, and all of them do
unfoldable pub some_below : ℕ → (ℕ → Bool) → Bool
some_below zero p = false
some_below (suc n) p = p zero || some_below n (λ k. p (suc k))

unfoldable pub all_below : ℕ → (ℕ → Bool) → Bool
all_below zero p = true
all_below (suc n) p = p zero && all_below n (λ k. p (suc k))

-- Whether a formula is true at the end of a history. "Yesterday is false in the initial state", and otherwise its
-- part's truth "in the previous state"; Once is "at some time in the past", Historically "at all times in the past",
-- the present among them; "Since needs its second part now or earlier and its first in every state after that".
unfoldable pub truth : Formula → History → Bool
unfolding present some_below all_below
truth (fact f) h = present h f
truth (negation p) h = not (truth p h)
truth (both p q) h = truth p h && truth q h
truth (either p q) h = truth p h || truth q h
truth (implies p q) h = not (truth p h) || truth q h
truth (yesterday p) h = ltb 1 (length h) && truth p (drop 1 h)
truth (once p) h = some_below (length h) (λ j. truth p (drop j h))
truth (historically p) h = all_below (length h) (λ j. truth p (drop j h))
truth (since p q) h = some_below (length h) (λ j. truth q (drop j h) && all_below j (λ k. truth p (drop k h)))
