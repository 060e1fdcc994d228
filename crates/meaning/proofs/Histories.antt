-- Formulas over a history: each operator from one state to the next, by the states that it speaks of, and by other
-- operators; and what a formula depends on.
use Prim.Native.Nat.{ℕ, zero, suc, ◌<◌}
use native.Mathlib.Omega.{arith}
use mathlib.Core.Path.{◌≡◌, refl, ap, ap₂}
use mathlib.Core.Logic.{◌↔◌, ◌⊎◌, inl, inr}
use mathlib.Core.Bool.{Bool, true, false, not, ◌&&◌, ◌||◌, and-true, or-not_self}
use mathlib.Core.List.{[], ◌∷◌}
use lib.Dec.{T, ltb, ltb→lt, lt→ltb}
use lib.ListN.{length, drop}
use borrow.Author.Tests.{lt-ltb}
use Rattle.sets.specs.Sets.{Facts}
use Rattle.meaning.specs.Past.{Formula, History, some_below, all_below, truth}
use Rattle.meaning.specs.Past.Formula.{fact, negation, both, either, implies, yesterday, once, historically}
use Rattle.meaning.specs.Past.Formula.{since}
use Rattle.meaning.specs.Promises.{Pastless}
use Rattle.sets.proofs.Laws as tests
use Rattle.sets.proofs.Laws.{is_false, passes, by-test, same_test}

-- ---- numbers below a bound

-- Where some number below n passes, there is one that does.
some_in : (n : ℕ) (p : ℕ → Bool) → T (some_below n p) → (k : ℕ) × (k < n) × T (p k)
unfolding some_below
some_in zero p t = absurd t
some_in (suc n) p t = elim ((tests.either (p 0) _).0 t) [
  | inl h ↦ (0, omega arith, h)
  | inr h ↦ let (k, l, t) = some_in n (λ k. p (suc k)) h in (suc k, omega arith, t)
]

-- Where a number below n passes, some number does.
some_intro : (n : ℕ) (p : ℕ → Bool) (k : ℕ) → k < n → T (p k) → T (some_below n p)
unfolding some_below
some_intro zero p k l t = absurd (omega arith)
some_intro (suc n) p zero l t = (tests.either (p 0) _).1 (inl t)
some_intro (suc n) p (suc k) l t = (tests.either (p 0) _).1 (inr (some_intro n (λ k. p (suc k)) k (omega arith) t))

-- Where all numbers below n pass, each one does.
all_in : (n : ℕ) (p : ℕ → Bool) → T (all_below n p) → (k : ℕ) → k < n → T (p k)
unfolding all_below
all_in zero p t k l = absurd (omega arith)
all_in (suc n) p t zero l = ((tests.both (p 0) _).0 t).0
all_in (suc n) p t (suc k) l = all_in n (λ k. p (suc k)) ((tests.both (p 0) _).0 t).1 k (omega arith)

-- Where each number below n passes, all do.
all_intro : (n : ℕ) (p : ℕ → Bool) → ((k : ℕ) → k < n → T (p k)) → T (all_below n p)
unfolding all_below
all_intro zero p h = tt
all_intro (suc n) p h =
    (tests.both (p 0) _).1 (h 0 (omega arith), all_intro n (λ k. p (suc k)) (λ k l. h (suc k) (omega arith)))

-- A test that has no number in it may be asked first.
some_guarded : (n : ℕ) (a : ℕ → Bool) (g : Bool) (b : ℕ → Bool)
    → some_below n (λ k. a k && (g && b k)) ≡ g && some_below n (λ k. a k && b k)
some_guarded n a true b = refl
some_guarded n a false b = is_false (λ t.
    let (k, l, h) = some_in n (λ k. a k && false) t in ((tests.both (a k) false).0 h).1)

-- All pass exactly if none fails.
all-some : (n : ℕ) (p : ℕ → Bool) → all_below n p ≡ not (some_below n (λ k. not (p k)))
unfolding some_below all_below
all-some zero p = refl
all-some (suc n) p = by-test (p 0) (λ e. rw e (all-some n (λ k. p (suc k)))) (λ e. rw e)

-- ---- in one state

-- A fact is true if it is in the present closure,
pub fact-is : (f : ℕ) (X : Facts) (h : History) → T (truth (fact f) (X ∷ h)) ↔ T (X f)
unfolding truth
fact-is f X h = (λ t. t, λ t. t)

-- a negation if its part isn't true,
pub negation-is : (p : Formula) (h : History) → T (truth (negation p) h) ↔ (T (truth p h) → ⊥)
unfolding truth
negation-is p h = tests.negated (truth p h)

-- and the others as their names say.
module _ (p q : Formula) (h : History) where
  pub both_is : T (truth (both p q) h) ↔ (T (truth p h) × T (truth q h))
  unfolding truth
  both_is = tests.both (truth p h) (truth q h)

  pub either_is : T (truth (either p q) h) ↔ (T (truth p h) ⊎ T (truth q h))
  unfolding truth
  either_is = tests.either (truth p h) (truth q h)

  pub implies-is : T (truth (implies p q) h) ↔ (T (truth p h) → T (truth q h))
  unfolding truth
  implies-is = tests.implies (truth p h) (truth q h)

-- ---- from one state to the next

module _ (p : Formula) where
  -- "Yesterday is false in the initial state",
  pub yesterday-first : (X : Facts) → truth (yesterday p) (X ∷ []) ≡ false
  unfolding truth
  yesterday-first X = refl

  -- and otherwise it is its part's truth in the state before.
  pub yesterday-next : (X Y : Facts) (h : History) → truth (yesterday p) (X ∷ Y ∷ h) ≡ truth p (Y ∷ h)
  unfolding truth
  yesterday-next X Y h = rw (lt-ltb 1 (length (X ∷ Y ∷ h)) (omega arith))

  -- Once is its part's truth now, or Once in the state before.
  pub once-next : (X : Facts) (h : History) → truth (once p) (X ∷ h) ≡ truth p (X ∷ h) || truth (once p) h
  unfolding truth some_below
  once-next X h = refl

  -- Historically is its part's truth now, and Historically in the state before, if there is one.
  pub historically-next : (X : Facts) (h : History)
      → truth (historically p) (X ∷ h) ≡ truth p (X ∷ h) && truth (historically p) h
  unfolding truth all_below
  historically-next X h = refl

  -- Since is its second part's truth now, or its first part's now and Since in the state before.
  pub since-next : (q : Formula) (X : Facts) (h : History)
      → truth (since p q) (X ∷ h) ≡ truth q (X ∷ h) || truth p (X ∷ h) && truth (since p q) h
  unfolding truth some_below all_below
  since-next q X h =
      ap₂ (λ a b. a || b) (and-true (truth q (X ∷ h)))
      (some_guarded (length h) (λ j. truth q (drop j h)) (truth p (X ∷ h)) (λ j. all_below j (λ k. truth p (drop k h))))

-- ---- by the states spoken of, the history as it was so many states ago

module _ (p : Formula) (h : History) where
  -- Yesterday: there is a state before, and its part was true there.
  pub yesterday-is : T (truth (yesterday p) h) ↔ ((1 < length h) × T (truth p (drop 1 h)))
  unfolding truth
  yesterday-is =
      let test = tests.both (ltb 1 (length h)) (truth p (drop 1 h)) in (
        λ t. let (l, t) = test.0 t in (ltb→lt 1 (length h) l, t),
        λ (l, t). test.1 (lt→ltb 1 (length h) l, t),
      )

  -- Once: its part is or was true in some state.
  pub once_is : T (truth (once p) h) ↔ ((j : ℕ) × (j < length h) × T (truth p (drop j h)))
  unfolding truth
  once_is =
      let at : ℕ → Bool = λ j. truth p (drop j h) in
      (some_in (length h) at, λ (j, l, t). some_intro (length h) at j l t)

  -- Historically: its part is and was true in all states.
  pub historically-is : T (truth (historically p) h) ↔ ((j : ℕ) → j < length h → T (truth p (drop j h)))
  unfolding truth
  historically-is =
      let at : ℕ → Bool = λ j. truth p (drop j h) in (all_in (length h) at, all_intro (length h) at)

  -- Since: its second part is or was true in some state, and its first in every state after that.
  pub since-is : (q : Formula) → T (truth (since p q) h)
      ↔ ((j : ℕ) × (j < length h) × T (truth q (drop j h)) × ((k : ℕ) → k < j → T (truth p (drop k h))))
  unfolding truth
  since-is q =
      let first : ℕ → Bool = λ k. truth p (drop k h) in
      let second : ℕ → Bool = λ j. truth q (drop j h) in
      let at : ℕ → Bool = λ j. second j && all_below j first in (
        λ t.
            let (j, l, t) = some_in (length h) at t in
            let (b, a) = (tests.both (second j) (all_below j first)).0 t in
            (j, l, b, all_in j first a),
        λ (j, l, b, a).
            some_intro (length h) at j l ((tests.both (second j) (all_below j first)).1 (b, all_intro j first a)),
      )

-- ---- by other operators

-- Implies is "not the first, or the second".
pub implies-either : (p q : Formula) (h : History) → truth (implies p q) h ≡ truth (either (negation p) q) h
unfolding truth
implies-either p q h = refl

-- Historically is not Once not.
pub historically-once : (p : Formula) (h : History)
    → truth (historically p) h ≡ truth (negation (once (negation p))) h
unfolding truth
historically-once p h = all-some (length h) (λ j. truth p (drop j h))

-- Once is Since with a first part that is true in all states.
pub once-since : (p q : Formula) (h : History) → ((j : ℕ) → j < length h → T (truth p (drop j h)))
    → truth (once q) h ≡ truth (since p q) h
once-since p q h always =
    same_test
    (λ t. let (j, l, t) = (once_is q h).0 t in (since-is p h q).1 (j, l, t, λ k i. always k (omega arith)))
    (λ t. let (j, l, t, a) = (since-is p h q).0 t in (once_is q h).1 (j, l, t))

-- "p or not p" is such a part.
pub always-true : (p : Formula) (h : History) → T (truth (either p (negation p)) h)
unfolding truth
always-true p h = passes (or-not_self (truth p h))

-- ---- what a formula depends on

-- A formula without the four depends on the last state alone.
pub last-alone : (p : Formula) → Pastless p → (X : Facts) (h h' : History) → truth p (X ∷ h) ≡ truth p (X ∷ h')
unfolding truth Pastless
last-alone (fact f) a X h h' = refl
last-alone (negation p) a X h h' = ap not (last-alone p a X h h')
last-alone (both p q) (a, b) X h h' = ap₂ (λ a b. a && b) (last-alone p a X h h') (last-alone q b X h h')
last-alone (either p q) (a, b) X h h' = ap₂ (λ a b. a || b) (last-alone p a X h h') (last-alone q b X h h')
last-alone (implies p q) (a, b) X h h' = ap₂ (λ a b. not a || b) (last-alone p a X h h') (last-alone q b X h h')
last-alone (yesterday p) a X h h' = absurd a
last-alone (once p) a X h h' = absurd a
last-alone (historically p) a X h h' = absurd a
last-alone (since p q) a X h h' = absurd a
