-- Laws of tests, and of the words of specs/Sets: every, any, listed, first.
use Prim.Native.Nat.{ℕ, zero, suc, ◌≤◌, ◌<◌}
use native.Mathlib.Nat.{eq-or-lt_of_le, not-suc-le-zero, le_of_suc-le-suc}
use native.Mathlib.Omega.{arith}
use mathlib.Core.Path.{◌≡◌, refl, sym, ◌∙◌}
use mathlib.Core.Logic.{◌↔◌, ◌⊎◌, inl, inr}
use mathlib.Core.Bool.{Bool, true, false, true≢false, not, ◌&&◌, ◌||◌}
use mathlib.Core.List.Memᴰ
use mathlib.Core.List.{List, [], ◌∷◌}
use lib.ListN.{length, get_or}
use lib.Dec.{T, eqb, ltb, eqb→eq, eqb_refl}
use borrow.Author.Tests.{ltb-true, ltb-false}
use Rattle.std.specs.List.{list_any}
use Rattle.sets.specs.Sets.{every, any, listed, first, ◌∈◌}

-- A test that passes is true.
pub is_true : {b : Bool} → T b → b ≡ true
is_true {b = true} t = refl
is_true {b = false} t = absurd t

-- A true test passes.
pub passes : {b : Bool} → b ≡ true → T b
passes e = rw e tt

-- A test that doesn't pass is false.
pub is_false : {b : Bool} → (T b → ⊥) → b ≡ false
is_false {b = true} t = absurd (t tt)
is_false {b = false} t = refl

-- A false test doesn't pass.
pub fails : {b : Bool} → b ≡ false → T b → ⊥
fails e t = rw e at t

-- A test is true or false.
pub by-test {ℓ} : {C : Type ℓ} (b : Bool) → (b ≡ true → C) → (b ≡ false → C) → C
by-test true t f = t refl
by-test false t f = f refl

-- A number is below another, or it is not.
pub below_or_from : (n m : ℕ) → (n < m) ⊎ (m ≤ n)
below_or_from n m = by-test (ltb n m) (λ e. inl (ltb-true n m e)) (λ e. inr (ltb-false n m e))

-- Two tests that pass together are equal.
pub same_test : {a b : Bool} → (T a → T b) → (T b → T a) → a ≡ b
same_test {b = true} f g = is_true (g tt)
same_test {b = false} f g = is_false f

-- Both of two tests pass exactly if each does.
pub both : (a b : Bool) → T (a && b) ↔ (T a × T b)
both true b = (λ t. (tt, t), λ p. p.1)
both false b = (absurd, λ p. p.0)

-- One of two tests passes exactly if the first or the second does.
pub either : (a b : Bool) → T (a || b) ↔ (T a ⊎ T b)
either true b = (λ t. inl t, λ s. tt)
either false b = (λ t. inr t, elim [ inl h ↦ absurd h | inr h ↦ h ])

-- The negated test passes exactly if the test doesn't.
pub negated : (b : Bool) → T (not b) ↔ (T b → ⊥)
negated true = (λ t s. t, λ t. t tt)
negated false = (λ t s. s, λ t. tt)

-- A test whose negation fails passes.
pub affirmed : (b : Bool) → (T (not b) → ⊥) → T b
affirmed true h = tt
affirmed false h = h tt

-- "Not the first, or the second" passes exactly if the second passes where the first does.
pub implies : (a b : Bool) → T (not a || b) ↔ (T a → T b)
implies true b = (λ t s. t, λ h. h tt)
implies false b = (λ t s. absurd s, λ h. tt)

-- Where "not the first, or the second" fails, the first passes and the second doesn't.
pub implies_out : (a b : Bool) → (T (not a || b) → ⊥) → T a × (T b → ⊥)
implies_out true b h = (tt, h)
implies_out false b h = absurd (h tt)

module _ {ℓ} {A : Type ℓ} (p : A → Bool) where
  -- Where every entry of a list passes, each one does.
  pub every_in : (xs : List A) → T (every p xs) → (x : A) → x ∈ xs → T (p x)
  unfolding every
  every_in [] t x m = elim m [ ]
  every_in (y ∷ ys) t x (Memᴰ.head e) = rw e ((both (p y) (every p ys)).0 t).0
  every_in (y ∷ ys) t x (Memᴰ.tail m) = every_in ys ((both (p y) (every p ys)).0 t).1 x m

  -- Where each entry of a list passes, every one does.
  pub every_intro : (xs : List A) → ((x : A) → x ∈ xs → T (p x)) → T (every p xs)
  unfolding every
  every_intro [] h = tt
  every_intro (y ∷ ys) h =
      (both (p y) (every p ys)).1 (h y (Memᴰ.head refl), every_intro ys (λ x m. h x (Memᴰ.tail m)))

  -- Where not every entry of a list passes, there is one that doesn't.
  pub every_out : (xs : List A) → (T (every p xs) → ⊥) → (x : A) × (x ∈ xs) × (T (p x) → ⊥)
  unfolding every
  every_out [] h = absurd (h tt)
  every_out (y ∷ ys) h =
      by-test (p y)
      (λ e.
      let (x, m, n) = every_out ys (λ t. h ((both (p y) (every p ys)).1 (passes e, t))) in
      (x, Memᴰ.tail m, n))
      (λ e. (y, Memᴰ.head refl, fails e))

  -- Where some entry of a list passes, there is one that does.
  pub any_in : (xs : List A) → T (any p xs) → (x : A) × (x ∈ xs) × T (p x)
  unfolding any
  any_in [] t = absurd t
  any_in (y ∷ ys) t =
      elim ((either (p y) (any p ys)).0 t)
      [ inl h ↦ (y, Memᴰ.head refl, h) | inr h ↦ let (x, m, q) = any_in ys h in (x, Memᴰ.tail m, q) ]

  -- Where an entry of a list passes, some entry does.
  pub any_intro : (xs : List A) (x : A) → x ∈ xs → T (p x) → T (any p xs)
  unfolding any
  any_intro [] x m h = elim m [ ]
  any_intro (y ∷ ys) x (Memᴰ.head e) h = (either (p y) (any p ys)).1 (inl (rw e at h))
  any_intro (y ∷ ys) x (Memᴰ.tail m) h = (either (p y) (any p ys)).1 (inr (any_intro ys x m h))

-- A list's set has a fact exactly if the list names it.
pub listed-is : (xs : List ℕ) (f : ℕ) → T (listed xs f) ↔ (f ∈ xs)
unfolding listed
listed-is xs f =
    (λ t. let (x, m, e) = any_in (eqb f) xs t in Memᴰ.cast (eqb→eq f x e) m, λ m. any_intro (eqb f) xs f m (eqb_refl f))

-- k is at most n, passes where it is below n, and no number before it passes
abbrev IsFirst : (ℕ → Bool) → ℕ → ℕ → Type 0
IsFirst p n k = (k ≤ n) × (k < n → p k ≡ true) × ((r : ℕ) → r < k → p r ≡ false)

-- The first number is that.
first-facts : (p : ℕ → Bool) (n : ℕ) → IsFirst p n (first p n)
unfolding first
first-facts p zero = (omega arith, λ h. absurd (omega arith), λ r h. absurd (omega arith))
first-facts p (suc n) = go (p 0) refl (first-facts (λ k. p (suc k)) n)
  where
    below : {k : ℕ} → p 0 ≡ false → ((r : ℕ) → r < k → p (suc r) ≡ false) → (r : ℕ) → r < suc k → p r ≡ false
    below e h zero l = e
    below e h (suc r) l = h r (omega arith)

    go : (b : Bool) → p 0 ≡ b → IsFirst (λ k. p (suc k)) n (first (λ k. p (suc k)) n)
        → IsFirst p (suc n) (elim b as (λ _. ℕ) [ true ↦ zero | false ↦ suc (first (λ k. p (suc k)) n) ])
    go true e h = (omega arith, λ _. e, λ r l. absurd (omega arith))
    go false e h = (omega arith, λ l. h.1 (omega arith), below e h.2)

module _ (p : ℕ → Bool) (n : ℕ) where
  -- The first number is at most n.
  pub first_le : first p n ≤ n
  first_le = (first-facts p n).0

  -- A first number below n passes.
  pub first_hit : first p n < n → p (first p n) ≡ true
  first_hit = (first-facts p n).1

  -- No number before the first one passes.
  pub first-before : (r : ℕ) → r < first p n → p r ≡ false
  first-before = (first-facts p n).2

  -- The first number passes, if n does.
  pub first_passes : p n ≡ true → p (first p n) ≡ true
  first_passes e = elim (eq-or-lt_of_le first_le) [ inl i ↦ rw i e | inr l ↦ first_hit l ]

  -- The number that passes, with none before it, is the first one.
  pub first-is : (r : ℕ) → p r ≡ true → ((q : ℕ) → q < r → p q ≡ false) → r ≤ n → first p n ≡ r
  first-is r e h l =
      let not_after : r < first p n → ⊥ = λ k. true≢false (sym e ∙ first-before r k) in
      let not-before : first p n < r → ⊥ = λ k. true≢false (sym (first_hit (omega arith)) ∙ h (first p n) k) in
      omega (arith, first_le)

-- Numbers of which no two are one below the other are one number.
pub one_number : (P : ℕ → Type 0) → ((a b : ℕ) → P a → P b → a < b → ⊥) → {a b : ℕ} → P a → P b → a ≡ b
one_number P h {a} {b} x y = let l = h a b x y in let g = h b a y x in omega arith

-- The entry at an index of a list is one of its entries.
pub get_or_in {ℓ} : {A : Type ℓ} (xs : List A) (i : ℕ) (d : A) → i < length xs → get_or xs i d ∈ xs
get_or_in [] i d h = absurd (not-suc-le-zero h)
get_or_in (x ∷ xs) zero d h = Memᴰ.head refl
get_or_in (x ∷ xs) (suc i) d h = Memᴰ.tail (get_or_in xs i d (le_of_suc-le-suc h))

-- std's word for the same
pub any_is : {A : Type 0} (p : A → Bool) (xs : List A) → list_any p xs ≡ any p xs
unfolding any
any_is p [] = refl
any_is p (x ∷ xs) = rw (any_is p xs)
