-- Laws on what is wrong first, by the passes over a record: a chain of tests in the order of its numbers, and with it
-- the sizes and bare numbers.
use Prim.Native.Nat.{ℕ, zero, suc, ◌<◌}
use mathlib.Core.Path.{◌≡◌, refl, ap}
use mathlib.Core.Logic.{◌⊎◌, inl, inr, ⊎_elim}
use mathlib.Core.Bool.{Bool, true, false, true≢false, not}
use mathlib.Core.List.{List, [], ◌∷◌}
use mathlib.Core.Option.{Option, none, some}
use native.Mathlib.Omega.{arith}
use lib.Dec.{leb, ltb, eqb, lit<}
use lib.ListN.{length}
use borrow.Author.Tests.{leb-true, ltb-true, ltb-false, eqb-true, eqb-false, le-leb, not-false, not-true}
use Rattle.sets.specs.Sets.{any}
use Rattle.sets.proofs.Laws.{is_true, passes, fails, by-test, both, any_in, any_intro}
use Rattle.records.specs.Words.{word, words, odd, ascending}
use Rattle.records.specs.Records.{given, ◌or_else◌, bare}
use Rattle.records.proofs.Words.{odd-length, even-length}
use Rattle.sections.specs.Sections.{sizes}
use Rattle.causes.specs.Causes.{Unordered, WrongSizes, WrongNumbers, WrongFacts, WrongNames}
use Rattle.causes.specs.Causes.{turn}

-- ---- strictly ascending

-- A list that isn't has an entry that is followed by one that isn't larger,
pub unordered : (l : List ℕ) → ascending l ≡ false → Unordered l
unfolding Unordered ascending
unordered [] e = absurd (true≢false e)
unordered (x ∷ []) e = absurd (true≢false e)
unordered (x ∷ y ∷ rest) e =
    by-test (ltb x y)
    (λ h. let (i, there, down) = unordered (y ∷ rest) (rw h at e) in (suc i, omega arith, down))
    (λ h. (0, omega arith, ltb-false x y h))

-- and one that is has none.
pub ordered : (l : List ℕ) → ascending l ≡ true → Unordered l → ⊥
unfolding Unordered ascending
ordered [] e (i, there, down) = omega arith
ordered (x ∷ []) e (i, there, down) = omega arith
ordered (x ∷ y ∷ rest) e (zero, there, down) =
    let (up, _) = (both (ltb x y) (ascending (y ∷ rest))).0 (passes e) in
    omega (arith, ltb-true x y (is_true up))
ordered (x ∷ y ∷ rest) e (suc i, there, down) =
    let (_, later) = (both (ltb x y) (ascending (y ∷ rest))).0 (passes e) in
    ordered (y ∷ rest) (is_true later) (i, omega arith, down)

-- ---- what is wrong first

-- the number is the one whose turn is first of those for which W holds; with no number it holds for none
abbrev pub First : Option ℕ → (ℕ → Type 0) → Type 0
First (some k) W = W k × ((j : ℕ) → turn j < turn k → W j → ⊥)
First none W = (k : ℕ) → W k → ⊥

module _ (W : ℕ → Type 0) (i : ℕ) where
  -- One test, for the only number.
  pub first-last : (test : Bool) → (test ≡ true → W i) → (test ≡ false → W i → ⊥) → ((n : ℕ) → W n → n ≡ i)
      → First (given test i) W
  unfolding given
  first-last true hit miss only = (hit refl, λ j h w. omega (arith, ap turn (only j w)))
  first-last false hit miss only = λ k w. let e = only k w in miss refl (rw e at w)

  -- One test more, for the number whose turn is first.
  pub first_next : (test : Bool) (rest : Option ℕ) → (test ≡ true → W i) → (test ≡ false → W i → ⊥)
      → ((n : ℕ) → W n → (n ≡ i) ⊎ (turn i < turn n))
      → First rest (λ n. W n × (turn i < turn n)) → First (given test i or_else rest) W
  unfolding given ◌or_else◌
  first_next true rest hit miss low later =
      (hit refl, λ j h w. ⊎_elim (λ e. omega (arith, ap turn e)) (λ l. omega arith) (low j w))
  first_next false rest hit miss low later = go rest later
    where
      above : (n : ℕ) → W n → turn i < turn n
      above n w = ⊎_elim (λ e. absurd (miss refl (rw e at w))) (λ h. h) (low n w)

      go : (found : Option ℕ) → First found (λ n. W n × (turn i < turn n)) → First found W
      go (some k) (w, least) = (w.0, λ j h v. least j h (v, above j v))
      go none none-there = λ k v. none-there k (v, above k v)

-- ---- the sizes and bare numbers

pub sizes-first : (bytes : List ℕ) → First (sizes bytes) (WrongSizes bytes)
unfolding sizes turn
sizes-first bytes =
    first_next W 4 (not (eqb (length bytes) 2)) (given (ltb 4096 (word bytes)) 5)
    (λ e. WrongSizes.shape (eqb-false _ _ (not-true _ e))) shaped low
    (first-last (λ n. W n × (turn 4 < turn n)) 5 (ltb 4096 (word bytes))
    (λ e. (WrongSizes.count (ltb-true _ _ e), lit< tt)) (λ e w. few e w.0) (λ n (w, h). only w h))
  where
    W : ℕ → Type 0
    W = WrongSizes bytes

    shaped : not (eqb (length bytes) 2) ≡ false → WrongSizes bytes 4 → ⊥
    shaped e (WrongSizes.shape h) = h (eqb-true _ _ (not-false _ e))

    low : (n : ℕ) → WrongSizes bytes n → (n ≡ 4) ⊎ (turn 4 < turn n)
    low n (WrongSizes.shape h) = inl refl
    low n (WrongSizes.count h) = inr (lit< tt)

    few : ltb 4096 (word bytes) ≡ false → WrongSizes bytes 5 → ⊥
    few e (WrongSizes.count h) = omega (arith, ltb-false 4096 (word bytes) e)

    only : {n : ℕ} → WrongSizes bytes n → turn 4 < turn n → n ≡ 5
    only (WrongSizes.shape h) l = absurd (omega arith)
    only (WrongSizes.count h) l = refl

-- numbers that are too large have a number between 4 and 7
module _ (number limit : ℕ) (bytes : List ℕ) (after : turn 4 < turn number) (before : turn number < turn 7) where
  abbrev large : Bool
  large = any (leb limit) (words bytes)

  abbrev unsorted-bytes : Bool
  unsorted-bytes = not (ascending (words bytes))

  numbers-first : First (given (odd bytes) 4 or_else given large number or_else given unsorted-bytes 7)
      (WrongNumbers number limit bytes)
  unfolding turn
  numbers-first =
      first_next W 4 (odd bytes) (given large number or_else given unsorted-bytes 7)
      (λ e. WrongNumbers.shape (odd-length bytes e)) even low
      (first_next (λ n. W n × (turn 4 < turn n)) number large (given unsorted-bytes 7)
      (λ e.
      let (f, i, t) = any_in (leb limit) (words bytes) (passes e) in
      (WrongNumbers.large f i (leb-true limit f (is_true t)), after))
      (λ e w. small e refl w.0) (λ n (w, h). next w h)
      (first-last (λ n. (W n × (turn 4 < turn n)) × (turn number < turn n)) 7 unsorted-bytes
      (λ e. ((WrongNumbers.order (unordered (words bytes) (not-true _ e)), lit< tt), before))
      (λ e w. rising e refl w.0.0) (λ n ((w, h), l). last w h l)))
    where
      W : ℕ → Type 0
      W = WrongNumbers number limit bytes

      even : odd bytes ≡ false → WrongNumbers number limit bytes 4 → ⊥
      even e w = even_if e refl w
        where
          even_if : {k : ℕ} → odd bytes ≡ false → k ≡ 4 → WrongNumbers number limit bytes k → ⊥
          even_if e is (WrongNumbers.shape h) = omega (arith, even-length bytes e)
          even_if e is (WrongNumbers.large f i h) = omega (arith, ap turn is)
          even_if e is (WrongNumbers.order h) = omega arith

      low : (n : ℕ) → WrongNumbers number limit bytes n → (n ≡ 4) ⊎ (turn 4 < turn n)
      low n (WrongNumbers.shape h) = inl refl
      low n (WrongNumbers.large f i h) = inr after
      low n (WrongNumbers.order h) = inr (lit< tt)

      small : {k : ℕ} → large ≡ false → k ≡ number → WrongNumbers number limit bytes k → ⊥
      small e is (WrongNumbers.shape h) = omega (arith, ap turn is)
      small e is (WrongNumbers.large f i h) =
          fails e (any_intro (leb limit) (words bytes) f i (passes (le-leb limit f h)))
      small e is (WrongNumbers.order h) = omega (arith, ap turn is)

      next : {n : ℕ} → WrongNumbers number limit bytes n → turn 4 < turn n → (n ≡ number) ⊎ (turn number < turn n)
      next (WrongNumbers.shape h) l = absurd (omega arith)
      next (WrongNumbers.large f i h) l = inl refl
      next (WrongNumbers.order h) l = inr before

      rising : {k : ℕ} → unsorted-bytes ≡ false → k ≡ 7 → WrongNumbers number limit bytes k → ⊥
      rising e is (WrongNumbers.shape h) = omega arith
      rising e is (WrongNumbers.large f i h) = omega (arith, ap turn is)
      rising e is (WrongNumbers.order h) = ordered (words bytes) (not-false _ e) h

      last : {n : ℕ} → WrongNumbers number limit bytes n → turn 4 < turn n → turn number < turn n → n ≡ 7
      last (WrongNumbers.shape h) l m = absurd (omega arith)
      last (WrongNumbers.large f i h) l m = absurd (omega arith)
      last (WrongNumbers.order h) l m = refl

pub facts-first : (F : ℕ) (bytes : List ℕ) → First (bare false F bytes) (WrongFacts F bytes)
unfolding bare turn given ◌or_else◌
facts-first F bytes = numbers-first 6 F bytes (lit< tt) (lit< tt)

pub names-first : (bytes : List ℕ) → First (bare true 1024 bytes) (WrongNames bytes)
unfolding bare turn given ◌or_else◌
names-first bytes = numbers-first 12 1024 bytes (lit< tt) (lit< tt)
