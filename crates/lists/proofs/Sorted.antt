-- Laws on strictly ascending numbers, and on looking one up by halves.
use Prim.Native.Nat.{ℕ, zero, suc, ◌≤◌, ◌<◌}
use mathlib.Core.Path.{◌≡◌, refl, sym, subst}
use mathlib.Core.Bool.{true, false}
use mathlib.Core.Logic.{⊎_elim, ∥∥₁_elim}
use mathlib.Core.HLevel.{⊥_prop}
use mathlib.Core.List.Memᴰ
use mathlib.Core.List.{List, [], ◌∷◌, Nodup, Nodup-nil, Nodup-cons}
use native.Mathlib.Nat.{not-suc-le-zero, le_of_suc-le-suc}
use native.Mathlib.Omega.{arith}
use borrow.Author.Tests.{ltb-true}
use lib.Dec.{ltb}
use lib.ListN.{length, get_or}
use Rattle.sets.specs.Sets.{listed, ◌∈◌}
use Rattle.sets.proofs.Laws.{passes, is_true, is_false, both, listed-is, get_or_in, below_or_from}
use Rattle.records.specs.Words.{ascending}

-- What follows the first is ascending,
pub rest-ascending : (x : ℕ) (xs : List ℕ) → ascending (x ∷ xs) ≡ true → ascending xs ≡ true
unfolding ascending
rest-ascending x [] e = refl
rest-ascending x (y ∷ ys) e = is_true ((both (ltb x y) (ascending (y ∷ ys))).0 (passes e)).1

-- and the first is below all of it.
first_below : (x : ℕ) (xs : List ℕ) → ascending (x ∷ xs) ≡ true → (i : ℕ) → i < length xs → x < get_or xs i 0
unfolding ascending
first_below x [] e i h = absurd (not-suc-le-zero h)
first_below x (y ∷ ys) e zero h = ltb-true x y (is_true ((both (ltb x y) (ascending (y ∷ ys))).0 (passes e)).0)
first_below x (y ∷ ys) e (suc i) h =
    let low : x < y = ltb-true x y (is_true ((both (ltb x y) (ascending (y ∷ ys))).0 (passes e)).0) in
    omega (arith, first_below y ys (rest-ascending x (y ∷ ys) e) i (le_of_suc-le-suc h))

-- Each is below every later one.
pub ascending-at : (xs : List ℕ) → ascending xs ≡ true → (i j : ℕ) → i < j → j < length xs → get_or xs i 0 < get_or xs j 0
ascending-at [] e i j l h = absurd (not-suc-le-zero h)
ascending-at (x ∷ xs) e i zero l h = absurd (not-suc-le-zero l)
ascending-at (x ∷ xs) e zero (suc j) l h = first_below x xs e j (le_of_suc-le-suc h)
ascending-at (x ∷ xs) e (suc i) (suc j) l h =
    ascending-at xs (rest-ascending x xs e) i j (le_of_suc-le-suc l) (le_of_suc-le-suc h)

-- ---- looking a number up

-- a number of the list has an index
index_in : (xs : List ℕ) (x : ℕ) → x ∈ xs → (i : ℕ) × (i < length xs) × (get_or xs i 0 ≡ x)
index_in [] x m = elim m [ ]
index_in (y ∷ ys) x (Memᴰ.head e) = (0, omega arith, sym e)
index_in (y ∷ ys) x (Memᴰ.tail m) = let (i, h, e) = index_in ys x m in (suc i, omega arith, e)

-- Ascending numbers repeat nothing.
pub ascending-once : (xs : List ℕ) → ascending xs ≡ true → Nodup xs
ascending-once [] e = Nodup-nil
ascending-once (x ∷ xs) e =
    let new : x ∈ xs → ⊥ = λ m. let (i, h, is) = index_in xs x m in omega (arith, first_below x xs e i h) in
    Nodup-cons.1 (λ m. ∥∥₁_elim m ⊥_prop new, ascending-once xs (rest-ascending x xs e))

-- n can stand only from low on and before high
pub record Between (xs : List ℕ) (n low high : ℕ) : Type 0 where
  pub ends : high ≤ length xs
  pub smaller : (i : ℕ) → i < low → get_or xs i 0 < n
  pub larger : (i : ℕ) → high ≤ i → i < length xs → n < get_or xs i 0

module _ (xs : List ℕ) (n : ℕ) where
  -- It is there where a number equals it,
  pub found : (i : ℕ) → i < length xs → get_or xs i 0 ≡ n → listed xs n ≡ true
  found i h e = is_true ((listed-is xs n).1 (subst (λ x. x ∈ xs) e (get_or_in xs i 0 h)))

  -- and not where nothing is left.
  pub not_found : {low high : ℕ} → Between xs n low high → high ≤ low → listed xs n ≡ false
  not_found {low} {high} b done = is_false (λ t.
      let (i, h, e) = index_in xs n ((listed-is xs n).0 t) in
      ⊎_elim (λ l. omega (arith, b.smaller i l)) (λ l. omega (arith, b.larger i (omega arith) h))
      (below_or_from i low))
