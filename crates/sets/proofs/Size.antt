-- Counts of facts, `size`: over two ranges, over equal sets, over none, and past the last fact.
use Prim.Native.Nat.{ℕ, zero, suc, ◌+◌, ◌-◌, ◌≤◌, ◌<◌, zero-le}
use mathlib.Core.Path.{◌≡◌, refl, sym, ap, ap₂, ◌∙◌}
use mathlib.Core.Bool.{Bool, true, false, cond}
use native.Mathlib.Nat.{zero-add, add-zero, add-suc, add_assoc, add-sub_of_le, le_refl, le_step}
use native.Mathlib.Omega.{arith}
use Rattle.sets.specs.Sets.{Facts, size}

-- what a fact adds to a count: 1 where it is in the set
abbrev pub one : Bool → ℕ
one t = cond t 1 0

-- The facts below m, and the n from m on, are counted apart.
pub size-add : (X : Facts) (m n : ℕ) → size X (m + n) ≡ size (λ k. X (m + k)) n + size X m
unfolding size
size-add X m zero = ap (size X) (add-zero m) ∙ sym (zero-add (size X m))
size-add X m (suc n) =
    ap (size X) (add-suc m n) ∙ ap (λ (s : ℕ). one (X (m + n)) + s) (size-add X m n)
    ∙ sym (add_assoc (one (X (m + n))) (size (λ k. X (m + k)) n) (size X m))

-- Sets that agree below n have as many facts there.
pub size_same : (X Y : Facts) (n : ℕ) → ((k : ℕ) → k < n → X k ≡ Y k) → size X n ≡ size Y n
unfolding size
size_same X Y zero h = refl
size_same X Y (suc n) h =
    ap₂ (λ (t : Bool) (s : ℕ). one t + s) (h n (le_refl (suc n))) (size_same X Y n (λ k l. h k (le_step l)))

-- A set with no fact below n has 0 of them there.
pub size_none : (X : Facts) (n : ℕ) → ((k : ℕ) → k < n → X k ≡ false) → size X n ≡ 0
unfolding size
size_none X zero h = refl
size_none X (suc n) h =
    ap₂ (λ (t : Bool) (s : ℕ). one t + s) (h n (le_refl (suc n))) (size_none X n (λ k l. h k (le_step l)))

-- Counting further than the last fact counts nothing more.
pub size_below : (X : Facts) (m n : ℕ) → m ≤ n → ((k : ℕ) → m ≤ k → X k ≡ false) → size X n ≡ size X m
size_below X m n h out =
    ap (size X) (sym (add-sub_of_le h)) ∙ size-add X m (n - m)
    ∙ ap (λ (s : ℕ). s + size X m) (size_none _ (n - m) (λ k l. out (m + k) (omega arith)))
    ∙ zero-add _

-- What a fact adds is at most 1.
pub one_le : (t : Bool) → one t ≤ 1
one_le true = le_refl 1
one_le false = zero-le

-- A set has at most n facts below n.
pub size_le : (X : Facts) (n : ℕ) → size X n ≤ n
unfolding size
size_le X zero = zero-le
size_le X (suc n) = omega (arith, one_le (X n), size_le X n)
