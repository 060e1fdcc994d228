-- Laws of different: how many different entries of a list pass a test.
use Prim.Native.Nat.{ℕ, suc, ◌≤◌, ◌<◌}
use native.Mathlib.Omega.{arith}
use mathlib.Core.Path.{◌≡◌, refl, sym, ◌∙◌, ap}
use mathlib.Core.Logic.{◌↔◌, inl, inr, ∥∥₁_elim}
use mathlib.Core.HLevel.{⊥_prop}
use mathlib.Core.Bool.{Bool, true, false, not, ◌&&◌, cond}
use mathlib.Core.List.Memᴰ
use mathlib.Core.List.{List, [], ◌∷◌, Nodup, Nodup-nil, Nodup-cons}
use lib.Dec.{T, eqb, eqb→eq, eqb_refl}
use lib.ListN.{length}
use Rattle.sets.specs.Sets.{listed, ◌∈◌}
use Rattle.meaning.specs.Rounds.{different}
use Rattle.sets.proofs.Laws.{is_true, is_false, passes, fails, by-test, both, negated, affirmed, listed-is}

-- A test counts at most as much as another that passes wherever it does.
count_le : (a b : Bool) → (T a → T b) → cond a 1 0 ≤ cond b 1 0
count_le true true h = omega arith
count_le true false h = absurd (h tt)
count_le false true h = omega arith
count_le false false h = omega arith

-- The different entries that pass are at most as many as the entries.
pub different_le_length : (p : ℕ → Bool) (xs : List ℕ) → different p xs ≤ length xs
unfolding different
different_le_length p [] = omega arith
different_le_length p (x ∷ xs) =
    let one = count_le (p x && not (listed xs x)) true (λ t. tt) in
    omega (arith, different_le_length p xs)

module _ (p q : ℕ → Bool) where
  -- An entry counts at most as much by p as by q, if it passes q where it passes p and none after it is the same.
  entry_le : (x : ℕ) (xs : List ℕ) → (T (p x) → (x ∈ xs → ⊥) → T (q x))
      → cond (p x && not (listed xs x)) 1 0 ≤ cond (q x && not (listed xs x)) 1 0
  entry_le x xs h =
      count_le (p x && not (listed xs x)) (q x && not (listed xs x))
      (λ t. let (a, b) = (both (p x) (not (listed xs x))).0 t in
      (both (q x) (not (listed xs x))).1 (h a (λ m. (negated (listed xs x)).0 b ((listed-is xs x).1 m)), b))

  -- At most as many different entries pass p as pass q, if each passes q where it passes p.
  pub different_le : (xs : List ℕ) → ((x : ℕ) → x ∈ xs → T (p x) → T (q x)) → different p xs ≤ different q xs
  unfolding different
  different_le [] h = omega arith
  different_le (x ∷ xs) h =
      let one = entry_le x xs (λ t n. h x (Memᴰ.head refl) t) in
      omega (arith, different_le xs (λ y m. h y (Memᴰ.tail m)))

-- passes p and is not x
abbrev without : ℕ → (ℕ → Bool) → ℕ → Bool
without x p f = p f && not (eqb f x)

-- That test passes exactly so.
without_is : (x : ℕ) (p : ℕ → Bool) (f : ℕ) → T (without x p f) ↔ (T (p f) × (f ≡ x → ⊥))
without_is x p f = (
  λ t. let (a, b) = (both (p f) (not (eqb f x))).0 t in (a, λ e. (negated (eqb f x)).0 b (rw e (eqb_refl x))),
  λ (a, n). (both (p f) (not (eqb f x))).1 (a, (negated (eqb f x)).1 (λ t. n (eqb→eq f x t))),
)

-- Without one of the entries that pass, one fewer passes.
pub different-one : (p : ℕ → Bool) (xs : List ℕ) (x : ℕ) → x ∈ xs → T (p x)
    → different p xs ≡ suc (different (without x p) xs)
unfolding different
different-one p [] x m t = elim m [ ]
different-one p (y ∷ ys) x m t =
    let q = without x p in
    let less : (f : ℕ) → T (q f) → T (p f) = λ f s. ((without_is x p f).0 s).0 in
    by-test (listed ys x)
    (λ e.
    let i = (listed-is ys x).0 (passes e) in
    let same = entry_le p q y ys (λ s n. (without_is x p y).1 (s, λ e. n (Memᴰ.cast e i))) in
    omega (arith, entry_le q p y ys (λ s n. less y s), different-one p ys x i t))
    (λ e. elim (Memᴰ.cases_cons m) [
      | inl i ↦
          let no : q x ≡ false = is_false (λ s. ((without_is x p x).0 s).1 refl) in
          let other : (f : ℕ) → f ∈ ys → f ≡ x → ⊥ = λ f k j. fails e ((listed-is ys x).1 (Memᴰ.cast (sym j) k)) in
          let kept = different_le p q ys (λ f k s. (without_is x p f).1 (s, other f k)) in
          rw (← i, no, is_true {b = p x} t, e) (omega (arith, different_le q p ys (λ f k. less f)))
      | inr k ↦ absurd (fails e ((listed-is ys x).1 k))
    ])

-- Fewer pass p than q, if each passes q where it passes p, and some entry passes q alone.
pub different_lt : (p q : ℕ → Bool) → ((x : ℕ) → T (p x) → T (q x)) → (xs : List ℕ) (x : ℕ) → x ∈ xs → T (q x)
    → (T (p x) → ⊥) → different p xs < different q xs
different_lt p q h xs x m t f =
    let le = different_le p (without x q) xs (λ y k s. (without_is x q y).1 (h y s, λ e. f (rw e at s))) in
    omega (arith, different-one q xs x m t)

-- Where none passes there are none.
different-none : (p : ℕ → Bool) (xs : List ℕ) → ((x : ℕ) → x ∈ xs → T (p x) → ⊥) → different p xs ≡ 0
unfolding different
different-none p [] h = refl
different-none p (x ∷ xs) h =
    rw (is_false {b = p x} (h x (Memᴰ.head refl)))
    (omega (arith, different-none p xs (λ y m. h y (Memᴰ.tail m))))

-- xs repeats nothing and has just the entries of ys that pass
abbrev pub Picked : (ℕ → Bool) → List ℕ → List ℕ → Type 0
Picked p ys xs =
    Nodup xs × ((f : ℕ) → f ∈ xs → (f ∈ ys) × T (p f)) × ((f : ℕ) → f ∈ ys → T (p f) → f ∈ xs)

-- There is such a list.
pub picked : (p : ℕ → Bool) (ys : List ℕ) → (xs : List ℕ) × Picked p ys xs
picked p [] = ([], (Nodup-nil, λ f i. absurd (Memᴰ.not-nil i), λ f i. absurd (Memᴰ.not-nil i)))
picked p (y ∷ ys) =
    let (xs, (u, h, k)) = picked p ys in
    by-test (p y && not (listed ys y))
    (λ e.
    let (a, b) = (both (p y) (not (listed ys y))).0 (passes e) in
    let new : y ∈ xs → ⊥ = λ i. (negated (listed ys y)).0 b ((listed-is ys y).1 (h y i).0) in (
      y ∷ xs,
      (
        Nodup-cons.1 (λ i. ∥∥₁_elim i ⊥_prop new, u),
        λ f i. elim (Memᴰ.cases_cons i) [
          | inl j ↦ (Memᴰ.head j, rw j a)
          | inr j ↦ (Memᴰ.tail (h f j).0, (h f j).1)
        ],
        λ f i t. elim (Memᴰ.cases_cons i) [ inl j ↦ Memᴰ.head j | inr j ↦ Memᴰ.tail (k f j t) ],
      ),
    ))
    (λ e.
    let old : T (p y) → y ∈ ys =
    λ t. (listed-is ys y).0 (affirmed (listed ys y) (λ n. fails e ((both (p y) (not (listed ys y))).1 (t, n))))
    in (
      xs,
      (
        u,
        λ f i. (Memᴰ.tail (h f i).0, (h f i).1),
        λ f i t. elim (Memᴰ.cases_cons i) [ inl j ↦ k f (Memᴰ.cast j (old (rw j at t))) t | inr j ↦ k f j t ],
      ),
    ))

-- As many different entries pass as such a list has.
pub different-is : (p : ℕ → Bool) (ys xs : List ℕ) → Picked p ys xs → different p ys ≡ length xs
different-is p ys [] (u, h, k) = different-none p ys (λ f m t. Memᴰ.not-nil (k f m t))
different-is p ys (x ∷ xs) (u, h, k) =
    let (n, v) = Nodup-cons.0 u in
    let (m, t) = h x (Memᴰ.head refl) in
    different-one p ys x m t
    ∙ ap suc (different-is (without x p) ys xs (
      v,
      λ f i. let (a, b) = h f (Memᴰ.tail i) in (a, (without_is x p f).1 (b, λ e. n ∣ Memᴰ.cast (sym e) i ∣₁)),
      λ f i s.
          let (a, b) = (without_is x p f).0 s in
          elim (Memᴰ.cases_cons (k f i a)) [ inl e ↦ absurd (b e) | inr j ↦ j ],
    ))
