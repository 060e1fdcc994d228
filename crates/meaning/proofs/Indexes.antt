-- The index is each body place's clause number, by fact and then clause, and no other list is.
use Prim.Native.Nat.{ℕ, zero, suc, ◌<◌}
use native.Mathlib.Nat.{eq-or-lt_of_le}
use native.Mathlib.Bridge.{le_prop}
use native.Mathlib.Omega.{arith}
use mathlib.Core.Path.{◌≡◌, refl, sym, ap, ap₂, ◌∙◌}
use mathlib.Core.Logic.{◌↔◌, inl, inr}
use mathlib.Core.HLevel.{×_prop, →_prop}
use mathlib.Core.List.Pairwise
use mathlib.Core.List.{List, [], ◌∷◌, ◌++◌, map, map-append, map-map, map-id, Pairwise}
use mathlib.Core.List.{rel_of_Pairwise-cons}
use mathlib.Core.List.Memᴰ
use lib.ListN.{length}
use Rattle.sets.specs.Sets.{◌∈◌}
use Rattle.sets.proofs.Laws.{listed-is}
use Rattle.meaning.specs.Model.{Clause}
use Rattle.meaning.specs.Worklist.{entries_from_lem, index_below_lem}
use Rattle.meaning.specs.Working.{clause_at}
use Rattle.meaning.specs.Promises.{Before, IsIndex}
use Rattle.meaning.proofs.Places.{entries_ascend, entries_are, entry_in, clause_in, pairs_apart}

-- ---- the index

-- the body places of the facts below n
unfoldable places_below : ℕ → List Clause → List (ℕ × ℕ)
places_below zero cs = []
places_below (suc n) cs = places_below n cs ++ map (λ k. (n, k)) (entries_from_lem 0 cs n)

before_prop : (p q : ℕ × ℕ) → IsProp (Before p q)
before_prop p q = ×_prop le_prop (→_prop le_prop)

-- The second of each pair that is made of an entry is the entry.
seconds : (n : ℕ) (ks : List ℕ) → ks ≡ map (λ (p : ℕ × ℕ). p.1) (map (λ k. (n, k)) ks)
seconds n ks = sym (map-map (λ (p : ℕ × ℕ). p.1) (λ k. (n, k)) ks ∙ map-id ks)

module _ (cs : List Clause) where
  -- Their clauses' numbers are the index, ..
  below-numbers : (n : ℕ) → index_below_lem n cs ≡ map (λ p. p.1) (places_below n cs)
  unfolding index_below_lem places_below
  below-numbers zero = refl
  below-numbers (suc n) =
      ap₂ (λ (a b : List ℕ). a ++ b) (below-numbers n) (seconds n (entries_from_lem 0 cs n))
      ∙ sym (map-append (λ p. p.1) (places_below n cs) (map (λ k. (n, k)) (entries_from_lem 0 cs n)))

  -- .. they are the facts below n with their entries, ..
  below_each : (n f k : ℕ) → ((f, k) ∈ places_below n cs) ↔ ((f < n) × (k ∈ entries_from_lem 0 cs f))
  unfolding places_below
  below_each zero f k = (λ m. absurd (Memᴰ.not-nil m), λ (l, m). absurd (omega arith))
  below_each (suc n) f k =
      let rest = below_each n f k in (
        λ m. elim (Memᴰ.append_cases (places_below n cs) m) [
          | inl i ↦ let (l, j) = rest.0 i in (omega arith, j)
          | inr i ↦
              let (j, there, same) = Memᴰ.of_map (λ k. (n, k)) (entries_from_lem 0 cs n) i in
              let fact : n ≡ f = ap (λ p. p.0) same in
              let clause : j ≡ k = ap (λ p. p.1) same in
              (omega arith, rw (← fact, ← clause) there)
        ],
        λ (l, m). elim (eq-or-lt_of_le l) [
          | inl e ↦
              let fact : f ≡ n = omega arith in
              Memᴰ.append_right (places_below n cs) (rw fact (Memᴰ.map (λ k. (n, k)) (rw fact at m)))
          | inr e ↦ Memᴰ.append_left _ (rest.1 (omega arith, m))
        ],
      )

  -- .. and each is before those after it.
  below-order : (n : ℕ) → Pairwise Before (places_below n cs)
  unfolding places_below
  below-order zero = Pairwise.nil
  below-order (suc n) =
      (pairs_apart before_prop (places_below n cs) (map (λ k. (n, k)) (entries_from_lem 0 cs n))).1 (
        below-order n,
        Pairwise.map' (λ k. (n, k)) before_prop (Pairwise.imp (λ a b l. (omega arith, λ _. l)) (entries_ascend 0 cs n)),
        λ p q m i.
            let low : p.0 < n = ((below_each n p.0 p.1).0 m).0 in
            let (k, _, same) = Memᴰ.of_map (λ k. (n, k)) (entries_from_lem 0 cs n) i in
            let fact : n ≡ q.0 = ap (λ p. p.0) same in
            (omega arith, λ e. absurd (omega arith)),
      )

  -- A fact's entries are exactly the numbers of the clauses that have it in their bodies.
  entry_exactly : (f k : ℕ) → (k ∈ entries_from_lem 0 cs f) ↔ ((k < length cs) × (f ∈ (clause_at cs k).body))
  entry_exactly f k = (
    entry_in cs f k,
    λ (l, m). (listed-is (entries_from_lem 0 cs f) k).0 (rw (entries_are cs f k) ((listed-is (clause_at cs k).body f).1 m)),
  )

  -- Where every body fact is below n, the index is that of all body places.
  pub index_exactly : (n : ℕ) → ((c : Clause) → c ∈ cs → (b : ℕ) → b ∈ c.body → b < n)
      → IsIndex cs (index_below_lem n cs)
  index_exactly n low = record {
    places = places_below n cs;
    order = below-order n;
    each = λ f k.
        let in-below = below_each n f k in
        let of-clause = entry_exactly f k in (
          λ m. of-clause.0 (in-below.0 m).1,
          λ (l, m). in-below.1 (low _ (clause_in cs k l) f m, of-clause.1 (l, m)),
        );
    numbers = below-numbers n;
  }

-- ---- no other list

-- Of two places each can't be before the other.
before-once : (p q : ℕ × ℕ) → Before p q → Before q p → ⊥
before-once p q (a, c) (b, d) = omega (arith, c (omega arith), d (omega arith))

-- Two ordered lists of the same places are one list.
same-places : (ps qs : List (ℕ × ℕ)) → Pairwise Before ps → Pairwise Before qs
    → ((p : ℕ × ℕ) → p ∈ ps → p ∈ qs) → ((p : ℕ × ℕ) → p ∈ qs → p ∈ ps) → ps ≡ qs
same-places [] [] a b h k = refl
same-places [] (q ∷ qs) a b h k = absurd (Memᴰ.not-nil (k q (Memᴰ.head refl)))
same-places (p ∷ ps) [] a b h k = absurd (Memᴰ.not-nil (h p (Memᴰ.head refl)))
same-places (p ∷ ps) (q ∷ qs) a b h k =
    ap₂ (λ (x : ℕ × ℕ) (l : List (ℕ × ℕ)). x ∷ l) heads
    (same-places ps qs (Pairwise.of_cons a) (Pairwise.of_cons b) (rest a h heads) (rest b k (sym heads)))
  where
    heads : p ≡ q
    heads = elim (Memᴰ.cases_cons (h p (Memᴰ.head refl))) [
      | inl e ↦ e
      | inr m ↦ elim (Memᴰ.cases_cons (k q (Memᴰ.head refl))) [
        | inl e ↦ sym e
        | inr i ↦ absurd (before-once p q (rel_of_Pairwise-cons a ∣ i ∣₁) (rel_of_Pairwise-cons b ∣ m ∣₁))
      ]
    ]

    rest : {x y : ℕ × ℕ} {xs ys : List (ℕ × ℕ)} → Pairwise Before (x ∷ xs)
        → ((z : ℕ × ℕ) → z ∈ x ∷ xs → z ∈ y ∷ ys) → x ≡ y → (z : ℕ × ℕ) → z ∈ xs → z ∈ ys
    rest {x} c l e z m = elim (Memᴰ.cases_cons (l z (Memᴰ.tail m))) [
      | inl same ↦
          let itself : Before x x = rel_of_Pairwise-cons c ∣ Memᴰ.cast (e ∙ sym same) m ∣₁ in
          absurd (before-once x x itself itself)
      | inr i ↦ i
    ]

-- Two lists that are the index of the same clauses are equal.
pub index_unique : {cs : List Clause} {xs ys : List ℕ} → IsIndex cs xs → IsIndex cs ys → xs ≡ ys
index_unique x y =
    let same = same-places x.places y.places x.order y.order
    (λ p m. (y.each p.0 p.1).1 ((x.each p.0 p.1).0 m))
    (λ p m. (x.each p.0 p.1).1 ((y.each p.0 p.1).0 m))
    in
    x.numbers ∙ ap (map (λ p. p.1)) same ∙ sym y.numbers
