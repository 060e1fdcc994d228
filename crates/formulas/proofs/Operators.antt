-- The eight operators, once for all: which codes they are, and what with_one and with_two make with them.
use Prim.Native.Nat.{ℕ, suc, max}
use mathlib.Core.Path.{◌≡◌, refl}
use mathlib.Core.Logic.Iff
use mathlib.Core.Logic.{◌↔◌}
use mathlib.Core.Bool.{true, false}
use mathlib.Core.List.Memᴰ
use mathlib.Core.List.{[], ◌∷◌, ◌++◌}
use lib.Dec.{ltb}
use Rattle.sets.specs.Sets.{listed, ◌∈◌}
use Rattle.sets.proofs.Laws.{passes, listed-is}
use Rattle.meaning.specs.Past.{Formula}
use Rattle.meaning.specs.Past.Formula.{fact, negation, both, either, implies, yesterday, once, historically, since}
use Rattle.records.specs.Codes.{over_one_lem, over_two_lem}
use Rattle.formulas.specs.Codes.{codes_of, depth, FactsBelow, with_one, with_two}

-- What is so of each of four codes is so of one that their list has.
of_four {ℓ} : (P : ℕ → Type ℓ) {k l m n : ℕ} → P k → P l → P m → P n → (c : ℕ) → listed (k ∷ l ∷ m ∷ n ∷ []) c ≡ true
    → P c
of_four P {k} {l} {m} {n} a b d e c h = go ((listed-is (k ∷ l ∷ m ∷ n ∷ []) c).0 (passes h))
  where
    go : c ∈ (k ∷ l ∷ m ∷ n ∷ []) → P c
    go (Memᴰ.head i) = rw i a
    go (Memᴰ.tail (Memᴰ.head i)) = rw i b
    go (Memᴰ.tail (Memᴰ.tail (Memᴰ.head i))) = rw i d
    go (Memᴰ.tail (Memᴰ.tail (Memᴰ.tail (Memᴰ.head i)))) = rw i e
    go (Memᴰ.tail (Memᴰ.tail (Memᴰ.tail (Memᴰ.tail i)))) = elim i [ ]

-- What is so of not, Yesterday, Once and Historically is so of every operator over one formula.
pub of_one {ℓ} : (P : ℕ → Type ℓ) → P 32768 → P 32772 → P 32773 → P 32774 → (c : ℕ) → over_one_lem c ≡ true → P c
unfolding over_one_lem
of_one P = of_four P

-- What is so of and, or, implies and Since is so of every operator over two formulas.
pub of_two {ℓ} : (P : ℕ → Type ℓ) → P 32769 → P 32770 → P 32771 → P 32775 → (c : ℕ) → over_two_lem c ≡ true → P c
unfolding over_two_lem
of_two P = of_four P

-- An operator is no fact, and one over two formulas isn't over one.
pub one_no_fact : (c : ℕ) → over_one_lem c ≡ true → ltb c 32768 ≡ false
one_no_fact = of_one (λ c. ltb c 32768 ≡ false) refl refl refl refl

pub two_no_fact : (c : ℕ) → over_two_lem c ≡ true → ltb c 32768 ≡ false
two_no_fact = of_two (λ c. ltb c 32768 ≡ false) refl refl refl refl

pub two-not-one : (c : ℕ) → over_two_lem c ≡ true → over_one_lem c ≡ false
unfolding over_one_lem
two-not-one = of_two (λ c. over_one_lem c ≡ false) refl refl refl refl

-- What is so of every fact, and of each formula with an operator where it is so of its parts, is so of every formula.
pub by-operators {ℓ} : (P : Formula → Type ℓ) → ((f : ℕ) → P (fact f))
    → ((c : ℕ) (p : Formula) → over_one_lem c ≡ true → P p → P (with_one c p))
    → ((c : ℕ) (p q : Formula) → over_two_lem c ≡ true → P p → P q → P (with_two c p q))
    → (φ : Formula) → P φ
unfolding with_one with_two over_one_lem over_two_lem
by-operators P l o t (fact f) = l f
by-operators P l o t (negation p) = o 32768 p refl (by-operators P l o t p)
by-operators P l o t (both p q) = t 32769 p q refl (by-operators P l o t p) (by-operators P l o t q)
by-operators P l o t (either p q) = t 32770 p q refl (by-operators P l o t p) (by-operators P l o t q)
by-operators P l o t (implies p q) = t 32771 p q refl (by-operators P l o t p) (by-operators P l o t q)
by-operators P l o t (yesterday p) = o 32772 p refl (by-operators P l o t p)
by-operators P l o t (once p) = o 32773 p refl (by-operators P l o t p)
by-operators P l o t (historically p) = o 32774 p refl (by-operators P l o t p)
by-operators P l o t (since p q) = t 32775 p q refl (by-operators P l o t p) (by-operators P l o t q)

module _ (p : Formula) where
  -- The codes, the depth and the facts of a formula with an operator over one.
  pub one-codes : (c : ℕ) → over_one_lem c ≡ true → codes_of (with_one c p) ≡ c ∷ codes_of p
  unfolding codes_of with_one
  one-codes = of_one (λ c. codes_of (with_one c p) ≡ c ∷ codes_of p) refl refl refl refl

  pub one-depth : (c : ℕ) → over_one_lem c ≡ true → depth (with_one c p) ≡ suc (depth p)
  unfolding depth with_one
  one-depth = of_one (λ c. depth (with_one c p) ≡ suc (depth p)) refl refl refl refl

  pub one-facts : (n c : ℕ) → over_one_lem c ≡ true → FactsBelow n (with_one c p) ↔ FactsBelow n p
  unfolding FactsBelow with_one
  one-facts n = of_one (λ c. FactsBelow n (with_one c p) ↔ FactsBelow n p) Iff.rfl Iff.rfl Iff.rfl Iff.rfl

module _ (p q : Formula) where
  -- Those of one with an operator over two.
  pub two-codes : (c : ℕ) → over_two_lem c ≡ true → codes_of (with_two c p q) ≡ c ∷ codes_of p ++ codes_of q
  unfolding codes_of with_two
  two-codes = of_two (λ c. codes_of (with_two c p q) ≡ c ∷ codes_of p ++ codes_of q) refl refl refl refl

  pub two-depth : (c : ℕ) → over_two_lem c ≡ true → depth (with_two c p q) ≡ suc (max (depth p) (depth q))
  unfolding depth with_two
  two-depth = of_two (λ c. depth (with_two c p q) ≡ suc (max (depth p) (depth q))) refl refl refl refl

  pub two_facts : (n c : ℕ) → over_two_lem c ≡ true → FactsBelow n (with_two c p q) ↔ (FactsBelow n p × FactsBelow n q)
  unfolding FactsBelow with_two
  two_facts n =
      of_two (λ c. FactsBelow n (with_two c p q) ↔ (FactsBelow n p × FactsBelow n q)) Iff.rfl Iff.rfl Iff.rfl Iff.rfl
