-- A formula's codes, and the formula that codes are (document 02, wish 11).
use Rattle.std.specs.Prelude.{ℕ, zero, suc, max, ◌≤◌, ◌<◌, ◌≡◌, cond, List, [], ◌∷◌, ◌++◌, ltb, eqb}
use Rattle.std.proofs.Math.Option.{Option, none, some, bind, map}
use Rattle.meaning.specs.Past.{Formula}
use Rattle.meaning.specs.Past.Formula.{fact, negation, both, either, implies, yesterday, once, historically, since}
use Rattle.records.specs.Codes.{over_one_lem, over_two_lem}

-- ---- written

-- "operator first", "below 32,768 a fact; from 32,768 up, in this order, not, and, or, implies, Yesterday, Once,
-- Historically, Since"
unfoldable pub codes_of : Formula → List ℕ
codes_of (fact f) = f ∷ []
codes_of (negation p) = 32768 ∷ codes_of p
codes_of (both p q) = 32769 ∷ codes_of p ++ codes_of q
codes_of (either p q) = 32770 ∷ codes_of p ++ codes_of q
codes_of (implies p q) = 32771 ∷ codes_of p ++ codes_of q
codes_of (yesterday p) = 32772 ∷ codes_of p
codes_of (once p) = 32773 ∷ codes_of p
codes_of (historically p) = 32774 ∷ codes_of p
codes_of (since p q) = 32775 ∷ codes_of p ++ codes_of q

-- "at most 32 deep (a lone fact is 1 deep)"
unfoldable pub depth : Formula → ℕ
depth (fact f) = 1
depth (negation p) = suc (depth p)
depth (both p q) = suc (max (depth p) (depth q))
depth (either p q) = suc (max (depth p) (depth q))
depth (implies p q) = suc (max (depth p) (depth q))
depth (yesterday p) = suc (depth p)
depth (once p) = suc (depth p)
depth (historically p) = suc (depth p)
depth (since p q) = suc (max (depth p) (depth q))

-- every fact of the formula is below a limit
unfoldable pub FactsBelow : ℕ → Formula → Type 0
FactsBelow n (fact f) = f < n
FactsBelow n (negation p) = FactsBelow n p
FactsBelow n (both p q) = FactsBelow n p × FactsBelow n q
FactsBelow n (either p q) = FactsBelow n p × FactsBelow n q
FactsBelow n (implies p q) = FactsBelow n p × FactsBelow n q
FactsBelow n (yesterday p) = FactsBelow n p
FactsBelow n (once p) = FactsBelow n p
FactsBelow n (historically p) = FactsBelow n p
FactsBelow n (since p q) = FactsBelow n p × FactsBelow n q

-- ---- read

-- the formula with this operator before one formula, or before two
unfoldable pub with_one : ℕ → Formula → Formula
with_one c p =
    cond (eqb c 32768) (negation p)
    (cond (eqb c 32772) (yesterday p) (cond (eqb c 32773) (once p) (historically p)))

unfoldable pub with_two : ℕ → Formula → Formula → Formula
with_two c p q =
    cond (eqb c 32769) (both p q) (cond (eqb c 32770) (either p q) (cond (eqb c 32771) (implies p q) (since p q)))

-- A formula that codes start with, and those behind it.
pub record Read : Type 0 where
  pub formula : Formula
  pub rest : List ℕ

-- the one of at most so deep that these codes start with, if there is one
unfoldable pub read : ℕ → List ℕ → Option Read
unfolding over_one_lem over_two_lem bind with_one with_two
read zero codes = none
read (suc deep) [] = none
read (suc deep) (c ∷ codes) =
    cond (ltb c 32768) (some (record { formula = fact c; rest = codes }))
    (cond (over_one_lem c)
    (map (λ r. record { formula = with_one c r.formula; rest = r.rest }) (read deep codes))
    (cond (over_two_lem c)
    (bind (read deep codes)
    (λ r. map (λ s. record { formula = with_two c r.formula s.formula; rest = s.rest })
    (read deep r.rest)))
    none))

-- the formula that codes are; where they are none, no promise rests on this
unfoldable pub formula_of : List ℕ → Formula
formula_of codes = elim (read 32 codes) [ none ↦ fact 0 | some r ↦ r.formula ]

-- Codes that are a formula, written out: for those of which there is no such formula, "17 FORMULA for a code over
-- 32,775, an unfinished formula, codes after its end, or one too deep".
pub record Writes (written : List ℕ) (φ : Formula) : Type 0 where
  pub codes : written ≡ codes_of φ
  pub deep : depth φ ≤ 32
  pub facts : FactsBelow 32768 φ
