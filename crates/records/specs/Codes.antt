-- Formulas as codes, operator first (document 02, wish 11): whether a record's codes are one formula.
use Rattle.std.specs.Prelude.{ℕ, zero, suc, Bool, true, false, cond, List, [], ◌∷◌, ltb}
use Rattle.std.proofs.Math.Option.{Option, none, some, bind}
use Rattle.sets.specs.Sets.{listed}

-- "A code is 2 bytes: below 32,768 a fact; from 32,768 up, in this order, not, and, or, implies, Yesterday, Once,
-- Historically, Since.": the operators over one formula, and those over two
unfoldable pub over_one_lem : ℕ → Bool
unfolding listed
over_one_lem = listed (32768 ∷ 32772 ∷ 32773 ∷ 32774 ∷ [])

unfoldable pub over_two_lem : ℕ → Bool
unfolding listed
over_two_lem = listed (32769 ∷ 32770 ∷ 32771 ∷ 32775 ∷ [])

-- "operator first, at most 32 deep (a lone fact is 1 deep)": the codes behind the formula, at most so deep, that these
-- start with; none where no such formula does: "a code over 32,775, an unfinished formula .. or one too deep"
unfoldable pub behind : ℕ → List ℕ → Option (List ℕ)
unfolding over_one_lem over_two_lem bind
behind zero codes = none
behind (suc deep) [] = none
behind (suc deep) (c ∷ codes) =
    cond (ltb c 32768) (some codes)
    (cond (over_one_lem c) (behind deep codes) (cond (over_two_lem c) (bind (behind deep codes) (behind deep)) none))

-- the codes are a formula, and none are left "after its end"
unfoldable pub is_formula_lem : List ℕ → Bool
unfolding behind
is_formula_lem codes = elim (behind 32 codes) [ none ↦ false | some [] ↦ true | some (c ∷ rest) ↦ false ]
