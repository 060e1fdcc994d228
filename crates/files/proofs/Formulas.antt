-- What the formulas of a judged model are: their records, and the codes of a goal.
use Prim.Native.Nat.{ℕ, ◌+◌, ◌-◌, ◌≤◌, ◌<◌}
use mathlib.Core.Path.{◌≡◌, refl, sym, ap}
use mathlib.Core.Bool.{Bool, true, ◌&&◌, true≢false}
use mathlib.Core.Logic.{⊎_elim}
use mathlib.Core.List.{List, [], ◌∷◌}
use mathlib.Core.Option.{none}
use native.Mathlib.Nat.{not-suc-le-zero, zero-add}
use native.Mathlib.Omega.{arith}
use lib.Dec.{leb, ltb}
use lib.ListN.{length, drop, get_or}
use borrow.Author.Tests.{lt-ltb, leb-false, ltb-false, eqb-true}
use Rattle.sets.proofs.Laws.{both, passes, is_false, fails, any_intro, below_or_from}
use Rattle.meaning.specs.Model.{aims}
use Rattle.records.specs.Words.{word, words}
use Rattle.records.specs.Codes.{is_formula_lem}
use Rattle.records.specs.Records.{records, whole, codes_in, judge, first_fault_lem}
use Rattle.records.specs.Refusals.{code}
use Rattle.records.specs.declared.Kind.TheVariants as kind
use Rattle.records.proofs.Words.{even-length}
use Rattle.records.proofs.Judging.{Formed, formed}
use Rattle.lists.proofs.Laws.{passed-at}
use Rattle.sections.specs.declared.Role.TheVariants.{Formulas}
use Rattle.files.specs.Files.{section_of, fact_count, formula_in, model_of_lem, shape_fault}
use Rattle.files.specs.Known.{FormulaCodes, GoalCodes}
use Rattle.files.proofs.Laws.{formulas-judged}
use Rattle.files.proofs.Aims.{formula-there, formula_in_lem}

module _ (m : List ℕ) (fine : shape_fault m ≡ none) where
  -- Nothing is wrong with a formula's record.
  pub formula-formed : (k : ℕ) → k < length (records (section_of m Formulas))
      → Formed (fact_count m) k (get_or (records (section_of m Formulas)) k [])
  unfolding first_fault_lem judge
  formula-formed k h =
      let F = fact_count m in
      let rs = records (section_of m Formulas) in
      let passed = rw zero-add at (passed-at (judge kind.Formula F) 0 0 rs (formulas-judged m fine) k h) in
      formed F k (get_or rs k []) (sym (ap code passed))

  -- So it has its length,
  pub formula-long : (k : ℕ) → k < length (records (section_of m Formulas))
      → 2 ≤ length (get_or (records (section_of m Formulas)) k [])
  unfolding whole
  formula-long k h =
      let r = get_or (records (section_of m Formulas)) k [] in
      omega (arith, eqb-true (length r) (2 + word r) (formula-formed k h).fits)

  -- and the codes behind that are a goal's.
  pub formula-codes : (g : ℕ) → length (model_of_lem m).goals ≤ g → g < length (aims (model_of_lem m))
      → FormulaCodes m g (drop 2 (get_or (records (section_of m Formulas)) (g - length (model_of_lem m).goals) []))
  unfolding codes_in formula_in
  formula-codes g from below =
      let k = g - length (model_of_lem m).goals in
      let r = get_or (records (section_of m Formulas)) k [] in
      let f = formula-formed k (formula-there m g from below) in
      let wrong : ℕ → Bool = λ c. leb (fact_count m) c && ltb c 32768 in
      record {
        these = refl;
        aim = formula_in_lem m g from below;
        whole = f.formula;
        few = ltb-false _ _ f.short;
        even = even-length (drop 2 r) f.even;
        below = λ c i small.
            leb-false (fact_count m) c
            (is_false (λ t. fails f.facts
            (any_intro wrong (codes_in r) c i ((both (leb (fact_count m) c) _).1 (t, passes (lt-ltb c 32768 small))))));
      }

-- ---- a goal's codes

-- No codes are no formula.
no_formula : (bytes : List ℕ) → length bytes ≤ 0 → is_formula_lem (words bytes) ≡ true → ⊥
unfolding is_formula_lem words
no_formula [] h e = true≢false (sym e)
no_formula (b ∷ bytes) h e = not-suc-le-zero h

module _ {m : List ℕ} {g : ℕ} {bytes : List ℕ} (codes : GoalCodes m g bytes) where
  -- Where there are some, the goal is a formula;
  pub codes-formula : 0 < length bytes → FormulaCodes m g bytes
  codes-formula h =
      ⊎_elim (λ l. absurd (omega (arith, ap length (codes.state l)))) (λ l. codes.formula l)
      (below_or_from g (length (model_of_lem m).goals))

  -- where there are none, an attack state.
  pub codes-state : length bytes ≤ 0 → g < length (model_of_lem m).goals
  codes-state h =
      ⊎_elim (λ l. l) (λ l. absurd (no_formula bytes h (codes.formula l).whole))
      (below_or_from g (length (model_of_lem m).goals))
