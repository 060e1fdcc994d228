-- A model of version 1 or 2 has no names and one of version 1 to 3 no formulas, so that nothing of them can be wrong
-- with it.
use Prim.Native.Nat.{ℕ, ◌<◌, ◌≤◌}
use mathlib.Core.Path.{◌≡◌, refl, sym, ap, ◌∙◌}
use mathlib.Core.Bool.{Bool, true≢false, cond}
use mathlib.Core.List.Memᴰ
use mathlib.Core.List.{List, [], ◌∷◌, flat_map}
use mathlib.Core.Option.{some}
use native.Mathlib.Omega.{arith}
use borrow.Author.Tests.{lt-ltb, lt-leb}
use lib.ListN.{length, drop, get_or, drop_of_length-le}
use Rattle.meaning.specs.Model.{Model}
use Rattle.records.specs.Words.{word, words}
use Rattle.records.specs.Records.{rows, list_count_lem, cut, lists_of}
use Rattle.records.specs.declared.Kind.{Kind}
use Rattle.records.specs.declared.Kind.TheVariants as kind
use Rattle.lists.specs.Lists.{Cut}
use Rattle.lists.proofs.Cuts.{body-cut, cut-length, formula-lists}
use Rattle.lists.proofs.Laws.{clause-lists}
use Rattle.sections.specs.declared.Role.{Role}
use Rattle.sections.specs.declared.Role.TheVariants.{Sizes, Initial, Persistent, Names, Clauses, Rules, Goals}
use Rattle.sections.specs.declared.Role.TheVariants.{Formulas}
use Rattle.files.specs.Files.{has, There}
use Rattle.files.proofs.Roles.{names-lacking, formulas-lacking}
use Rattle.causes.specs.Causes.{WrongSizes, WrongNumbers, WrongFacts, WrongRecord, WrongFormula, RuleKind, Wrong}
use Rattle.causes.specs.Causes.{ModelCause, TraceCause, Cause}
use Rattle.causes.specs.Written.{formula_bytes, section_bytes, last_section}

-- Only a rule of version 3 has a fourth list.
no_fourth : (K : Kind) (r : List ℕ) (lists : List (List ℕ)) → (K ≡ kind.Maker → ⊥) → lists_of K r ≡ some lists
    → drop 3 lists ≡ []
unfolding cut list_count_lem rows Cut
no_fourth kind.Clause r lists other e =
    let same = sym e ∙ clause-lists r (lists, e) in
    let is : lists ≡ (word (drop 2 r) ∷ []) ∷ words (drop 4 r) ∷ [] = cc in
    rw is
no_fourth kind.Rule r lists other e =
    let few : length lists ≤ 3 = omega (arith, cut-length 3 (drop 2 r) lists (body-cut kind.Rule r lists e)) in
    drop_of_length-le lists few
no_fourth kind.Maker r lists other e = absurd (other refl)
no_fourth kind.Goal r lists other e =
    let few : length lists ≤ 3 = omega (arith, cut-length 2 (drop 2 r) lists (body-cut kind.Goal r lists e)) in
    drop_of_length-le lists few
no_fourth kind.Formula r lists other e = rw (formula-lists r lists e)

-- No record of another kind has a wrong name.
no_wrong-name : {K : Kind} {most longest F n k : ℕ} {r : List ℕ} → (K ≡ kind.Maker → ⊥) → k ≡ 12
    → WrongRecord K most longest F n r k → ⊥
no_wrong-name other is (WrongRecord.shape e) = omega arith
no_wrong-name other is (WrongRecord.count h) = omega arith
no_wrong-name other is (WrongRecord.longer e l i h) = omega arith
no_wrong-name other is (WrongRecord.fact e l i f j h) = omega arith
no_wrong-name {K} {r = r} other is (WrongRecord.name {lists = lists} e l i a j h) =
    Memᴰ.not-nil (rw (no_fourth K r lists other e) at i)
no_wrong-name other is (WrongRecord.order e l i u) = omega arith

no_wrong-fact : {F k : ℕ} {bytes : List ℕ} → k ≡ 12 → WrongFacts F bytes k → ⊥
no_wrong-fact is (WrongNumbers.shape h) = omega arith
no_wrong-fact is (WrongNumbers.large f i h) = omega arith
no_wrong-fact is (WrongNumbers.order h) = omega arith

no_wrong-size : {k : ℕ} {bytes : List ℕ} → k ≡ 12 → WrongSizes bytes k → ⊥
no_wrong-size is (WrongSizes.shape h) = omega arith
no_wrong-size is (WrongSizes.count h) = omega arith

no_wrong-code : {F n k : ℕ} {r : List ℕ} → k ≡ 12 → WrongFormula F n r k → ⊥
no_wrong-code is (WrongFormula.unfit h) = omega arith
no_wrong-code is (WrongFormula.shape h) = omega arith
no_wrong-code is (WrongFormula.count h) = omega arith
no_wrong-code is (WrongFormula.longer h) = omega arith
no_wrong-code is (WrongFormula.fact c i s h) = omega arith
no_wrong-code is (WrongFormula.formula h) = omega arith

-- Only a formula has a number above 12.
record-most : {K : Kind} {most longest F n k : ℕ} {r : List ℕ} → WrongRecord K most longest F n r k → k ≤ 12
record-most (WrongRecord.shape e) = omega arith
record-most (WrongRecord.count h) = omega arith
record-most (WrongRecord.longer e l i h) = omega arith
record-most (WrongRecord.fact e l i f j h) = omega arith
record-most (WrongRecord.name e l i a j h) = omega arith
record-most (WrongRecord.order e l i u) = omega arith

numbers-most : (number : ℕ) {limit k : ℕ} {bytes : List ℕ} → number ≤ 12 → WrongNumbers number limit bytes k → k ≤ 12
numbers-most number few (WrongNumbers.shape h) = omega arith
numbers-most number few (WrongNumbers.large f i h) = few
numbers-most number few (WrongNumbers.order h) = omega arith

sizes-most : {k : ℕ} {bytes : List ℕ} → WrongSizes bytes k → k ≤ 12
sizes-most (WrongSizes.shape h) = omega arith
sizes-most (WrongSizes.count h) = omega arith

-- A number above 9 that nothing wrong with a record of the model's sections has
module _ (m : List ℕ) (x : ℕ) (above : 9 < x)
    (none-wrong : (r : Role) → There m r → (F n : ℕ) (bytes : List ℕ) → Wrong (get_or m 0 0) r F n bytes x → ⊥) where
  -- is no number of the model's,
  model-never : {k : ℕ} {bytes : List ℕ} → k ≡ x → ModelCause m k bytes → ⊥
  model-never is (ModelCause.unfit r in_model_lem before h) = omega arith
  model-never is (ModelCause.wrong r in_model_lem before fit n there earlier w least) =
      none-wrong r in_model_lem _ _ _ (rw is at w)
  model-never is (ModelCause.after right h) = omega arith

  -- nor of a pair's.
  never : {t : List ℕ} {mark k : ℕ} {bytes : List ℕ} → k ≡ x → Cause m t mark k bytes → ⊥
  never is (Cause.long-model h) = omega arith
  never is (Cause.long-trace h l) = omega arith
  never is (Cause.version-model h s) = omega arith
  never is (Cause.version-trace h s v) = omega arith
  never is (Cause.in_model_lem h c) = model-never is c
  never is (Cause.in_trace_lem h r c) = in_trace_lem is c
    where
      in_trace_lem : {t : List ℕ} {k : ℕ} {bytes : List ℕ} → k ≡ x → TraceCause m t k bytes → ⊥
      in_trace_lem is (TraceCause.unfit h) = omega arith
      in_trace_lem is (TraceCause.ragged h r) = omega arith
      in_trace_lem is (TraceCause.after h r l) = omega arith
      in_trace_lem is (TraceCause.count r h) = omega arith
      in_trace_lem is (TraceCause.goal r h l s w) = omega arith
      in_trace_lem is (TraceCause.step r h g i l b n s w) = omega arith

module _ (m : List ℕ) (old : get_or m 0 0 < 3) where
  -- Nothing that is wrong with a record of a section that the model has is a name.
  no_name-wrong : (r : Role) → There m r → (F n : ℕ) (bytes : List ℕ) → Wrong (get_or m 0 0) r F n bytes 12 → ⊥
  unfolding has
  no_name-wrong Sizes there F n bytes w = no_wrong-size refl w
  no_name-wrong Initial there F n bytes w = no_wrong-fact refl w
  no_name-wrong Persistent there F n bytes w = no_wrong-fact refl w
  no_name-wrong Names there F n bytes w = true≢false (sym (lt-ltb _ _ there) ∙ names-lacking m old)
  no_name-wrong Clauses there F n bytes w = no_wrong-name (λ e. let z : ◌≡◌ {A = ℕ} 0 1 = cc in omega arith) refl w
  no_name-wrong Rules there F n bytes (K, RuleKind.three h, w) =
      no_wrong-name (λ e. let z : ◌≡◌ {A = ℕ} 0 1 = cc in omega arith) refl w
  no_name-wrong Rules there F n bytes (K, RuleKind.four h, w) = omega arith
  no_name-wrong Goals there F n bytes w = no_wrong-name (λ e. let z : ◌≡◌ {A = ℕ} 0 1 = cc in omega arith) refl w
  no_name-wrong Formulas there F n bytes w = no_wrong-code refl w

  -- So 12 is never given.
  pub no_badname : {t : List ℕ} {mark k : ℕ} {bytes : List ℕ} → k ≡ 12 → Cause m t mark k bytes → ⊥
  no_badname = never m 12 (omega arith) no_name-wrong

module _ (m : List ℕ) (old : get_or m 0 0 < 4) where
  -- Nothing that is wrong with a record of a section that the model has is a formula.
  no_formula-wrong : (r : Role) → There m r → (F n : ℕ) (bytes : List ℕ) → Wrong (get_or m 0 0) r F n bytes 17 → ⊥
  unfolding has
  no_formula-wrong Sizes there F n bytes w = omega (arith, sizes-most w)
  no_formula-wrong Initial there F n bytes w = omega (arith, numbers-most 6 (omega arith) w)
  no_formula-wrong Persistent there F n bytes w = omega (arith, numbers-most 6 (omega arith) w)
  no_formula-wrong Names there F n bytes w = omega (arith, numbers-most 12 (omega arith) w)
  no_formula-wrong Clauses there F n bytes w = omega (arith, record-most w)
  no_formula-wrong Rules there F n bytes (K, is, w) = omega (arith, record-most w)
  no_formula-wrong Goals there F n bytes w = omega (arith, record-most w)
  no_formula-wrong Formulas there F n bytes w = true≢false (sym (lt-ltb _ _ there) ∙ formulas-lacking m old)

  -- So 17 is never given.
  pub no_formula : {t : List ℕ} {mark k : ℕ} {bytes : List ℕ} → k ≡ 17 → Cause m t mark k bytes → ⊥
  no_formula = never m 17 (omega arith) no_formula-wrong

-- No formulas are written for it, either.
pub none_written : (version : ℕ) (m : Model) → version < 4 → last_section version m ≡ []
unfolding last_section
none_written version m old =
    ap (λ (test : Bool). cond test (section_bytes (flat_map formula_bytes m.formulas)) []) (lt-leb 4 version old)
