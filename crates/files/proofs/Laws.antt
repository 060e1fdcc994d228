-- What a judged model tells the crates above: its bounds, that its facts are below F, and that there is one answer.
use Prim.Native.Nat.{ℕ, ◌≤◌, ◌<◌}
use mathlib.Core.Path.{◌≡◌, refl, ◌∙◌, sym, ap}
use mathlib.Core.Bool.{Bool, true, false, not, cond}
use mathlib.Core.Logic.{⊎_elim}
use mathlib.Core.List.Memᴰ
use mathlib.Core.List.{List, [], ◌∷◌, map}
use mathlib.Core.Option.{none}
use native.Mathlib.Omega.{arith}
use lib.Dec.{lit<, ltb}
use lib.ListN.{length, get_or, drop, length-map}
use borrow.Author.Tests.{lt-leb, le-leb, ltb-false, not-false}
use Rattle.sets.specs.Sets.{any, ◌∈◌}
use Rattle.sets.proofs.Laws.{below_or_from}
use Rattle.meaning.specs.Model.{Clause, Rule, Goal}
use Rattle.records.specs.Words.{word, words, ascending}
use Rattle.records.specs.Records.{records, rows, list_count_lem, list_of, most, over_long, any_list, judge, first_fault_lem}
use Rattle.records.proofs.Words.{even-length}
use Rattle.records.proofs.Sections.{records-none}
use Rattle.records.proofs.Judging.{or_clear}
use Rattle.lists.specs.Lists.{AllCut}
use Rattle.records.specs.declared.Kind.{Kind}
use Rattle.records.specs.declared.Kind.TheVariants as kind
use Rattle.lists.proofs.Laws.{clause-lists, judged-count, judged_as, judged-cut}
use Rattle.lists.proofs.Rows.{no_fourth, judged-facts}
use Rattle.sections.specs.Sections.{rule_kind_lem, reader}
use Rattle.sections.specs.declared.Role.TheVariants.{Sizes, Initial, Persistent, Names, Clauses, Rules, Goals}
use Rattle.sections.specs.declared.Role.TheVariants.{Formulas}
use Rattle.files.specs.Files.{section_of, fact_count, clause_of, rule_in, goal_in, formula_in, model_of_lem, shape_fault}
use Rattle.files.specs.Files.{model_fault}
use Rattle.files.specs.Known.{KnownNames}
use Rattle.files.specs.Answers.{counts_of}
use Rattle.files.specs.declared.Counts.{Counts}
use Rattle.std.specs.Prelude.{Result}
use Rattle.records.specs.Refusals.{told, answer_or}
use Rattle.records.specs.declared.Fault.{Fault}
use Rattle.records.proofs.Laws.{told_same}
use Rattle.files.proofs.Roles.{one-lacks, names-lacking, formulas-lacking, section-absent}
use Rattle.files.proofs.Shaped.{judged-section}
use Rattle.files.proofs.Order.{all-fine, sizes-fine, bare-even, bare-fine}

-- Two answers for a model that meet the contract of `judge_model` are equal.
pub model_unique : (file : List ℕ) (x y : Result Counts Fault)
    → told x ≡ answer_or (model_fault file) (counts_of file)
    → told y ≡ answer_or (model_fault file) (counts_of file) → x ≡ y
model_unique file x y p q = told_same x y (p ∙ sym q)

-- The persistent facts are the numbers in their section.
pub persistent_in : (file : List ℕ) {bytes : List ℕ} → bytes ≡ section_of file Persistent
    → words bytes ≡ (model_of_lem file).persistent
unfolding model_of_lem
persistent_in file e = ap words e

-- A model of version 1 has no persistent facts.
pub none-persistent : (file : List ℕ) → get_or file 0 0 ≡ 1 → (model_of_lem file).persistent ≡ []
unfolding model_of_lem words
none-persistent file first = ap words (section-absent file Persistent (one-lacks file (omega arith)))

-- A model of version 1 or 2 has no names;
pub none_named : (file : List ℕ) → get_or file 0 0 < 3 → (model_of_lem file).names ≡ []
unfolding model_of_lem words
none_named file h = ap words (section-absent file Names (names-lacking file h))

-- one of version 1, 2 or 3 has no formulas,
pub none-formulas : (file : List ℕ) → get_or file 0 0 < 4 → (model_of_lem file).formulas ≡ []
unfolding model_of_lem
none-formulas file h =
    let absent = section-absent file Formulas (formulas-lacking file h) in
    ap (map formula_in) (ap records absent ∙ records-none)

-- and the rules of version 1 or 2 make none, as records
pub makes_none : (version : ℕ) (r : List ℕ) → version < 3 → (rule_in version r).names ≡ []
unfolding rule_in rule_kind_lem
makes_none version r h =
    ap (λ (b : Bool). list_of (cond b kind.Maker kind.Rule) r 3) (lt-leb 3 version h) ∙ no_fourth r

-- and as rules.
pub none_made : (file : List ℕ) → get_or file 0 0 < 3 → (r : Rule) → r ∈ (model_of_lem file).rules → r.names ≡ []
unfolding model_of_lem
none_made file h r member =
    let (bytes, there, is) = Memᴰ.of_map (rule_in (get_or file 0 0)) (records (section_of file Rules)) member in
    ap (λ (r : Rule). r.names) (sym is) ∙ makes_none (get_or file 0 0) bytes h

-- From version 3 on rules are makers.
pub rules_make : (version : ℕ) → 3 ≤ version → rule_kind_lem version ≡ kind.Maker
unfolding rule_kind_lem
rules_make version h = rw (le-leb 3 version h)

-- The rules of every version have three lists of facts.
pub three-lists : (version j : ℕ) {K : Kind} → K ≡ rule_kind_lem version → j < 3 → j < list_count_lem K
unfolding rule_kind_lem list_count_lem rows
three-lists version j is h =
    ⊎_elim (λ l. rw (is, lt-leb 3 version l) h) (λ l. rw (is, le-leb 3 version l) (omega arith))
    (below_or_from version 3)

-- every fact of the list is below F
abbrev pub Below : ℕ → List ℕ → Type 0
Below F facts = (f : ℕ) → f ∈ facts → f < F

-- The lists of a clause that pass: its body has at most 16 facts, which ascend.
body-fine : (F head : ℕ) (body : List ℕ) → any_list over_long (rows kind.Clause F) ((head ∷ []) ∷ body ∷ []) ≡ false
    → any (λ l. not (ascending l)) ((head ∷ []) ∷ body ∷ []) ≡ false → (length body ≤ 16) × (ascending body ≡ true)
unfolding any_list rows any
body-fine F head body short ordered = (
  ltb-false 16 (length body) (or_clear _ false (or_clear (ltb 1 1) _ short).1).0,
  not-false (ascending body) (or_clear _ false (or_clear (not (ascending (head ∷ []))) _ ordered).1).0,
)

module _ (file : List ℕ) (fine : shape_fault file ≡ none) where
  -- F is at most 4,096.
  pub facts-bound : fact_count file ≤ 4096
  unfolding fact_count reader
  facts-bound = (sizes-fine (section_of file Sizes) (all-fine _ _ (judged-section file fine Sizes))).1

  -- The sizes are two bytes.
  pub sizes-two : 2 ≤ length (section_of file Sizes)
  unfolding reader
  sizes-two = omega (arith, sizes-fine (section_of file Sizes) (all-fine _ _ (judged-section file fine Sizes)))

  -- Every initial fact is below F.
  pub initial-below : Below (fact_count file) (model_of_lem file).initial
  unfolding model_of_lem reader
  initial-below =
      (bare-fine false (fact_count file) (section_of file Initial) (all-fine _ _ (judged-section file fine Initial))).0

  -- The persistent facts are strictly ascending.
  pub persistent-ascending : ascending (words (section_of file Persistent)) ≡ true
  unfolding reader
  persistent-ascending =
      (bare-fine false (fact_count file) (section_of file Persistent)
      (all-fine _ _ (judged-section file fine Persistent))).1

  -- The names in use at the start are known.
  pub names-known : KnownNames (section_of file Names)
  unfolding reader
  names-known =
      let fine = all-fine _ _ (judged-section file fine Names) in
      record {
        below = (bare-fine true 1024 (section_of file Names) fine).0;
        even = even-length (section_of file Names) (bare-even true 1024 (section_of file Names) fine);
      }

  -- No record of the clauses, of the rules, of the formulas and of the attack states is at fault.
  pub clauses-judged : first_fault_lem (judge kind.Clause (fact_count file)) (section_of file Clauses) ≡ none
  unfolding reader
  clauses-judged = judged-section file fine Clauses

  pub rules-judged : first_fault_lem (judge (rule_kind_lem (get_or file 0 0)) (fact_count file)) (section_of file Rules) ≡ none
  unfolding reader
  rules-judged = judged-section file fine Rules

  pub formulas-judged : first_fault_lem (judge kind.Formula (fact_count file)) (section_of file Formulas) ≡ none
  unfolding reader
  formulas-judged = judged-section file fine Formulas

  pub goals-judged : first_fault_lem (judge kind.Goal (fact_count file)) (section_of file Goals) ≡ none
  unfolding reader
  goals-judged = judged-section file fine Goals

  -- The lists of every clause's record fill it.
  pub clauses-cut : AllCut kind.Clause (section_of file Clauses)
  clauses-cut = judged-cut kind.Clause _ _ clauses-judged

  -- So do those of every rule's record.
  pub rules-cut : AllCut (rule_kind_lem (get_or file 0 0)) (section_of file Rules)
  rules-cut = judged-cut (rule_kind_lem (get_or file 0 0)) _ _ rules-judged

  -- So do those of every attack state's record.
  pub goals-cut : AllCut kind.Goal (section_of file Goals)
  goals-cut = judged-cut kind.Goal _ _ goals-judged

  -- There are at most 4,096 clauses.
  pub clauses-bound : length (model_of_lem file).clauses ≤ 4096
  unfolding model_of_lem most
  clauses-bound = rw length-map (judged-count kind.Clause _ _ clauses-judged)

  -- The head and the body facts of every clause are below F.
  pub clause-below : (c : Clause) → c ∈ (model_of_lem file).clauses
      → (c.head < fact_count file) × Below (fact_count file) c.body
  unfolding model_of_lem list_of AllCut
  clause-below c member =
      let (r, there, is) = Memᴰ.of_map clause_of (records (section_of file Clauses)) member in
      let lists = clause-lists r (clauses-cut r there) in
      let facts = judged-facts kind.Clause _ _ clauses-judged r there in
      rw (← is) (facts 0 _ (lit< tt) (rw lists (Memᴰ.head refl)), λ f m. facts 1 f (lit< tt) (rw lists m))

  -- Its body has at most 16 facts, which ascend.
  pub clause-body : (c : Clause) → c ∈ (model_of_lem file).clauses → (length c.body ≤ 16) × (ascending c.body ≡ true)
  unfolding model_of_lem AllCut
  clause-body c member =
      let (r, there, is) = Memᴰ.of_map clause_of (records (section_of file Clauses)) member in
      let judged = (judged_as kind.Clause _ _ clauses-judged r there).1 in
      let same = sym judged.fill ∙ clause-lists r (clauses-cut r there) in
      let lists : judged.lists ≡ (word (drop 2 r) ∷ []) ∷ words (drop 4 r) ∷ [] = cc in
      rw (← is) (body-fine _ _ _ (rw lists at judged.short) (rw lists at judged.ordered))

  -- The facts of every rule's P, N and A are below F.
  pub rule-below : (r : Rule) → r ∈ (model_of_lem file).rules
      → Below (fact_count file) r.P × Below (fact_count file) r.N × Below (fact_count file) r.A
  unfolding model_of_lem rule_in
  rule-below r member =
      let (bytes, there, is) = Memᴰ.of_map (rule_in (get_or file 0 0)) (records (section_of file Rules)) member in
      let facts = judged-facts (rule_kind_lem (get_or file 0 0)) _ _ rules-judged bytes there in
      rw (← is) (λ f. facts 0 f (lit< tt), λ f. facts 1 f (lit< tt), λ f. facts 2 f (lit< tt))

  -- The facts of every attack state's P and N are below F.
  pub goal-below : (g : Goal) → g ∈ (model_of_lem file).goals → Below (fact_count file) g.P × Below (fact_count file) g.N
  unfolding model_of_lem goal_in
  goal-below g member =
      let (bytes, there, is) = Memᴰ.of_map goal_in (records (section_of file Goals)) member in
      let facts = judged-facts kind.Goal _ _ goals-judged bytes there in
      rw (← is) (λ f. facts 0 f (lit< tt), λ f. facts 1 f (lit< tt))
