-- What the record of a judged model's rule tells: its lists, and whether it fires.
use Prim.Native.Nat.{ℕ, ◌+◌, ◌≤◌, ◌<◌}
use mathlib.Core.Path.{◌≡◌, refl, sym, ap, ◌∙◌}
use mathlib.Core.Bool.{Bool, true, false, not, ◌&&◌}
use mathlib.Core.List.{List, map}
use mathlib.Core.Option.{Option, none, some, none-ne-some}
use native.Mathlib.Omega.{arith}
use lib.Dec.{leb}
use lib.ListN.{length, get_or, length-map}
use Rattle.std.specs.Prelude.{Option as Found, Some, None, is_some}
use borrow.Author.Tests.{eqb-true}
use Rattle.sets.specs.Sets.{Facts, ◌∈◌}
use Rattle.sets.proofs.Laws.{by-test}
use Rattle.meaning.specs.Model.{Rule}
use Rattle.meaning.specs.Run.{Condition, unmet}
use Rattle.meaning.specs.Run.Condition.{positive, negative, unused}
use Rattle.records.specs.Words.{word, words}
use Rattle.records.specs.Records.{records, most, whole, lists_of, ◌or_else◌}
use Rattle.records.proofs.Words.{even-length}
use Rattle.lists.specs.Lists.{Cut, AllCut, ListBytes}
use Rattle.lists.proofs.Laws.{judged-count}
use Rattle.lists.proofs.Rows.{judged-facts}
use Rattle.sections.specs.Sections.{rule_kind_lem}
use Rattle.sections.specs.declared.Role.TheVariants.{Rules}
use Rattle.files.specs.Files.{section_of, fact_count, rule_in, model_of_lem, shape_fault}
use Rattle.files.specs.Known.{Known}
use Rattle.files.proofs.Laws.{facts-bound, rules-judged, rules-cut}
use Rattle.stepping.specs.Conditions.{unmet_in}
use Rattle.stepping.specs.declared.conditions.Condition.TheVariants as condition
use Rattle.stepping.proofs.Looking.{unmet-lists}
use Rattle.firing.specs.Firing.{fires_by}

-- ---- a record

-- "Rules 2,048", whatever the version
most-rules : (version : ℕ) → most (rule_kind_lem version) ≡ 2048
unfolding rule_kind_lem most
most-rules version = by-test (leb 3 version) (λ e. rw e) (λ e. rw e)

module _ (m : List ℕ) (fine : shape_fault m ≡ none) where
  -- A model has at most 2,048 rules.
  pub few-rules : length (model_of_lem m).rules ≤ 2048
  unfolding model_of_lem
  few-rules =
      let v = get_or m 0 0 in
      rw length-map (omega (arith, judged-count (rule_kind_lem v) _ _ (rules-judged m fine), most-rules v))

  module _ (r : List ℕ) (there : r ∈ records (section_of m Rules)) where
    pub rule-cut : Cut (rule_kind_lem (get_or m 0 0)) r
    unfolding AllCut
    rule-cut = rules-cut m fine r there

    -- It is as long as its length says.
    pub rule-long : length r ≡ 2 + word r
    unfolding Cut lists_of whole
    rule-long =
        by-test (whole r) (λ e. eqb-true _ _ e)
        (λ e. absurd (none-ne-some _ (rw (e, lists_of) at rule-cut.1)))

    pub list_known : (j : ℕ) → j < 3 → (bytes : List ℕ) → ListBytes (rule_kind_lem (get_or m 0 0)) r j bytes → Known bytes
    list_known j few bytes l = record {
      below = λ f i.
          let low = judged-facts (rule_kind_lem (get_or m 0 0)) (fact_count m) _ (rules-judged m fine) r there j f few
          (rw l.facts at i) in
          omega (arith, facts-bound m fine);
      even = even-length bytes l.even;
    }

-- ---- whether it fires

-- no condition is unmet
abbrev pub nowhere : Option Condition → Bool
nowhere none = true
nowhere (some c) = false

-- what an answer says of it
pub answer-nowhere : (x : Found condition.the_data) {o : Option Condition} → unmet_in x ≡ o
    → not (is_some x) ≡ nowhere o
answer-nowhere None e = rw (← e)
answer-nowhere (Some c) e = rw (← e)

nowhere_of : (a b c : Option Condition) → nowhere ((a or_else b) or_else c) ≡ (nowhere a && nowhere b && nowhere c)
unfolding ◌or_else◌
nowhere_of none none c = refl
nowhere_of none (some d) c = refl
nowhere_of (some d) b c = refl

-- A rule fires where no list of it has an unmet condition.
fires-lists : (X used : Facts) (r : Rule)
    → fires_by X used r
    ≡ (nowhere (unmet X used (map positive r.P))
    && nowhere (unmet X used (map negative r.N))
    && nowhere (unmet X used (map unused r.names)))
unfolding fires_by
fires-lists X used r = ap nowhere (unmet-lists X used r.P r.N r.names) ∙ nowhere_of _ _ _

module _ (version : ℕ) (r p : List ℕ) (P-is : ListBytes (rule_kind_lem version) r 0 p) (X used : Facts) where
  -- So it doesn't if P is not met,
  pub not-by-P : nowhere (unmet X used (map positive (words p))) ≡ false
      → false ≡ fires_by X used (rule_in version r)
  unfolding rule_in
  not-by-P e = sym (fires-lists X used (rule_in version r) ∙ rw (← P-is.facts, e))

  module _ (all-P : nowhere (unmet X used (map positive (words p))) ≡ true) (n : List ℕ)
      (N-is : ListBytes (rule_kind_lem version) r 1 n) where
    -- nor if N is not met,
    pub not-by-N : nowhere (unmet X used (map negative (words n))) ≡ false
        → false ≡ fires_by X used (rule_in version r)
    unfolding rule_in
    not-by-N e = sym (fires-lists X used (rule_in version r) ∙ rw (← P-is.facts, all-P, ← N-is.facts, e))

    -- and otherwise it does exactly if the names are.
    pub by_names : nowhere (unmet X used (map negative (words n))) ≡ true → (made : List ℕ)
        → words made ≡ (rule_in version r).names
        → nowhere (unmet X used (map unused (words made))) ≡ fires_by X used (rule_in version r)
    unfolding rule_in
    by_names all-N made is =
        sym (fires-lists X used (rule_in version r) ∙ rw (← P-is.facts, all-P, ← N-is.facts, all-N, ← is))
