-- What a judged model's rules, attack states and initial facts are, for the run above: their records, and the facts in
-- their lists.
use Prim.Native.Nat.{ℕ, ◌≤◌, ◌<◌}
use mathlib.Core.Path.{◌≡◌, refl, subst}
use mathlib.Core.Bool.{false}
use mathlib.Core.Logic.{⊎_elim}
use mathlib.Core.List.Memᴰ
use mathlib.Core.List.{List, []}
use mathlib.Core.Option.{none}
use native.Mathlib.Omega.{arith}
use lib.Dec.{lit<}
use lib.ListN.{length, get_or, length-map, get_or-map, get_or-eq_default}
use Rattle.sets.specs.Sets.{◌∈◌}
use Rattle.sets.proofs.Laws.{below_or_from}
use Rattle.meaning.specs.Model.{Rule, rule_of}
use Rattle.records.specs.Words.{word, words}
use Rattle.records.specs.Records.{records, whole, lists_of, list_of, judge, first_fault_lem}
use Rattle.records.specs.declared.Kind.{Kind}
use Rattle.records.specs.declared.Kind.TheVariants as kind
use Rattle.records.proofs.Words.{even-length}
use Rattle.records.proofs.Places.{record_in_lem}
use Rattle.lists.specs.Lists.{Cut, AllCut, ListBytes}
use Rattle.lists.proofs.Rows.{judged-facts, judged-names}
use Rattle.sections.specs.Sections.{rule_kind_lem, reader}
use Rattle.sections.specs.declared.Role.TheVariants.{Initial, Rules, Goals}
use Rattle.files.specs.Files.{section_of, fact_count, rule_in, goal_in, model_of_lem, shape_fault}
use Rattle.files.specs.Known.{Known, KnownNames}
use Rattle.files.proofs.Shaped.{judged-section}
use Rattle.files.proofs.Aims.{state-there}
use Rattle.files.proofs.Order.{all-fine, bare-even}
use Rattle.files.proofs.Laws.{facts-bound, initial-below, rules-cut, goals-cut, rules-judged, goals-judged}

-- ---- rules and attack states as records (attack states are goals: Aims.antt)

-- A rule of the model is its record's lists; one that the model lacks has none.
pub rule_in_lem : (m : List ℕ) (k : ℕ)
    → rule_of (model_of_lem m) k ≡ rule_in (get_or m 0 0) (get_or (records (section_of m Rules)) k [])
unfolding rule_of model_of_lem rule_in list_of lists_of whole word
rule_in_lem m k = get_or-map (rule_in (get_or m 0 0)) (records (section_of m Rules)) k []

-- No bytes are no record and have no lists.
no_lists : (K : Kind) (j : ℕ) → list_of K [] j ≡ []
unfolding list_of lists_of whole word
no_lists K j = refl

-- As many as there are records.
pub rule-there : (m : List ℕ) {k : ℕ} → k < length (model_of_lem m).rules → k < length (records (section_of m Rules))
unfolding model_of_lem
rule-there m h = rw length-map at h

-- A list of a record of a judged section is known.
list_known : (m : List ℕ) → shape_fault m ≡ none → (K : Kind) (section : List ℕ)
    → first_fault_lem (judge K (fact_count m)) section ≡ none
    → (k : ℕ) → k < length (records section) → (j : ℕ) → j < 3 → (bytes : List ℕ)
    → ListBytes K (get_or (records section) k []) j bytes → Known bytes
list_known m fine K section judged k h j few bytes l = record {
  below = λ f i.
      let there = record_in_lem (records section) k h in
      let below = judged-facts K (fact_count m) section judged _ there j f few (rw l.facts at i) in
      omega (arith, facts-bound m fine);
  even = even-length bytes l.even;
}

module _ (m : List ℕ) (fine : shape_fault m ≡ none) where
  -- The initial facts are known.
  pub initial-known : Known (section_of m Initial)
  unfolding model_of_lem reader
  initial-known = record {
    below = λ f i. omega (arith, facts-bound m fine, initial-below m fine f i);
    even =
        let bytes = section_of m Initial in
        even-length bytes
        (bare-even false (fact_count m) bytes (all-fine _ bytes (judged-section m fine Initial)));
  }

  -- Every fact that a rule adds is below F; a rule that the model lacks adds none.
  pub added_below : (k f : ℕ) → f ∈ (rule_of (model_of_lem m) k).A → f < fact_count m
  unfolding rule_in list_of lists_of whole word
  added_below k f i = ⊎_elim near far (below_or_from k (length (records (section_of m Rules))))
    where
      bytes : List ℕ
      bytes = section_of m Rules

      K : Kind
      K = rule_kind_lem (get_or m 0 0)

      here : f ∈ list_of K (get_or (records bytes) k []) 2
      here = subst (λ (r : Rule). f ∈ r.A) (rule_in_lem m k) i

      near : k < length (records bytes) → f < fact_count m
      near h =
          judged-facts K (fact_count m) bytes (rules-judged m fine) _ (record_in_lem (records bytes) k h) 2 f (lit< tt) here

      far : length (records bytes) ≤ k → f < fact_count m
      far h =
          let none = get_or-eq_default (records bytes) [] h in
          let lacking = no_lists K 2 in
          absurd (Memᴰ.not-nil (rw lacking at (subst (λ (r : List ℕ). f ∈ list_of K r 2) none here)))

  -- The lists of a rule's record fill it.
  pub rule-record : {k : ℕ} → k < length (model_of_lem m).rules
      → Cut (rule_kind_lem (get_or m 0 0)) (get_or (records (section_of m Rules)) k [])
  unfolding AllCut
  rule-record h = rules-cut m fine _ (record_in_lem (records (section_of m Rules)) _ (rule-there m h))

  pub goal-record : {g : ℕ} → g < length (model_of_lem m).goals → Cut kind.Goal (get_or (records (section_of m Goals)) g [])
  unfolding AllCut
  goal-record h = goals-cut m fine _ (record_in_lem (records (section_of m Goals)) _ (state-there m h))

  -- The lists of a rule's record are known.
  pub rule-known : {k : ℕ} → k < length (model_of_lem m).rules → (j : ℕ) → j < 3 → (bytes : List ℕ)
      → ListBytes (rule_kind_lem (get_or m 0 0)) (get_or (records (section_of m Rules)) k []) j bytes → Known bytes
  rule-known h = list_known m fine (rule_kind_lem (get_or m 0 0)) (section_of m Rules) (rules-judged m fine) _ (rule-there m h)

  -- The names that a rule's record has are known.
  pub made-known : (r : List ℕ) → r ∈ records (section_of m Rules) → {bytes : List ℕ}
      → ListBytes (rule_kind_lem (get_or m 0 0)) r 3 bytes → KnownNames bytes
  made-known r there {bytes} l = record {
    below = λ n i.
        judged-names (rule_kind_lem (get_or m 0 0)) _ _ (rules-judged m fine) r there n (rw l.facts at i);
    even = even-length bytes l.even;
  }

  pub goal-known : {g : ℕ} → g < length (model_of_lem m).goals → (j : ℕ) → j < 3 → (bytes : List ℕ)
      → ListBytes kind.Goal (get_or (records (section_of m Goals)) g []) j bytes → Known bytes
  goal-known h = list_known m fine kind.Goal (section_of m Goals) (goals-judged m fine) _ (state-there m h)

-- ---- which lists they are

module _ (m : List ℕ) (k : ℕ) {bytes : List ℕ} where
  pub rule-P : ListBytes (rule_kind_lem (get_or m 0 0)) (get_or (records (section_of m Rules)) k []) 0 bytes
      → words bytes ≡ (rule_of (model_of_lem m) k).P
  unfolding rule_in
  rule-P l = rw (rule_in_lem m k) l.facts

  pub rule-N : ListBytes (rule_kind_lem (get_or m 0 0)) (get_or (records (section_of m Rules)) k []) 1 bytes
      → words bytes ≡ (rule_of (model_of_lem m) k).N
  unfolding rule_in
  rule-N l = rw (rule_in_lem m k) l.facts

  pub rule-A : ListBytes (rule_kind_lem (get_or m 0 0)) (get_or (records (section_of m Rules)) k []) 2 bytes
      → words bytes ≡ (rule_of (model_of_lem m) k).A
  unfolding rule_in
  rule-A l = rw (rule_in_lem m k) l.facts

  pub goal-P : ListBytes kind.Goal (get_or (records (section_of m Goals)) k []) 0 bytes
      → words bytes ≡ (goal_in (get_or (records (section_of m Goals)) k [])).P
  unfolding goal_in
  goal-P l = l.facts

  pub goal-N : ListBytes kind.Goal (get_or (records (section_of m Goals)) k []) 1 bytes
      → words bytes ≡ (goal_in (get_or (records (section_of m Goals)) k [])).N
  unfolding goal_in
  goal-N l = l.facts
