-- What is known at a step of the search: the buffers' sizes, the step's number, its rule and the rule's lists.
use Prim.Native.Nat.{ℕ, ◌+◌, ◌-◌, ◌≤◌, ◌<◌}
use mathlib.Core.Path.{◌≡◌, sym, ap, ◌∙◌, subst}
use mathlib.Core.List.{List, [], ◌∷◌}
use mathlib.Core.Option.{Option, none}
use native.Mathlib.Nat.{add-zero}
use native.Mathlib.Omega.{arith}
use lib.ListN.{length, get_or, take, drop, length-drop}
use lib.Seq.{drop-drop, get_or-drop}
use Rattle.std.proofs.lemmas.List.{take_all}
use Rattle.sets.specs.Sets.{◌∈◌}
use Rattle.meaning.specs.Model.{Rule, rule_of}
use Rattle.meaning.specs.Rounds.{closure}
use Rattle.meaning.specs.Run.{Condition, unmet, unmet_of}
use Rattle.facts.specs.Facts.{members}
use Rattle.records.specs.Words.{words}
use Rattle.records.specs.Records.{records}
use Rattle.records.specs.declared.Kind.{Kind}
use Rattle.records.proofs.Places.{record_in_lem}
use Rattle.lists.specs.Lists.{Cut, ListBytes}
use Rattle.sections.specs.Sections.{rule_kind_lem}
use Rattle.sections.specs.declared.Role.TheVariants.{Rules}
use Rattle.files.specs.Files.{shape_fault, rule_in, model_of_lem, entries_of, trace_of, section_of}
use Rattle.files.specs.Known.{Known}
use Rattle.files.proofs.Lists.{rule_in_lem, rule-there, rule-record, rule-known, rule-P, rule-N, rule-A}
use Rattle.files.proofs.Traces.{pair_shape, pair_few, pair_step-known}
use Rattle.closing.specs.Closing.{numbered, ClosesUnder}
use Rattle.stepping.specs.Conditions.{names_in}
use Rattle.stepping.proofs.Looking.{asks}
use Rattle.reaching.specs.Reaching.{Lent, Ready}
use Rattle.reaching.proofs.Stepwise.{closure-shown, rounds-few, asked, On, rule_at}

-- The steps' numbers are behind the goal's.
pub steps-in : (t entries : List ℕ) → entries ≡ entries_of t
    → words (take (length entries - 2) (drop 2 entries)) ≡ (trace_of t).steps
unfolding trace_of
steps-in t entries e =
    ap words (take_all (length entries - 2) (drop 2 entries) (omega (arith, length-drop 2 entries)))
    ∙ ap (λ (l : List ℕ). words (drop 2 l)) e

module _ {m t : List ℕ} {before l : Lent} {first bits : List ℕ} {fired total : ℕ}
    (ready : Ready m t before) (on : On m t before l first bits fired total) where
  pub shape : shape_fault m ≡ none
  shape = pair_shape m t ready.fine

  -- the buffers are as long as lent
  pub room : 512 ≤ length l.state
  room = omega (arith, on.kept.as_long, ready.room)

  pub long : 4096 ≤ length l.table
  long = omega (arith, on.as_long, ready.entries)

  pub names-room : 128 ≤ length l.names
  names-room = omega (arith, on.names-kept.as_long, ready.names)

  -- so many steps have fired
  pub fired-few : fired ≤ 1024
  fired-few = omega (arith, on.within, pair_few m t ready.fine)

  module _ {table : List ℕ} {n : ℕ} (closed : ClosesUnder (model_of_lem m).clauses l.state l.table table n) where
    -- the closed state has few rounds,
    pub few-more : n ≤ 4096
    few-more = omega (arith, closed.number, rounds-few m shape (members l.state))

    -- and a table as long as before
    pub table-long : 4096 ≤ length table
    table-long = omega (arith, closed.filled.as_long, long)

    pub shown : numbered table ≡ closure (model_of_lem m).clauses (members l.state)
    shown = closure-shown m shape closed

  -- step k is at hand, and these are the later ones
  module _ {k : ℕ} {later : List ℕ} (here : drop fired (trace_of t).steps ≡ k ∷ later) where
    pub step-there : fired < length (trace_of t).steps
    step-there = omega (arith, length-drop fired (trace_of t).steps, ap length here)

    pub number_is : k ≡ get_or (trace_of t).steps fired 0
    number_is = sym (ap (λ (l : List ℕ). get_or l 0 0) here) ∙ simp add-zero at (get_or-drop fired (trace_of t).steps 0 0)

    pub later_is : later ≡ drop (fired + 1) (trace_of t).steps
    later_is = sym (ap (drop 1) here) ∙ drop-drop 1 fired (trace_of t).steps

    pub known-rule : k < length (model_of_lem m).rules
    known-rule =
        subst (λ k. k < length (model_of_lem m).rules) (sym number_is)
        (pair_step-known m t ready.fine fired step-there)

    -- the record at hand is the step's rule
    module _ {rule : List ℕ} (is : rule ≡ get_or (records (section_of m Rules)) k []) where
      -- what the model's rules are
      abbrev kind-of : Kind
      kind-of = rule_kind_lem (get_or m 0 0)

      pub rule-in : rule ∈ records (section_of m Rules)
      rule-in = rw is (record_in_lem (records (section_of m Rules)) k (rule-there m known-rule))

      pub cut_of : Cut (rule_kind_lem (get_or m 0 0)) rule
      cut_of = rw is (rule-record m shape known-rule)

      -- a list of the record, as a list of the model's rule
      list-is : (j : ℕ) {bytes : List ℕ} → ListBytes kind-of rule j bytes
          → ListBytes kind-of (get_or (records (section_of m Rules)) k []) j bytes
      list-is j {bytes} b = subst (λ (r : List ℕ). ListBytes kind-of r j bytes) is b

      pub known-list : (j : ℕ) {bytes : List ℕ} → j < 3 → ListBytes (rule_kind_lem (get_or m 0 0)) rule j bytes
          → Known bytes
      known-list j {bytes} few b = rule-known m shape known-rule j few bytes (list-is j b)

      -- a list of the rule that the number names is one of the step's rule
      named : (which : Rule → List ℕ) → which (rule_of (model_of_lem m) k) ≡ which (rule_at m t on)
      named which = ap (λ k. which (rule_of (model_of_lem m) k)) number_is

      pub P-is : {bytes : List ℕ} → ListBytes (rule_kind_lem (get_or m 0 0)) rule 0 bytes
          → words bytes ≡ (rule_at m t on).P
      P-is b = rule-P m k (list-is 0 b) ∙ named (λ r. r.P)

      pub N-is : {bytes : List ℕ} → ListBytes (rule_kind_lem (get_or m 0 0)) rule 1 bytes
          → words bytes ≡ (rule_at m t on).N
      N-is b = rule-N m k (list-is 1 b) ∙ named (λ r. r.N)

      pub A-is : {bytes : List ℕ} → ListBytes (rule_kind_lem (get_or m 0 0)) rule 2 bytes
          → words bytes ≡ (rule_at m t on).A
      A-is b = rule-A m k (list-is 2 b) ∙ named (λ r. r.A)

      pub made_is : (bytes : List ℕ) → words bytes ≡ (rule_in (get_or m 0 0) rule).names
          → words bytes ≡ (rule_at m t on).names
      made_is bytes e =
          e ∙ ap (λ (r : List ℕ). (rule_in (get_or m 0 0) r).names) is
          ∙ ap (λ (r : Rule). r.names) (sym (rule_in_lem m k))
          ∙ named (λ r. r.names)

  -- the conditions at hand are those of the step's rule, in the closure that the table shows and the names in use
  pub asked_is : {table : List ℕ} {n : ℕ} (closed : ClosesUnder (model_of_lem m).clauses l.state l.table table n)
      (P N made : List ℕ) → words P ≡ (rule_at m t on).P → words N ≡ (rule_at m t on).N
      → words made ≡ (rule_at m t on).names → {o : Option Condition}
      → unmet (numbered table) (names_in l.names) (asks P N made) ≡ o → asked m t on o
  unfolding unmet_of
  asked_is closed P N made p n names e = rw (p, n, names, shown closed) at e
