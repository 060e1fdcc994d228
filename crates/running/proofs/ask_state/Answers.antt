-- The conditions at hand are those of the trace's attack state.
use Rattle.std.proofs.Common.{◌≡◌, ◌<◌, ℕ, List, [], length, get_or, sym, ap, ◌∙◌, subst, arith, lit<}
use mathlib.Core.Option.{Option, none}
use Rattle.meaning.specs.Model.{Goal, aim_of}
use Rattle.meaning.specs.Model.Aim.{state}
use Rattle.meaning.specs.Run.{Condition, conditions, unmet}
use Rattle.records.specs.Words.{words}
use Rattle.records.specs.Records.{records, list_count_lem}
use Rattle.records.specs.declared.Kind.TheVariants as kind
use Rattle.lists.specs.Lists.{Cut, ListBytes}
use Rattle.sections.specs.declared.Role.TheVariants.{Goals}
use Rattle.files.specs.Files.{pair_fault, goal_in, model_of_lem, trace_of, section_of}
use Rattle.files.specs.Known.{Known}
use Rattle.files.proofs.Aims.{state_in_lem, state-there}
use Rattle.files.proofs.Lists.{goal-record, goal-known, goal-P, goal-N}
use Rattle.files.proofs.Traces.{pair_shape, pair_fits, pair_entries}
use Rattle.running.specs.Running.{ending_of}
use Rattle.running.proofs.Ends.{asked-met, asked-unmet}
use Rattle.running.proofs.ask_state.Goals as goal

-- the trace of a judged pair names this attack state
module _ (m t : List ℕ) (fine : pair_fault m t ≡ none) (g : ℕ) (is : g ≡ (trace_of t).goal)
    (there : (trace_of t).goal < length (model_of_lem m).goals) where
  known-goal : g < length (model_of_lem m).goals
  known-goal = subst (λ g. g < length (model_of_lem m).goals) (sym is) there

  -- the record that the number at hand names, as an attack state
  abbrev named : Goal
  named = goal_in (get_or (records (section_of m Goals)) g [])

  aim-is : aim_of (model_of_lem m) (trace_of t).goal ≡ state named
  aim-is = ap (aim_of (model_of_lem m)) (sym is) ∙ state_in_lem m g known-goal

  module _ (bytes : List ℕ) (here : bytes ≡ get_or (records (section_of m Goals)) g []) where
    cut_of : Cut kind.Goal bytes
    cut_of = rw here (goal-record m (pair_shape m t fine) known-goal)

    -- a list of the record, as a list of the model's attack state
    list-is : (j : ℕ) {l : List ℕ} → ListBytes kind.Goal bytes j l
        → ListBytes kind.Goal (get_or (records (section_of m Goals)) g []) j l
    list-is j {l} b = subst (λ (r : List ℕ). ListBytes kind.Goal r j l) here b

    known-list : (j : ℕ) {l : List ℕ} → j < 3 → ListBytes kind.Goal bytes j l → Known l
    known-list j {l} few b = goal-known m (pair_shape m t fine) known-goal j few l (list-is j b)

    -- what is unmet of the record's lists is unmet of the attack state
    unmet-is : {p n : List ℕ} → ListBytes kind.Goal bytes 0 p → ListBytes kind.Goal bytes 1 n
        → (X used : ℕ → _) (o : Option Condition) → o ≡ unmet X used (conditions (words p) (words n) (words []))
        → unmet X used (conditions named.P named.N []) ≡ o
    unfolding words
    unmet-is p n X used o e = sym (rw (goal-P m g (list-is 0 p), goal-N m g (list-is 1 n)) at e)

pub goal_of-requires : goal.goal_of-requires
goal_of-requires c = (pair_fits _ _ c.requires.0, omega (arith, pair_entries _ _ c.requires.0))

pub record-goal-requires : goal.record-goal-requires
record-goal-requires c =
    let known = known-goal _ _ c.requires.0 _ c.goal_of.ensures c.requires.2 in
    (pair_shape _ _ c.requires.0, state-there _ known)

pub list_of-requires : goal.list_of-requires
unfolding list_count_lem
list_of-requires c = (cut_of _ _ c.requires.0 _ c.goal_of.ensures c.requires.2 _ c.record-goal.ensures, lit< tt)

pub list_of-requires-2 : goal.list_of-requires-2
unfolding list_count_lem
list_of-requires-2 c = (cut_of _ _ c.requires.0 _ c.goal_of.ensures c.requires.2 _ c.record-goal.ensures, lit< tt)

pub first_unmet-requires : goal.first_unmet-requires
first_unmet-requires c = (
  known-list _ _ c.requires.0 _ c.goal_of.ensures c.requires.2 _ c.record-goal.ensures 0 (lit< tt) c.list_of.ensures,
  known-list _ _ c.requires.0 _ c.goal_of.ensures c.requires.2 _ c.record-goal.ensures 1 (lit< tt) c.list_of-2.ensures,
  c.requires.1,
)

pub returns-in-Some : goal.returns-in-Some
unfolding ending_of
returns-in-Some c =
    asked-unmet _ (aim-is _ _ c.requires.0 _ c.goal_of.ensures c.requires.2) _ _
    (unmet-is _ _ c.requires.0 _ c.goal_of.ensures c.requires.2 _ c.record-goal.ensures c.list_of.ensures
    c.list_of-2.ensures _ _ _ c.in-Some.ensures)

pub returns-in-None : goal.returns-in-None
unfolding ending_of
returns-in-None c =
    asked-met _ (aim-is _ _ c.requires.0 _ c.goal_of.ensures c.requires.2) _ _
    (unmet-is _ _ c.requires.0 _ c.goal_of.ensures c.requires.2 _ c.record-goal.ensures c.list_of.ensures
    c.list_of-2.ensures _ _ _ c.in-None.ensures)
