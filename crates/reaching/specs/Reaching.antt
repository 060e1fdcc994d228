-- Where a pair's steps lead: what a run is lent, and what the search over the steps is told and leaves.
use Rattle.std.specs.Prelude.{ℕ, ◌+◌, ◌*◌, ◌≤◌, ◌≡◌, List, length, drop}
use Rattle.std.proofs.Math.Option.{none, some}
use Rattle.meaning.specs.Past.{History}
use Rattle.meaning.specs.Model.{Model, Aim, State, aim_of, start}
use Rattle.meaning.specs.Model.Aim.{state, formula}
use Rattle.meaning.specs.Run.{Condition, Reached, reach}
use Rattle.meaning.specs.Rounds.{rounds}
use Rattle.facts.specs.Facts.{members, Kept}
use Rattle.files.specs.Files.{pair_fault, model_of_lem, trace_of}
use Rattle.closing.specs.Closing.{Filled}
use Rattle.past.specs.Remembering.{Remembers}
use Rattle.stepping.specs.Conditions.{names_in, unmet_in}
use Rattle.reaching.specs.declared.Steps.{Steps}
use Rattle.reaching.specs.declared.Buffers.{Buffers}

-- the memory that a check is lent: the state's buffer, the round table and "a further lent 128 bytes" for names
-- (document 02, wish 9)
pub record Lent : Type 0 where
  pub state : List ℕ
  pub table : List ℕ
  pub names : List ℕ

-- what the code's buffers hold
abbrev pub lent_of : Buffers → Lent
lent_of b = record { state = b.state.now; table = b.table.now; names = b.names.now }

-- ---- contracts between functions; no promise to the outside rests on these

-- a pair that nothing refuses, with buffers of enough room
pub record Ready (m t : List ℕ) (l : Lent) : Type 0 where
  pub fine : pair_fault m t ≡ none
  pub room : 512 ≤ length l.state
  pub entries : 4096 ≤ length l.table
  pub names : 128 ≤ length l.names

-- a struct of buffers still holds the same ones, whatever is now in them
abbrev pub SameBuffers : Buffers → Buffers → Type 0
SameBuffers b c =
    (c.state.ghost_name ≡ b.state.ghost_name)
    × (c.table.ghost_name ≡ b.table.ghost_name)
    × (c.names.ghost_name ≡ b.names.ghost_name)

-- the state that is in the buffers
abbrev pub state_in : Lent → State
state_in l = record { facts = members l.state; names = names_in l.names }

-- where the pair's steps lead
unfoldable pub reached : List ℕ → List ℕ → Reached
unfolding reach start model_of_lem trace_of
reached m t = reach (model_of_lem m) (start (model_of_lem m)) (trace_of t).steps

-- the rounds counted when the search over the steps ends: those of the last state too, where a step is blocked in it
unfoldable pub counted : Model → Reached → ℕ
unfolding rounds
counted m r = elim r.stop [ none ↦ r.earlier | some c ↦ r.earlier + rounds m.clauses r.state.facts ]

-- what the trace is about
abbrev pub aimed : List ℕ → List ℕ → Aim
aimed m t = aim_of (model_of_lem m) (trace_of t).goal

-- what is kept of a history for a goal: nothing for an attack state, a bit for each code of a formula
abbrev pub Keeps : Aim → History → List ℕ → Type 0
Keeps (state G) h kept = Unit
Keeps (formula p) h kept = Remembers p h kept

-- what the search over the steps leaves: the last state, and where a step is blocked in it, its round numbers; what is
-- kept of the closures before it
pub record StepsTo (m t : List ℕ) (before after : Lent) (bits : List ℕ) (r : Steps) : Type 0 where
  pub fired : r.fired ≡ (reached m t).fired
  pub stop : unmet_in r.stop ≡ (reached m t).stop
  pub rounds : r.rounds ≡ counted (model_of_lem m) (reached m t)
  pub facts : (g : ℕ) → members after.state g ≡ (reached m t).state.facts g
  pub kept : Kept 512 before.state after.state
  pub names : (n : ℕ) → names_in after.names n ≡ (reached m t).state.names n
  pub names-kept : Kept 128 before.names after.names
  pub as_long : length after.table ≡ length before.table
  pub beyond : drop 4096 after.table ≡ drop 4096 before.table
  pub filled : (c : Condition) → (reached m t).stop ≡ some c
      → Filled (model_of_lem m).clauses (reached m t).state.facts before.table after.table
  pub keeps : Keeps (aimed m t) (reached m t).past bits
  pub within : r.fired ≤ length (trace_of t).steps
  pub bound : r.rounds ≤ 4096 * (r.fired + 1)
