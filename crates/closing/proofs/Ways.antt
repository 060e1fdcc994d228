-- The way of closing that takes an index: what it is lent, and what it leaves.
use Prim.Native.Nat.{ℕ, ◌≤◌, ◌<◌}
use mathlib.Core.Path.{◌≡◌, subst}
use mathlib.Core.Bool.{cond}
use mathlib.Core.List.{List}
use mathlib.Core.Option.{none}
use native.Mathlib.Omega.{arith}
use lib.ListN.{length, get_or}
use Rattle.facts.specs.Facts.{members}
use Rattle.facts.proofs.Laws.{beyond}
use Rattle.sections.specs.declared.Role.TheVariants.{Clauses}
use Rattle.files.specs.Files.{section_of, clauses_in, model_of_lem, shape_fault}
use Rattle.worklist.specs.Working.{state_in, Placed, Listed, Workable, WorksFor, Works}
use Rattle.worklist.specs.declared.Worked.{Worked}
use Rattle.worklist.proofs.Laws.{closes_from, works-all, state-is, begun-from, judged-model}
use Rattle.closing.specs.Closing.{Written, Way}
use Rattle.closing.specs.Closing.Way.{sweeps, indexed}
use Rattle.closing.specs.Sweep.{stored}

-- Where there are starts, an index is lent.
pub index_lent : {m index ends starts : List ℕ} → Way m index ends starts → 0 < length starts
    → Listed (model_of_lem m).clauses index ends × Placed (section_of m Clauses) starts
index_lent (sweeps e) n = absurd (omega arith)
index_lent (indexed listed placed) n = (listed, placed)

-- A table that holds round 0 of a state, under a judged model.
module _ (m state : List ℕ) (fine : shape_fault m ≡ none) {before begun : List ℕ} (room : 4096 ≤ length before)
    (start : Written (stored (members state)) before begun) where
  entries : (f : ℕ) → f < 4096 → get_or begun f 0 ≡ cond (members state f) 0 65535
  unfolding stored
  entries = start.entries

  -- By the index the worklist can run,
  pub workable : {section index ends starts : List ℕ} → section ≡ section_of m Clauses
      → Listed (model_of_lem m).clauses index ends → Placed (section_of m Clauses) starts
      → Workable section begun index ends starts
  unfolding model_of_lem
  workable is listed placed =
      let low = beyond 512 state in
      rw is
      (record {
        judged = rw (state-is begun entries low) (judged-model m fine low);
        begun = begun-from begun entries low (omega (arith, start.as_long));
        listed = listed;
        places = placed;
      })

  -- and what it leaves is the state's.
  pub works : {section after : List ℕ} {g : ℕ} {r : Worked} → section ≡ section_of m Clauses
      → WorksFor (clauses_in section) (state_in begun) g begun after r
      → WorksFor (model_of_lem m).clauses (members state) g before after r
  unfolding model_of_lem
  works {section} {after} {g} {r} is w =
      closes_from (state-is begun entries (beyond 512 state)) start.as_long start.beyond
      (subst (λ (l : List ℕ). WorksFor (clauses_in l) (state_in begun) g begun after r) is w)

-- For no fact that is full closing.
pub works-whole : (m state : List ℕ) → shape_fault m ≡ none → {before after : List ℕ} {r : Worked}
    → WorksFor (model_of_lem m).clauses (members state) 4096 before after r
    → Works (model_of_lem m).clauses (members state) before after r
unfolding model_of_lem
works-whole m state fine w = works-all (judged-model m fine (beyond 512 state)).known 4096 (omega arith) w
