-- Laws on the goals of a model file, which are its attack states and then its formulas: how many there are, and the
-- record of each.
use Prim.Native.Nat.{ℕ, ◌+◌, ◌-◌, ◌≤◌, ◌<◌}
use mathlib.Core.Path.{◌≡◌, ap, ◌∙◌}
use mathlib.Core.List.{List, []}
use native.Mathlib.Omega.{arith}
use lib.ListN.{length, get_or, length-map, get_or-map}
use Rattle.meaning.specs.Model.{aims, aim_of}
use Rattle.meaning.specs.Model.Aim.{state, formula}
use Rattle.meaning.proofs.Runs.{length-aims, state-at, formula-at}
use Rattle.records.specs.Records.{records}
use Rattle.sections.specs.declared.Role.TheVariants.{Goals, Formulas}
use Rattle.files.specs.Files.{section_of, goal_in, formula_in, model_of_lem}

module _ (m : List ℕ) where
  -- There are as many attack states as records,
  pub state-records : length (model_of_lem m).goals ≡ length (records (section_of m Goals))
  unfolding model_of_lem
  state-records = rw length-map

  -- as many formulas,
  pub formula-records : length (model_of_lem m).formulas ≡ length (records (section_of m Formulas))
  unfolding model_of_lem
  formula-records = rw length-map

  -- and as many goals as both together.
  pub aim-records : length (aims (model_of_lem m))
      ≡ length (records (section_of m Goals)) + length (records (section_of m Formulas))
  aim-records = rw (length-aims, state-records, formula-records)

  -- A goal that is an attack state is its record's lists.
  pub state_in_lem : (g : ℕ) → g < length (model_of_lem m).goals
      → aim_of (model_of_lem m) g ≡ state (goal_in (get_or (records (section_of m Goals)) g []))
  unfolding model_of_lem
  state_in_lem g h =
      state-at (model_of_lem m) g (goal_in []) h ∙ ap state (get_or-map goal_in (records (section_of m Goals)) g [])

  -- It has a record.
  pub state-there : {g : ℕ} → g < length (model_of_lem m).goals → g < length (records (section_of m Goals))
  state-there h = rw state-records at h

  module _ (g : ℕ) (from : length (model_of_lem m).goals ≤ g) (below : g < length (aims (model_of_lem m))) where
    -- The number of a formula's record is the goal's less the attack states.
    pub formula-there : g - length (model_of_lem m).goals < length (records (section_of m Formulas))
    formula-there = omega (arith, state-records, aim-records)

    -- A goal that is a formula is its record's codes.
    pub formula_in_lem : aim_of (model_of_lem m) g
        ≡ formula (formula_in (get_or (records (section_of m Formulas)) (g - length (model_of_lem m).goals) []))
    unfolding model_of_lem
    formula_in_lem =
        let k = g - length (model_of_lem m).goals in
        formula-at (model_of_lem m) g (formula_in []) from below
        ∙ ap formula (get_or-map formula_in (records (section_of m Formulas)) k [])
