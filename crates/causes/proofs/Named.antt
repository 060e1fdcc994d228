-- The parts that a run names: the entry of a step, and the record of the goal, an attack state's or a formula's.
use Prim.Native.Nat.{ℕ, suc, ◌+◌, ◌-◌, ◌*◌, ◌≤◌, ◌<◌}
use mathlib.Core.Path.{◌≡◌, sym, ap, ◌∙◌}
use mathlib.Core.Logic.{⊎_elim}
use mathlib.Core.List.{List, []}
use mathlib.Core.Option.{none}
use native.Mathlib.Omega.{arith}
use lib.Dec.{lit<}
use lib.ListN.{length, take, drop, get_or, length-drop}
use lib.Seq.{get_or-take, length-take-le}
use borrow.Author.Tests.{lt-ltb, le-ltb}
use Rattle.sets.proofs.Laws.{below_or_from}
use Rattle.records.specs.Words.{word, words}
use Rattle.records.specs.Records.{records, place_of}
use Rattle.records.proofs.Words.{words-index, words-two, length-words}
use Rattle.sections.specs.Sections.{section_at}
use Rattle.sections.specs.declared.Role.{Role}
use Rattle.sections.specs.declared.Role.TheVariants.{Goals, Formulas}
use Rattle.sections.proofs.Parts.{fit-ended, ended-size}
use Rattle.files.specs.Files.{There, place_of_role, section_of, model_of_lem, entries_of, trace_of, pair_fault}
use Rattle.files.specs.Answers.{bytes_at, part_of, entry_part_lem, record_part_lem, goal_part_lem}
use Rattle.causes.proofs.Found.{inner, record-placed}
use Rattle.files.proofs.Aims.{state-there, formula-there}
use Rattle.files.proofs.Roles.{section-there, record-there}
use Rattle.files.proofs.Shaped.{role-ends}
use Rattle.files.proofs.Traces.{fine_pair, trace-fits, trace-length, trace-goal-known}

-- The two bytes at a number's place are that number.
pub entry-word : (bytes : List ℕ) (i : ℕ) → i < length (words bytes)
    → (length (take 2 (drop (2 * i) bytes)) ≡ 2) × (word (take 2 (drop (2 * i) bytes)) ≡ get_or (words bytes) i 0)
unfolding word
entry-word bytes i there =
    let at = drop (2 * i) bytes in (
      length-take-le 2 at (rw length-drop (omega (arith, length-words bytes))),
      rw (get_or-take 2 at 0 0 (lit< tt), get_or-take 2 at 1 0 (lit< tt)) (sym (words-index bytes i there)),
    )

-- The bytes at a place within the section of a role are those at that place of the model.
role-bytes : (m : List ℕ) (r : Role) → There m r → (start size : ℕ) → start + size ≤ length (section_of m r)
    → take size (drop (place_of_role m r + 4 + start) m) ≡ take size (drop start (section_of m r))
role-bytes m r there = rw (section-there m r there) (inner m (place_of_role m r))

module _ (m t : List ℕ) (fine : pair_fault m t ≡ none) where
  -- A step's entry is its rule number, two bytes of the trace.
  pub step_part : (i : ℕ) → i < length (trace_of t).steps → ((entry_part_lem t (1 + i)).start + 2 ≤ length t)
      × (length (part_of m t (entry_part_lem t (1 + i))) ≡ 2)
      × (word (part_of m t (entry_part_lem t (1 + i))) ≡ get_or (trace_of t).steps i 0)
  unfolding entry_part_lem part_of bytes_at entries_of trace_of
  step_part i h =
      let known = (fine_pair m t fine).trace in
      let bytes = entries_of t in
      let size : length bytes ≡ 2 + 2 * length (trace_of t).steps = trace-length _ _ t known in
      let end = fit-ended t (section_at t 0) (trace-fits _ _ t known) in
      let same = inner t (section_at t 0) (2 * (1 + i)) 2 (omega arith) in
      let (two, is) = entry-word bytes (1 + i) (omega (arith, length-words bytes)) in
      let next : 1 + i ≡ suc i = omega arith in (
        omega (arith, end, ended-size t (section_at t 0) _ end),
        rw same two,
        rw same (is ∙ ap (λ (l : List ℕ). get_or l (1 + i) 0) (words-two bytes (omega arith)) ∙ rw next),
      )

  -- A record's part is that record, and lies in the model.
  record-named : (r : Role) (k : ℕ) → k < length (records (section_of m r))
      → ((record_part_lem m r k).start + (record_part_lem m r k).size ≤ length m)
      × (part_of m t (record_part_lem m r k) ≡ get_or (records (section_of m r)) k [])
  unfolding record_part_lem part_of bytes_at
  record-named r k h =
      let there = record-there m r h in
      let section = section_of m r in
      let (is, within) = record-placed section k h in (
        omega (arith, role-ends m (fine_pair m t fine).shape r there),
        role-bytes m r there (place_of k (records section)) _ within ∙ is,
      )

  -- The part of a goal that is an attack state is its record,
  pub state-named : (trace_of t).goal < length (model_of_lem m).goals
      → ((goal_part_lem m (trace_of t).goal).start + (goal_part_lem m (trace_of t).goal).size ≤ length m)
      × (part_of m t (goal_part_lem m (trace_of t).goal) ≡ get_or (records (section_of m Goals)) (trace_of t).goal [])
  unfolding goal_part_lem
  state-named h = rw (lt-ltb _ _ h) (record-named Goals (trace_of t).goal (state-there m h))

  -- that of one that is a formula too,
  pub formula-named : length (model_of_lem m).goals ≤ (trace_of t).goal
      → ((goal_part_lem m (trace_of t).goal).start + (goal_part_lem m (trace_of t).goal).size ≤ length m)
      × (part_of m t (goal_part_lem m (trace_of t).goal)
      ≡ get_or (records (section_of m Formulas)) ((trace_of t).goal - length (model_of_lem m).goals) [])
  unfolding goal_part_lem
  formula-named h =
      let known = trace-goal-known _ _ t (fine_pair m t fine).trace in
      rw (le-ltb _ _ h) (record-named Formulas _ (formula-there m (trace_of t).goal h known))

  -- and every goal's lies in the model.
  pub goal-within : (goal_part_lem m (trace_of t).goal).start + (goal_part_lem m (trace_of t).goal).size ≤ length m
  goal-within =
      ⊎_elim (λ h. (state-named h).0) (λ h. (formula-named h).0)
      (below_or_from (trace_of t).goal (length (model_of_lem m).goals))
