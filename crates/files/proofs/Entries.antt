-- Laws on judging a trace: the first entry that names what the model lacks, and the answer for the trace from its tests
-- in order.
use Prim.Native.Nat.{ℕ, zero, suc, ◌+◌, ◌*◌, ◌-◌, ◌/◌, ◌%◌, ◌≤◌, ◌<◌}
use mathlib.Core.Path.{◌≡◌, refl, ap, fun_ext}
use mathlib.Core.Logic.{◌⊎◌, inl, inr}
use mathlib.Core.Bool.{Bool, true, false, ◌||◌, or-true}
use mathlib.Core.List.{List, [], ◌∷◌}
use mathlib.Core.Option.{none, map}
use native.Mathlib.Omega.{arith}
use lib.Dec.{leb, ltb, eqb}
use lib.ListN.{length, drop, length-drop}
use borrow.Author.Tests.{lt-ltb, le-ltb, eqb-false}
use Rattle.sets.specs.Sets.{first}
use Rattle.records.specs.Words.{words, odd}
use Rattle.records.specs.Records.{given, ◌or_else◌}
use Rattle.records.proofs.Words.{odd_is, length-words}
use Rattle.sections.specs.Sections.{end_at, section_at, fits, payload, rest_fault_lem, moved, in_section, left_over, all_of}
use Rattle.files.specs.Files.{entries_of, trace_of, trace_shape, trace_count, lacks, trace_names, trace_fault}
use Rattle.std.specs.Prelude.{Result, Ok, Err}
use Rattle.records.specs.Refusals.{Fault, answer_or}
use Rattle.sections.specs.declared.Passed.{Passed}
use Rattle.sections.proofs.Parts.{Ended, fit-fault}

-- ---- the first entry that names what the model lacks

-- the number of that entry, where the model has `known` of what the first names and `rules` of what the others name
abbrev pub lacking : ℕ → ℕ → List ℕ → ℕ
lacking known rules entries = first (lacks known rules entries) (length entries)

-- Among no entries it is none.
pub lacking-end : (known rules : ℕ) → lacking known rules [] ≡ 0
unfolding first
lacking-end known rules = refl

module _ (known rules entry : ℕ) (entries : List ℕ) where
  -- It is the first, if the model lacks what that names.
  pub lacking-here : leb known entry ≡ true → lacking known rules (entry ∷ entries) ≡ 0
  unfolding first lacks
  lacking-here e = rw (e, first)

  -- Otherwise it is among the others, which all name rules.
  pub lacking-later : leb known entry ≡ false
      → lacking known rules (entry ∷ entries) ≡ suc (lacking rules rules entries)
  unfolding first lacks
  lacking-later e = rw (e, first) (ap (λ (p : ℕ → Bool). suc (first p (length entries))) (fun_ext same))
    where
      same : (k : ℕ) → lacks known rules (entry ∷ entries) (suc k) ≡ lacks rules rules entries k
      same zero = refl
      same (suc k) = refl

-- ---- the answer for a trace

-- the answer that the contract of `judge_trace` names
abbrev pub answer : ℕ → ℕ → List ℕ → Result Passed Fault
answer goals rules file =
    answer_or (trace_fault goals rules file) (record { end = end_at file 1; count = length (trace_of file).steps })

-- A trace whose section doesn't fit is at fault there.
pub answer-unfit : (goals rules : ℕ) (file : List ℕ) → fits file 1 ≡ false
    → Err (rest_fault_lem file 1) ≡ answer goals rules file
unfolding trace_fault section_at in_section ◌or_else◌
answer-unfit goals rules file unfit = rw unfit

module _ (goals rules : ℕ) (file : List ℕ) (end : ℕ) (ended : Ended file 1 end) (bytes : List ℕ)
    (entries : bytes ≡ payload file 1) where
  -- the fault by its parts, where the section fits
  chain : trace_fault goals rules file
      ≡ (map (moved 5) (trace_shape bytes)
      or_else left_over file end
      or_else map (moved 5) (trace_count bytes)
      or_else map (moved 5) (trace_names goals rules bytes))
  unfolding trace_fault section_at
  chain =
      rw (
        entries,
        ended.is,
        fit-fault file 1 trace_shape ended.fit,
        fit-fault file 1 trace_count ended.fit,
        fit-fault file 1 (trace_names goals rules) ended.fit,
      )

  -- It is 4 for bytes that are too few or odd.
  pub answer-shape : (length bytes < 2) ⊎ (eqb (length bytes % 2) 1 ≡ true)
      → Err (record { number = 4; start = 5; size = length bytes }) ≡ answer goals rules file
  unfolding trace_shape given all_of moved ◌or_else◌
  answer-shape h = rw (chain, misshapen h)
    where
      misshapen : (length bytes < 2) ⊎ (eqb (length bytes % 2) 1 ≡ true) → (odd bytes || ltb (length bytes) 2) ≡ true
      misshapen (inl few) = rw (lt-ltb _ _ few) (or-true (odd bytes))
      misshapen (inr o) = rw (odd_is, o)

  module _ (long : 2 ≤ length bytes) (even : eqb (length bytes % 2) 1 ≡ false) where
    -- the shape is right
    whole : trace_shape bytes ≡ none
    unfolding trace_shape given all_of
    whole = rw (odd_is, even, le-ltb _ _ long)

    -- It is 4 for the bytes after the section.
    pub answer-left : end < length file → Err (rest_fault_lem file end) ≡ answer goals rules file
    unfolding left_over given ◌or_else◌
    answer-left h = rw (chain, whole, lt-ltb _ _ h)

    module _ (done : length file ≤ end) where
      -- It is 5 for too many steps.
      pub answer-count : 1024 < length bytes / 2 - 1
          → Err (record { number = 5; start = 5; size = length bytes }) ≡ answer goals rules file
      unfolding trace_count left_over given all_of moved ◌or_else◌
      answer-count h =
          let many : 1 + 1024 < length (words bytes) = omega (arith, length-words bytes) in
          rw (chain, whole, le-ltb _ _ done, lt-ltb _ _ many)

-- the section's shape is right, nothing stands after it, and its steps are few enough
pub record Counted (file : List ℕ) (end : ℕ) (bytes : List ℕ) : Type 0 where
  pub ended : Ended file 1 end
  pub entries : bytes ≡ payload file 1
  pub long : 2 ≤ length bytes
  pub even : eqb (length bytes % 2) 1 ≡ false
  pub done : length file ≤ end
  pub few : length bytes / 2 - 1 ≤ 1024

module _ (goals rules : ℕ) {file : List ℕ} {end : ℕ} {bytes : List ℕ} (s : Counted file end bytes) {at : ℕ}
    (found : at ≡ 2 * lacking goals rules (words bytes)) where
  -- then only the names are left
  names-left : trace_fault goals rules file ≡ map (moved 5) (trace_names goals rules bytes)
  unfolding trace_count left_over given all_of ◌or_else◌
  names-left =
      let right = whole goals rules file end s.ended bytes s.entries s.long s.even in
      let counted : length (words bytes) ≤ 1 + 1024 = omega (arith, length-words bytes) in
      rw (chain goals rules file end s.ended bytes s.entries, right, le-ltb _ _ s.done, le-ltb _ _ counted)

  -- where the first entry is that names what the model lacks, in numbers
  spot : (at < length bytes → lacking goals rules (words bytes) < length (words bytes))
      × (length bytes ≤ at → length (words bytes) ≤ lacking goals rules (words bytes))
  spot =
      let two : length bytes % 2 ≡ 1 → ⊥ = eqb-false _ _ s.even in
      omega (arith, length-words bytes)

  -- It is 9 for that entry.
  pub answer-name : at < length bytes
      → Err (record { number = 9; start = 5 + at; size = 2 }) ≡ answer goals rules file
  unfolding trace_names given moved
  answer-name h = rw (names-left, lt-ltb _ _ (spot.0 h), found)

  -- Where there is none, nothing is at fault.
  pub answer-fine : length bytes ≤ at → Ok (record { end = end; count = length bytes / 2 - 1 }) ≡ answer goals rules file
  unfolding trace_names given trace_of entries_of section_at
  answer-fine h =
      let steps : length bytes / 2 - 1 ≡ length (words (drop 2 bytes)) =
      omega (arith, length-words (drop 2 bytes), length-drop 2 bytes) in
      rw (names-left, le-ltb _ _ (spot.1 h), s.ended.is, steps, s.entries)
