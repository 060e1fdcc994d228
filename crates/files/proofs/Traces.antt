-- What a trace and a pair are in which nothing is at fault: for the checker above.
use Prim.Native.Nat.{ℕ, suc, ◌+◌, ◌*◌, ◌%◌, ◌≤◌, ◌<◌}
use mathlib.Core.Path.{◌≡◌, refl, ap, ◌∙◌}
use mathlib.Core.Bool.{Bool, true, false}
use mathlib.Core.List.{List, [], ◌∷◌}
use mathlib.Core.Option.{Option, none, map, map-eq-none_iff}
use native.Mathlib.Omega.{arith}
use lib.Dec.{T, ltb}
use lib.ListN.{length, drop, get_or, length-drop}
use lib.Seq.{drop-drop}
use borrow.Author.Tests.{leb-false, ltb-false, lt-ltb}
use Rattle.sets.specs.Sets.{every, first}
use Rattle.sets.proofs.Laws.{both, passes, first-before}
use Rattle.meaning.specs.Model.{aims}
use Rattle.meaning.specs.Run.{named}
use Rattle.records.specs.Words.{word, words, odd}
use Rattle.records.specs.Refusals.{Fault}
use Rattle.records.specs.Records.{◌or_else◌}
use Rattle.records.proofs.Words.{words-index, words-two, length-words, even-length}
use Rattle.records.proofs.Judging.{or_clear}
use Rattle.sections.specs.Sections.{long, section_at, fits, in_section, left_over, too_long, wrong_version}
use Rattle.files.specs.Files.{Blamed, entries_of, model_of_lem, trace_of, shape_fault, model_bytes, trace_bytes, trace_shape}
use Rattle.files.specs.Files.{model_version, trace_version, model_fault}
use Rattle.files.specs.Files.{trace_count, lacks, trace_names, trace_fault}
use Rattle.files.specs.Files.{heads_fault, files_fault, steps_fault, pair_fault}
use Rattle.files.specs.Files.Blamed.{model, trace}
use Rattle.sections.proofs.Fits.{neither, not-given, section-fine}
use Rattle.files.proofs.Order.{all-fine}

-- A list passes a test as a whole where it does so at each index.
every-at : (p : ℕ → Bool) (xs : List ℕ) → ((i : ℕ) → i < length xs → p (get_or xs i 0) ≡ true) → T (every p xs)
unfolding every
every-at p [] h = tt
every-at p (x ∷ xs) h =
    (both (p x) (every p xs)).1 (passes (h 0 (omega arith)), every-at p xs (λ i k. h (suc i) (omega arith)))

-- ---- a trace with no fault

-- its section fits, and its readers find nothing
record FineTrace (goals rules : ℕ) (t : List ℕ) : Type 0 where
  fit : fits t (section_at t 0) ≡ true
  shape : trace_shape (entries_of t) ≡ none
  count : trace_count (entries_of t) ≡ none
  names : trace_names goals rules (entries_of t) ≡ none

fine-trace : (goals rules : ℕ) (t : List ℕ) → trace_fault goals rules t ≡ none → FineTrace goals rules t
unfolding trace_fault entries_of
fine-trace goals rules t e =
    let at = section_at t 0 in
    let (shape, after-shape) = neither (in_section trace_shape t at) _ e in
    let (left, after-left) = neither (left_over t (section_at t 1)) _ after-shape in
    let (count, names) = neither (in_section trace_count t at) _ after-left in
    record {
      fit = (section-fine trace_shape t at shape).0;
      shape = (section-fine trace_shape t at shape).1;
      count = (section-fine trace_count t at count).1;
      names = (section-fine (trace_names goals rules) t at names).1;
    }

module _ (goals rules : ℕ) (t : List ℕ) (fine : trace_fault goals rules t ≡ none) where
  known : FineTrace goals rules t
  known = fine-trace goals rules t fine

  -- The trace's section fits.
  pub trace-fits : fits t (section_at t 0) ≡ true
  trace-fits = known.fit

  -- its entries have two bytes at least, and no odd one
  even : (2 ≤ length (entries_of t)) × (length (entries_of t) % 2 ≡ 0)
  unfolding trace_shape
  even =
      let bytes = entries_of t in
      let shape = not-given _ 4 (all-fine _ bytes known.shape) in
      let (twos, long) = or_clear (odd bytes) (ltb (length bytes) 2) shape in
      (ltb-false _ _ long, even-length bytes twos)

  -- They are the goal's number and the rule numbers, 2 bytes each.
  pub trace-length : length (entries_of t) ≡ 2 + 2 * length (trace_of t).steps
  unfolding trace_of
  trace-length = rw length-words (omega (arith, even, length-drop 2 (entries_of t)))

  -- Step i is the two bytes at its place.
  pub trace-step : (i : ℕ) → i < length (trace_of t).steps
      → get_or (trace_of t).steps i 0 ≡ word (drop (2 + 2 * i) (entries_of t))
  unfolding trace_of
  trace-step i h = words-index (drop 2 (entries_of t)) i h ∙ ap word (drop-drop (2 * i) 2 (entries_of t))

  -- the numbers are the goal's and then the steps
  entries : words (entries_of t) ≡ (trace_of t).goal ∷ (trace_of t).steps
  unfolding trace_of
  entries = words-two (entries_of t) even.0

  -- There are at most 1,024 steps.
  pub trace-short : length (trace_of t).steps ≤ 1024
  unfolding trace_count
  trace-short =
      let counted : length (words (entries_of t)) ≤ 1 + 1024 =
      ltb-false _ _ (not-given _ 5 (all-fine _ (entries_of t) known.count)) in
      omega (arith, ap length entries)

  -- no entry names what the model lacks
  present : (i : ℕ) → i < suc (length (trace_of t).steps)
      → lacks goals rules ((trace_of t).goal ∷ (trace_of t).steps) i ≡ false
  unfolding trace_names
  present i h =
      let numbers = words (entries_of t) in
      let passed : length numbers ≤ first (lacks goals rules numbers) (length numbers) =
      ltb-false _ _ (not-given _ _ known.names) in
      rw (← entries) (first-before (lacks goals rules numbers) (length numbers) i (omega (arith, ap length entries)))

  -- The model has the goal.
  pub trace-goal-known : (trace_of t).goal < goals
  unfolding lacks
  trace-goal-known = leb-false _ _ (present 0 (omega arith))

  -- The model has the rule of every step.
  pub trace-step-known : (i : ℕ) → i < length (trace_of t).steps → get_or (trace_of t).steps i 0 < rules
  unfolding lacks
  trace-step-known i h = leb-false _ _ (present (suc i) (omega arith))

-- ---- a pair with no fault

-- what is known of its two files
pub record FinePair (m t : List ℕ) : Type 0 where
  pub model-size : length m ≤ 65536
  pub trace-size : length t ≤ 4096
  pub model-version : wrong_version model_version m ≡ none
  pub trace-version : wrong_version trace_version t ≡ none
  pub shape : shape_fault m ≡ none
  pub trace : trace_fault (length (aims (model_of_lem m))) (length (model_of_lem m).rules) t ≡ none

-- a file's fault and what is judged after it
pub file_then : (blame : Fault → Blamed) (fault : Option Fault) (later : Option Blamed)
    → (map blame fault or_else later) ≡ none → (fault ≡ none) × (later ≡ none)
file_then blame fault later e =
    let (here, after) = neither (map blame fault) later e in
    ((map-eq-none_iff blame fault).0 here, after)

-- a file that is not too long
pub not-long : (most : ℕ) (file : List ℕ) → too_long most file ≡ none → length file ≤ most
unfolding too_long
not-long most file e = ltb-false _ _ (not-given _ _ e)

-- A model by itself without a fault has none of 4 to 7,
pub fine-shape : (m : List ℕ) → model_fault m ≡ none → shape_fault m ≡ none
unfolding model_fault
fine-shape m e = (neither (wrong_version model_version m) _ (neither (too_long model_bytes m) _ e).1).1

-- and is no longer than a model may be.
pub fine-size : (m : List ℕ) → model_fault m ≡ none → length m ≤ 65536
unfolding model_fault
fine-size m e = not-long model_bytes m (neither (too_long model_bytes m) _ e).0

-- Where sizes, versions and the model have none, neither has the model's shape,
pub files_shape : (m t : List ℕ) → files_fault m t ≡ none → shape_fault m ≡ none
unfolding files_fault
files_shape m t e = (map-eq-none_iff model (shape_fault m)).0 (neither (heads_fault m t) _ e).1

-- and where the trace has none either, the pair has none.
pub stages_fine : (m t : List ℕ) → files_fault m t ≡ none
    → steps_fault (length (aims (model_of_lem m))) (length (model_of_lem m).rules) t ≡ none → pair_fault m t ≡ none
unfolding pair_fault ◌or_else◌
stages_fine m t files steps = rw (files, steps)

-- In a pair with no fault nothing is wrong with either file.
pub fine_pair : (m t : List ℕ) → pair_fault m t ≡ none → FinePair m t
unfolding pair_fault files_fault heads_fault
fine_pair m t e =
    let (files, names) = neither (files_fault m t) _ e in
    let (heads, shape) = neither (heads_fault m t) _ files in
    let (e₁, r₁) = file_then model (too_long model_bytes m) _ heads in
    let (e₂, r₂) = file_then trace (too_long trace_bytes t) _ r₁ in
    let (e₃, r₃) = file_then model (wrong_version model_version m) _ r₂ in
    record {
      model-size = not-long model_bytes m e₁;
      trace-size = not-long trace_bytes t e₂;
      model-version = e₃;
      trace-version = (map-eq-none_iff trace _).0 r₃;
      shape = (map-eq-none_iff model _).0 shape;
      trace = (map-eq-none_iff trace _).0 names;
    }

-- The trace of a pair with no fault names only what the model has.
pub pair_named : (m t : List ℕ) → pair_fault m t ≡ none → T (named (model_of_lem m) (trace_of t))
unfolding named
pair_named m t e =
    let goals = length (aims (model_of_lem m)) in
    let rules = length (model_of_lem m).rules in
    let fine = (fine_pair m t e).trace in
    rw (lt-ltb _ _ (trace-goal-known goals rules t fine))
    (every-at (λ k. ltb k rules) (trace_of t).steps (λ i h. lt-ltb _ _ (trace-step-known goals rules t fine i h)))

-- What a pair with no fault has, as the run needs it.
module _ (m t : List ℕ) (fine : pair_fault m t ≡ none) where
  trace-fine : trace_fault (length (aims (model_of_lem m))) (length (model_of_lem m).rules) t ≡ none
  trace-fine = (fine_pair m t fine).trace

  pub pair_shape : shape_fault m ≡ none
  pair_shape = (fine_pair m t fine).shape

  pub pair_fits : fits t (section_at t 0) ≡ true
  pair_fits = trace-fits _ _ t trace-fine

  pub pair_entries : length (entries_of t) ≡ 2 + 2 * length (trace_of t).steps
  pair_entries = trace-length _ _ t trace-fine

  pub pair_few : length (trace_of t).steps ≤ 1024
  pair_few = trace-short _ _ t trace-fine

  pub pair_step : (i : ℕ) → i < length (trace_of t).steps
      → get_or (trace_of t).steps i 0 ≡ word (drop (2 + 2 * i) (entries_of t))
  pair_step = trace-step _ _ t trace-fine

  pub pair_step-known : (i : ℕ) → i < length (trace_of t).steps
      → get_or (trace_of t).steps i 0 < length (model_of_lem m).rules
  pair_step-known = trace-step-known _ _ t trace-fine

  pub pair_goal-known : (trace_of t).goal < length (aims (model_of_lem m))
  pair_goal-known = trace-goal-known _ _ t trace-fine

-- The goal's number is the first entry.
pub goal-entry : (t : List ℕ) → (trace_of t).goal ≡ word (entries_of t)
unfolding trace_of
goal-entry t = refl
