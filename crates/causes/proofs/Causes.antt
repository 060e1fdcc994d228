-- Every fault of a pair has its cause (specs/Causes), and its bytes are a part of the file at fault.
use Prim.Native.Nat.{ℕ, zero, suc, ◌≤◌, ◌<◌}
use mathlib.Core.Path.{◌≡◌, refl, sym, subst, ◌∙◌}
use mathlib.Core.Logic.{◌↔◌, inl, inr, ⊎_elim}
use mathlib.Core.Bool.{true≢false, ◌||◌}
use mathlib.Core.List.Memᴰ
use mathlib.Core.List.{List, [], ◌∷◌}
use mathlib.Core.Option.{Option, none, some, map, map-eq-none_iff, none-ne-some, some-ne-none}
use mathlib.Core.Option.{some-injective}
use native.Mathlib.Omega.{arith}
use borrow.Author.Tests.{ltb-true, ltb-false, le-ltb}
use lib.Dec.{ltb}
use lib.ListN.{length, take, get_or, length-take}
use lib.Seq.{take-length}
use Rattle.sets.specs.Sets.{◌∈◌}
use Rattle.records.proofs.Judging.{or_clear}
use Rattle.records.specs.Refusals.{Fault}
use Rattle.sections.specs.Sections.{too_long, wrong_version}
use Rattle.sections.proofs.Fits.{neither, not-given}
use Rattle.files.specs.Files.{Blamed, model_bytes, trace_bytes, model_version, trace_version}
use Rattle.files.specs.Files.{model_fault, heads_fault, files_fault, pair_fault}
use Rattle.files.specs.Files.Blamed.{model, trace}
use Rattle.causes.specs.Causes.{ModelCause, RightModel, TraceCause, Starts, ModelStarts, RightSizes, RightHeads}
use Rattle.causes.specs.Causes.{Cause, RightPair, Refusing}
use Rattle.causes.proofs.Found.{either-found, given-found, Found}
use Rattle.causes.proofs.ModelCauses.{right-model, model-cause}
use Rattle.causes.proofs.TraceCauses.{trace-cause, trace-right}
use Rattle.causes.proofs.Wrong.{Within, wrong-within}
use Rattle.files.proofs.Traces.{file_then, not-long, fine_pair, trace-goal-known, trace-step-known}

-- ---- versions

-- these are the versions from 1 to the latest
abbrev UpTo : ℕ → List ℕ → Type 0
UpTo latest versions = (v : ℕ) → (v ∈ versions) ↔ ((1 ≤ v) × (v ≤ latest))

pub model_versions : UpTo model_version (1 ∷ 2 ∷ 3 ∷ 4 ∷ [])
model_versions v = (known, listed v)
  where
    known : {v : ℕ} → v ∈ 1 ∷ 2 ∷ 3 ∷ 4 ∷ [] → (1 ≤ v) × (v ≤ 4)
    known (Memᴰ.head e) = (omega arith, omega arith)
    known (Memᴰ.tail (Memᴰ.head e)) = (omega arith, omega arith)
    known (Memᴰ.tail (Memᴰ.tail (Memᴰ.head e))) = (omega arith, omega arith)
    known (Memᴰ.tail (Memᴰ.tail (Memᴰ.tail (Memᴰ.head e)))) = (omega arith, omega arith)
    known (Memᴰ.tail (Memᴰ.tail (Memᴰ.tail (Memᴰ.tail m)))) = elim m [ ]

    listed : (v : ℕ) → (1 ≤ v) × (v ≤ 4) → v ∈ 1 ∷ 2 ∷ 3 ∷ 4 ∷ []
    listed zero (low, high) = absurd (omega arith)
    listed (suc zero) h = Memᴰ.head refl
    listed (suc (suc zero)) h = Memᴰ.tail (Memᴰ.head refl)
    listed (suc (suc (suc zero))) h = Memᴰ.tail (Memᴰ.tail (Memᴰ.head refl))
    listed (suc (suc (suc (suc zero)))) h = Memᴰ.tail (Memᴰ.tail (Memᴰ.tail (Memᴰ.head refl)))
    listed (suc (suc (suc (suc (suc v))))) (low, high) = absurd (omega arith)

pub trace_versions : UpTo trace_version (1 ∷ [])
trace_versions v = (known, listed v)
  where
    known : {v : ℕ} → v ∈ 1 ∷ [] → (1 ≤ v) × (v ≤ 1)
    known (Memᴰ.head e) = (omega arith, omega arith)
    known (Memᴰ.tail m) = elim m [ ]

    listed : (v : ℕ) → (1 ≤ v) × (v ≤ 1) → v ∈ 1 ∷ []
    listed zero (low, high) = absurd (omega arith)
    listed (suc zero) h = Memᴰ.head refl
    listed (suc (suc v)) (low, high) = absurd (omega arith)

-- a file of a right version starts with one of them
pub starts : {latest : ℕ} {versions : List ℕ} → UpTo latest versions → (file : List ℕ)
    → wrong_version latest file ≡ none → Starts versions file
unfolding Starts wrong_version
starts known [] e = absurd (some-ne-none _ e)
starts {latest} known (b ∷ rest) e =
    let (low, high) = or_clear (ltb b 1) (ltb latest b) (not-given _ _ e) in
    (b, (known b).1 (ltb-false _ _ low, ltb-false _ _ high), rest, refl)

pub starts-byte : (versions file : List ℕ) → Starts versions file → 1 ≤ length file
unfolding Starts
starts-byte versions file (v, i, rest, e) = rw e (omega arith)

-- the part of the first byte, or of none
first_byte : (file : List ℕ) → take (length (take 1 file)) file ≡ take 1 file
first_byte [] = refl
first_byte (b ∷ rest) = refl

pub version-cause : {latest : ℕ} {versions : List ℕ} → UpTo latest versions → (file : List ℕ)
    → (C : ℕ → List ℕ → Type 0) (f : Fault) → wrong_version latest file ≡ some f
    → ((Starts versions file → ⊥) → C 3 (take 1 file))
    → Found file C f
unfolding wrong_version Starts
version-cause {latest} known file C f e c =
    let fault : Fault = record { number = 3; start = 0; size = length (take 1 file) } in
    let version = get_or file 0 0 in
    let (test, is) = given-found (ltb version 1 || ltb latest version) fault f e in
    let other : (1 ≤ version) × (version ≤ latest) → ⊥ = λ (low, high).
    true≢false (sym test ∙ rw (le-ltb version 1 low, le-ltb latest version high)) in
    rw is (record {
      within = omega (arith, length-take 1 file);
      cause = rw (first_byte file) (c (λ (v, i, rest, q).
          let is : version ≡ v = rw q in
          other (rw is ((known v).0 i))));
    })

pub long-cause : (most : ℕ) (file : List ℕ) (C : ℕ → List ℕ → Type 0) (f : Fault) → too_long most file ≡ some f
    → (most < length file → C 2 file)
    → Found file C f
unfolding too_long
long-cause most file C f e c =
    let (test, is) = given-found (ltb most (length file)) (record { number = 2; start = 0; size = length file }) f e in
    rw is (record { within = omega arith; cause = rw (take-length file) (c (ltb-true _ _ test)) })

-- the fault of a pair, in the file at fault
abbrev pub FoundIn : List ℕ → List ℕ → Blamed → Type 0
FoundIn m t (model f) = Found m (Cause m t 0) f
FoundIn m t (trace f) = Found t (Cause m t 1) f

module _ (m t : List ℕ) where
  blame-found : (blame : Fault → Blamed) (x : Option Fault) (b : Blamed) → map blame x ≡ some b
      → ((f : Fault) → x ≡ some f → FoundIn m t (blame f)) → FoundIn m t b
  blame-found blame none b e h = absurd (none-ne-some b e)
  blame-found blame (some f) b e h = subst (FoundIn m t) (some-injective (blame f) b e) (h f refl)

  -- a cause in one file, with what comes before it, is one for the pair
  found_in : {file : List ℕ} {C D : ℕ → List ℕ → Type 0} {f : Fault} → Found file C f
      → ((k : ℕ) (bytes : List ℕ) → C k bytes → D k bytes) → Found file D f
  found_in found h = record { within = found.within; cause = h _ _ found.cause }

  heads-cause : (b : Blamed) → heads_fault m t ≡ some b → FoundIn m t b
  unfolding heads_fault
  heads-cause b e =
      ⊎_elim (λ e. blame-found model _ b e (λ f e. long-cause model_bytes m (Cause m t 0) f e Cause.long-model))
      (λ (n₁, e).
      let m-size = not-long model_bytes m ((map-eq-none_iff model _).0 n₁) in
      ⊎_elim (λ e. blame-found trace _ b e (λ f e. long-cause trace_bytes t (Cause m t 1) f e (Cause.long-trace m-size)))
      (λ (n₂, e).
      let t-size = not-long trace_bytes t ((map-eq-none_iff trace _).0 n₂) in
      let right : RightSizes m t = record { model = m-size; trace = t-size } in
      ⊎_elim
      (λ e. blame-found model _ b e
      (λ f e. version-cause model_versions m (Cause m t 0) f e (Cause.version-model right)))
      (λ (n₃, e). blame-found trace _ b e
      (λ f e. version-cause trace_versions t (Cause m t 1) f e
      (Cause.version-trace right (starts model_versions m ((map-eq-none_iff model _).0 n₃)))))
      (either-found _ _ b e)) (either-found _ _ b e)) (either-found _ _ b e)

  -- Where nothing is found in the heads they are right.
  pub right-heads : heads_fault m t ≡ none → RightHeads m t
  unfolding heads_fault
  right-heads e =
      let (e₁, r₁) = file_then model (too_long model_bytes m) _ e in
      let (e₂, r₂) = file_then trace (too_long trace_bytes t) _ r₁ in
      let (e₃, r₃) = file_then model (wrong_version model_version m) _ r₂ in
      record {
        sizes = record { model = not-long model_bytes m e₁; trace = not-long trace_bytes t e₂ };
        model = starts model_versions m e₃;
        trace = starts trace_versions t ((map-eq-none_iff trace _).0 r₃);
      }

  -- Where nothing is found in the model either, that is right too.
  pub right_files : files_fault m t ≡ none → RightHeads m t × RightModel m
  unfolding files_fault
  right_files e =
      let (heads, shape) = neither (heads_fault m t) _ e in
      (right-heads heads, right-model m ((map-eq-none_iff model _).0 shape))

  -- The fault of a pair has its cause, and its bytes are a part of the file at fault.
  pub pair_cause : (b : Blamed) → pair_fault m t ≡ some b → FoundIn m t b
  unfolding pair_fault files_fault
  pair_cause b e =
      ⊎_elim
      (λ e. ⊎_elim (heads-cause b)
      (λ (fine, e).
      let heads = right-heads fine in
      blame-found model _ b e
      (λ f e. found_in (model-cause m (starts-byte _ m heads.model) f e) (λ k bytes c. Cause.in_model_lem heads c)))
      (either-found _ _ b e))
      (λ (fine, e).
      let (heads, right) = right_files fine in
      blame-found trace _ b e
      (λ f e.
      found_in (trace-cause m t (starts-byte _ t heads.trace) f e) (λ k bytes c. Cause.in_trace_lem heads right c)))
      (either-found _ _ b e)

-- ---- the numbers

pub model-within : {m : List ℕ} {k : ℕ} {bytes : List ℕ} → ModelCause m k bytes → Within k
model-within (ModelCause.unfit r in_model_lem before h) = Within.shape
model-within (ModelCause.wrong r in_model_lem before fit n there earlier w least) = wrong-within _ r _ _ _ _ w
model-within (ModelCause.after right h) = Within.shape

within_refusing : {k : ℕ} → Within k → Refusing k × (k ≡ 8 → ⊥)
within_refusing Within.shape = (inl (omega arith, omega arith), λ e. omega arith)
within_refusing Within.count = (inl (omega arith, omega arith), λ e. omega arith)
within_refusing Within.fact = (inl (omega arith, omega arith), λ e. omega arith)
within_refusing Within.name = (inr (inl refl), λ e. omega arith)
within_refusing Within.order = (inl (omega arith, omega arith), λ e. omega arith)
within_refusing Within.formula = (inr (inr refl), λ e. omega arith)

-- The number of a cause is one of 2 to 9, 12 or 17, and never 8.
pub cause_range : {m t : List ℕ} {mark k : ℕ} {bytes : List ℕ} → Cause m t mark k bytes → Refusing k × (k ≡ 8 → ⊥)
cause_range (Cause.long-model h) = (inl (omega arith, omega arith), λ e. omega arith)
cause_range (Cause.long-trace h l) = (inl (omega arith, omega arith), λ e. omega arith)
cause_range (Cause.version-model h s) = (inl (omega arith, omega arith), λ e. omega arith)
cause_range (Cause.version-trace h s v) = (inl (omega arith, omega arith), λ e. omega arith)
cause_range (Cause.in_model_lem h c) = within_refusing (model-within c)
cause_range (Cause.in_trace_lem h r c) = trace_range c
  where
    trace_range : {m t : List ℕ} {k : ℕ} {bytes : List ℕ} → TraceCause m t k bytes → Refusing k × (k ≡ 8 → ⊥)
    trace_range (TraceCause.unfit h) = (inl (omega arith, omega arith), λ e. omega arith)
    trace_range (TraceCause.ragged h r) = (inl (omega arith, omega arith), λ e. omega arith)
    trace_range (TraceCause.after h r l) = (inl (omega arith, omega arith), λ e. omega arith)
    trace_range (TraceCause.count r h) = (inl (omega arith, omega arith), λ e. omega arith)
    trace_range (TraceCause.goal r h l s w) = (inl (omega arith, omega arith), λ e. omega arith)
    trace_range (TraceCause.step r h g i l b n s w) = (inl (omega arith, omega arith), λ e. omega arith)

-- ---- a model by itself

-- Its fault is its size, its version, or a cause of 4 to 7, 12 or 17.
pub alone-cause : (m : List ℕ) (C : ℕ → Type 0) → (65536 < length m → C 2)
    → (length m ≤ 65536 → (ModelStarts m → ⊥) → C 3)
    → ((k : ℕ) (bytes : List ℕ) → length m ≤ 65536 → ModelStarts m → ModelCause m k bytes → C k)
    → (f : Fault) → model_fault m ≡ some f → C f.number
unfolding model_fault
alone-cause m C long version wrong f e =
    ⊎_elim (λ e. (long-cause model_bytes m (λ k _. C k) f e long).cause)
    (λ (short, e).
    let size = not-long model_bytes m short in
    ⊎_elim (λ e. (version-cause model_versions m (λ k _. C k) f e (version size)).cause)
    (λ (known, e).
    let first = starts model_versions m known in
    wrong _ _ size first (model-cause m (starts-byte _ m first) f e).cause)
    (either-found (wrong_version model_version m) _ f e)) (either-found (too_long model_bytes m) _ f e)

-- The number is one of 2 to 9, 12 or 17, and never 8.
pub model-fault_range : (m : List ℕ) (f : Fault) → model_fault m ≡ some f
    → Refusing f.number × (f.number ≡ 8 → ⊥)
model-fault_range m =
    alone-cause m (λ k. Refusing k × (k ≡ 8 → ⊥)) (λ _. (inl (omega arith, omega arith), λ e. omega arith))
    (λ _ _. (inl (omega arith, omega arith), λ e. omega arith)) (λ _ _ _ _ c. within_refusing (model-within c))

-- ---- a right pair

-- A pair without a fault is right.
pub right_pair : (m t : List ℕ) → pair_fault m t ≡ none → RightPair m t
unfolding pair_fault
right_pair m t e =
    let (heads, shape) = right_files m t (neither (files_fault m t) _ e).0 in
    let fine = (fine_pair m t e).trace in
    let (right, few) = trace-right _ _ m t fine in
    record {
      heads = heads;
      model = shape;
      trace = right;
      count = few;
      goal = trace-goal-known _ _ t fine;
      rules = trace-step-known _ _ t fine;
    }
