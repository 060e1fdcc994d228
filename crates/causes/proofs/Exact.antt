-- A pair has no fault exactly if it is right, and its fault has a number exactly if that number's cause is there.
use Prim.Native.Nat.{ℕ, ◌≤◌, ◌<◌}
use mathlib.Core.Path.{◌≡◌, refl, sym, ◌∙◌, subst}
use mathlib.Core.Logic.{◌↔◌, ◌⊎◌, inl, inr, ⊎_elim}
use mathlib.Core.List.{List}
use mathlib.Core.Option.{Option, none, some}
use native.Mathlib.Omega.{arith}
use lib.ListN.{length}
use Rattle.sets.proofs.Laws.{below_or_from}
use Rattle.sections.specs.Sections.{too_long, wrong_version}
use Rattle.sections.specs.declared.Role.{Role}
use Rattle.sections.proofs.Fits.{neither}
use Rattle.files.specs.Files.{Blamed, tag, place_of_role, trace_of, model_bytes, trace_bytes, model_version, trace_version}
use Rattle.files.specs.Files.{model_fault, heads_fault, files_fault, pair_fault}
use Rattle.files.specs.Files.Blamed.{model, trace}
use Rattle.files.specs.Answers.{blamed_number}
use Rattle.causes.specs.Causes.{Fits, WrongIn, RightSection, ModelCause, RightModel, RightTrace, TraceCause}
use Rattle.files.specs.Files.{There}
use Rattle.causes.specs.Causes.{turn, RightBefore, ModelStarts, RightSizes, RightHeads, Cause, RightPair}
use Rattle.files.proofs.Roles.{same-role}
use Rattle.files.proofs.Traces.{not-long}
use Rattle.causes.proofs.Wrong.{wrong-within, one-turn}
use Rattle.causes.proofs.ModelCauses.{right-model}
use Rattle.causes.proofs.Causes.{model_versions, trace_versions, starts, version-cause, long-cause, right_files}
use Rattle.causes.proofs.Causes.{pair_cause, alone-cause, right_pair}

-- Where a fault can't be, there is none.
unfound : {A : Type 0} (found : Option A) → ((f : A) → found ≡ some f → ⊥) → found ≡ none
unfound none h = refl
unfound (some f) h = absurd (h f refl)

-- ---- right or not

-- A right model has no cause,
pub model-right : {m : List ℕ} {k : ℕ} {bytes : List ℕ} → RightModel m → ModelCause m k bytes → ⊥
model-right right (ModelCause.unfit r in_model_lem before short) = short (right.sections r in_model_lem).fits
model-right right (ModelCause.wrong {k} r in_model_lem before fit n there earlier w least) =
    (right.sections r in_model_lem).records n there k w
model-right right (ModelCause.after sections more) = omega (arith, right.ends)

-- and neither has a right pair.
pub cause-right : {m t : List ℕ} {mark k : ℕ} {bytes : List ℕ} → RightPair m t → Cause m t mark k bytes → ⊥
cause-right right (Cause.long-model h) = omega (arith, right.heads.sizes.model)
cause-right right (Cause.long-trace h l) = omega (arith, right.heads.sizes.trace)
cause-right right (Cause.version-model h other) = other right.heads.model
cause-right right (Cause.version-trace h s other) = other right.heads.trace
cause-right right (Cause.in_model_lem h c) = model-right right.model c
cause-right right (Cause.in_trace_lem h r c) = trace-right right c
  where
    trace-right : {m t : List ℕ} {k : ℕ} {bytes : List ℕ} → RightPair m t → TraceCause m t k bytes → ⊥
    trace-right right (TraceCause.unfit short) = short right.trace.fits
    trace-right right (TraceCause.ragged fit r) = right.trace.shape r
    trace-right right (TraceCause.after fit shape more) = omega (arith, right.trace.ends)
    trace-right right (TraceCause.count t many) = omega (arith, right.count)
    trace-right right (TraceCause.goal t few lacks size is) = omega (arith, right.goal)
    trace-right right (TraceCause.step t few known i there before lacks size is) = omega (arith, right.rules i there)

-- ---- one number

-- one of two numbers is smaller, or they are equal
one_of : (a b : ℕ) → (a < b → ⊥) → (b < a → ⊥) → a ≡ b
one_of a b low high =
    ⊎_elim (λ h. absurd (low h)) (λ h. ⊎_elim (λ l. absurd (high l)) (λ l. omega arith) (below_or_from b a))
    (below_or_from a b)

module _ (m : List ℕ) where
  -- the first section that isn't right is one section
  one-role : (r q : Role) → There m r → There m q → RightBefore m r → RightBefore m q
      → (RightSection m r → ⊥) → (RightSection m q → ⊥) → r ≡ q
  one-role r q there-r there-q before-r before-q wrong-r wrong-q =
      same-role r q
      (one_of (tag r) (tag q) (λ h. wrong-r (before-q r there-r h)) (λ h. wrong-q (before-r q there-q h)))

  -- what is wrong first with a section that fits has one number
  one-wrong : (r : Role) {k j : ℕ} (n i : ℕ) → ((a b : ℕ) → a < n → WrongIn m r a b → ⊥)
      → ((a b : ℕ) → a < i → WrongIn m r a b → ⊥)
      → WrongIn m r n k → WrongIn m r i j → ((b : ℕ) → turn b < turn k → WrongIn m r n b → ⊥)
      → ((b : ℕ) → turn b < turn j → WrongIn m r i b → ⊥)
      → k ≡ j
  one-wrong r {k} {j} n i before-n before-i w v least-k least-j =
      let same : n ≡ i = one_of n i (λ h. before-i n k h w) (λ h. before-n i j h v) in
      let w' : WrongIn m r i k = subst (λ a. WrongIn m r a k) same w in
      let v' : WrongIn m r n j = subst (λ a. WrongIn m r a j) (sym same) v in
      one-turn (wrong-within _ r _ _ _ k w) (wrong-within _ r _ _ _ j v)
      (one_of (turn k) (turn j) (λ h. least-j k h w') (λ h. least-k j h v'))

  pub model-number : {k j : ℕ} {x y : List ℕ} → ModelCause m k x → ModelCause m j y → k ≡ j
  model-number (ModelCause.unfit r in-r before short) (ModelCause.unfit q in-q before-q short-q) = refl
  model-number (ModelCause.unfit r in-r before short) (ModelCause.after right more) = refl
  model-number (ModelCause.after right more) (ModelCause.unfit q in-q before short) = refl
  model-number (ModelCause.after right more) (ModelCause.after right-q more-q) = refl
  model-number (ModelCause.after right more) (ModelCause.wrong {k} q in-q before fit n there earlier w least) =
      absurd ((right q in-q).records n there k w)
  model-number (ModelCause.wrong {k} r in-r before fit n there earlier w least) (ModelCause.after right more) =
      absurd ((right r in-r).records n there k w)
  model-number (ModelCause.unfit r in-r before short)
      (ModelCause.wrong {k} q in-q before-q fit n there earlier w least) =
      let wrong : RightSection m q → ⊥ = λ right. right.records n there k w in
      let same : r ≡ q = one-role r q in-r in-q before before-q (λ right. short right.fits) wrong in
      absurd (subst (λ r. Fits m (place_of_role m r) → ⊥) same short fit)
  model-number (ModelCause.wrong {k} q in-q before-q fit n there earlier w least)
      (ModelCause.unfit r in-r before short) =
      let wrong : RightSection m q → ⊥ = λ right. right.records n there k w in
      let same : r ≡ q = one-role r q in-r in-q before before-q (λ right. short right.fits) wrong in
      absurd (subst (λ r. Fits m (place_of_role m r) → ⊥) same short fit)
  model-number (ModelCause.wrong {k} r in-r before-r fit-r n there-r earlier w least)
      (ModelCause.wrong {k = j} q in-q before-q fit-q i there-q earlier-q v least-q) =
      let wrong-r : RightSection m r → ⊥ = λ right. right.records n there-r k w in
      let wrong-q : RightSection m q → ⊥ = λ right. right.records i there-q j v in
      let same : r ≡ q = one-role r q in-r in-q before-r before-q wrong-r wrong-q in
      one-wrong q n i (subst (λ r. (a b : ℕ) → a < n → WrongIn m r a b → ⊥) same earlier) earlier-q
      (subst (λ r. WrongIn m r n k) same w) v
      (subst (λ r. (b : ℕ) → turn b < turn k → WrongIn m r n b → ⊥) same least) least-q

-- ---- the trace and the pair

-- at most one number has the property
abbrev One : (ℕ → Type 0) → Type 0
One P = (k j : ℕ) → P k → P j → k ≡ j

-- the number of one thing that is wrong
one_fixed : (n : ℕ) (R : Type 0) → One (λ k. (k ≡ n) × (R → ⊥))
one_fixed n R k j (p, _) (q, _) = p ∙ sym q

-- the number of what comes first, or, where that is right, of what comes next
one_then : (R : Type 0) (P Q : ℕ → Type 0) → ((k : ℕ) → P k → R → ⊥) → One P → One Q → One (λ k. P k ⊎ (R × Q k))
one_then R P Q wrong one-p one-q k j (inl p) (inl p') = one-p k j p p'
one_then R P Q wrong one-p one-q k j (inl p) (inr (r, q)) = absurd (wrong k p r)
one_then R P Q wrong one-p one-q k j (inr (r, q)) (inl p) = absurd (wrong j p r)
one_then R P Q wrong one-p one-q k j (inr (r, q)) (inr (r', q')) = one-q k j q q'

module _ (m t : List ℕ) where
  abbrev Few : Type 0
  Few = length (trace_of t).steps ≤ 1024

  -- 4, then 5, then 9 for the trace
  abbrev InTrace : ℕ → Type 0
  InTrace k = ((k ≡ 4) × (RightTrace t → ⊥)) ⊎ (RightTrace t × (((k ≡ 5) × (Few → ⊥)) ⊎ (Few × (k ≡ 9))))

  in_trace_lem : {k : ℕ} {bytes : List ℕ} → TraceCause m t k bytes → InTrace k
  in_trace_lem (TraceCause.unfit short) = inl (refl, λ right. short right.fits)
  in_trace_lem (TraceCause.ragged fit r) = inl (refl, λ right. right.shape r)
  in_trace_lem (TraceCause.after fit shape more) = inl (refl, λ right. omega (arith, right.ends))
  in_trace_lem (TraceCause.count right many) = inr (right, inl (refl, λ few. omega arith))
  in_trace_lem (TraceCause.goal right few lacks size is) = inr (right, inr (few, refl))
  in_trace_lem (TraceCause.step right few known i there before lacks size is) = inr (right, inr (few, refl))

  -- 2, then 3, then those of the model, then those of the trace
  abbrev InPair : ℕ → Type 0
  InPair k = ((k ≡ 2) × (RightSizes m t → ⊥)) ⊎ (RightSizes m t × (((k ≡ 3) × (RightHeads m t → ⊥))
      ⊎ (RightHeads m t × (((bytes : List ℕ) × ModelCause m k bytes) ⊎ (RightModel m × InTrace k)))))

  in_pair : {mark k : ℕ} {bytes : List ℕ} → Cause m t mark k bytes → InPair k
  in_pair (Cause.long-model h) = inl (refl, λ right. omega (arith, right.model))
  in_pair (Cause.long-trace h l) = inl (refl, λ right. omega (arith, right.trace))
  in_pair (Cause.version-model sizes other) = inr (sizes, inl (refl, λ right. other right.model))
  in_pair (Cause.version-trace sizes s other) = inr (sizes, inl (refl, λ right. other right.trace))
  in_pair (Cause.in_model_lem heads c) = inr (heads.sizes, inr (heads, inl (_, c)))
  in_pair (Cause.in_trace_lem heads right c) = inr (heads.sizes, inr (heads, inr (right, in_trace_lem c)))

  one-trace : One InTrace
  one-trace =
      one_then (RightTrace t) _ _ (λ k p. p.1) (one_fixed 4 (RightTrace t))
      (one_then Few _ _ (λ k p. p.1) (one_fixed 5 Few) (λ k j p q. p ∙ sym q))

  one_pair : One InPair
  one_pair =
      one_then (RightSizes m t) _ _ (λ k p. p.1) (one_fixed 2 (RightSizes m t))
      (one_then (RightHeads m t) _ _ (λ k p. p.1) (one_fixed 3 (RightHeads m t))
      (one_then (RightModel m) _ _ (λ k (_, c) right. model-right right c)
      (λ k j (_, c) (_, d). model-number m c d) one-trace))

  -- Causes of one pair have one number.
  pub cause-number : {a b k j : ℕ} {x y : List ℕ} → Cause m t a k x → Cause m t b j y → k ≡ j
  cause-number {k = k} {j = j} c d = one_pair k j (in_pair c) (in_pair d)

  -- the cause of a fault
  some-cause : (b : Blamed) → pair_fault m t ≡ some b
      → (mark : ℕ) × (bytes : List ℕ) × Cause m t mark (blamed_number b) bytes
  unfolding blamed_number
  some-cause (model f) e = (0, _, (pair_cause m t (model f) e).cause)
  some-cause (trace f) e = (1, _, (pair_cause m t (trace f) e).cause)

  -- A pair has no fault exactly if it is right.
  pub right_exactly : (pair_fault m t ≡ none) ↔ RightPair m t
  right_exactly =
      (right_pair m t, λ right. unfound _ (λ b e. let (_, _, c) = some-cause b e in cause-right right c))

  -- Its fault has a number exactly if that number's cause is there.
  pub number_exactly : (k : ℕ) → ((b : Blamed) × (pair_fault m t ≡ some b) × (blamed_number b ≡ k))
      ↔ ((mark : ℕ) × (bytes : List ℕ) × Cause m t mark k bytes)
  number_exactly k = (
    λ (b, e, is). let (mark, bytes, c) = some-cause b e in (mark, bytes, rw is at c),
    λ (mark, bytes, c). go c (pair_fault m t) refl,
  )
    where
      go : {mark : ℕ} {bytes : List ℕ} → Cause m t mark k bytes → (found : Option Blamed) → pair_fault m t ≡ found
          → (b : Blamed) × (pair_fault m t ≡ some b) × (blamed_number b ≡ k)
      go c none e = absurd (cause-right (right_pair m t e) c)
      go c (some b) e = let (_, _, d) = some-cause b e in (b, e, cause-number d c)

-- ---- a model by itself

-- A model by itself has no fault exactly if it is not over its size, starts with a version and is right.
pub model_exactly : (m : List ℕ) → (model_fault m ≡ none) ↔ ((length m ≤ 65536) × ModelStarts m × RightModel m)
unfolding model_fault
model_exactly m = (
  λ e.
      let (short, rest) = neither (too_long model_bytes m) _ e in
      let (version, shape) = neither (wrong_version model_version m) _ rest in
      (not-long model_bytes m short, starts model_versions m version, right-model m shape),
  λ (short, first, right).
      unfound _
      (alone-cause m (λ _. ⊥) (λ h. omega arith) (λ _ other. other first) (λ _ _ _ _ c. model-right right c)),
)

-- ---- both files, before the trace's own numbers

-- Sizes, versions and the model have no fault exactly if they are right.
pub files_exactly : (m t : List ℕ) → (files_fault m t ≡ none) ↔ (RightHeads m t × RightModel m)
unfolding files_fault heads_fault model_fault
files_exactly m t = (
  right_files m t,
  λ (heads, right).
      let alone = (model_exactly m).1 (heads.sizes.model, heads.model, right) in
      let (short, rest) = neither (too_long model_bytes m) _ alone in
      let (version, shape) = neither (wrong_version model_version m) _ rest in
      let trace-short : too_long trace_bytes t ≡ none =
      unfound _ (λ f e. (long-cause trace_bytes t (λ _ _. ⊥) f e (λ h. omega (arith, heads.sizes.trace))).cause) in
      let trace-version : wrong_version trace_version t ≡ none =
      unfound _ (λ f e. (version-cause trace_versions t (λ _ _. ⊥) f e (λ other. other heads.trace)).cause) in
      rw (short, trace-short, version, trace-version, shape),
)
