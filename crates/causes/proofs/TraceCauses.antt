-- Every fault of a trace has its cause (specs/Causes), and a trace without a fault is right.
use Prim.Native.Nat.{ℕ, zero, suc, ◌+◌, ◌*◌, ◌≤◌, ◌<◌}
use mathlib.Core.Path.{◌≡◌, refl, sym, ap, ◌∙◌, subst}
use mathlib.Core.Logic.{inl, inr, ⊎_elim}
use mathlib.Core.Bool.{Bool, true, false, ◌||◌}
use mathlib.Core.List.{List, ◌∷◌}
use mathlib.Core.Option.{Option, none, some, none-ne-some}
use native.Mathlib.Omega.{arith}
use borrow.Author.Tests.{leb-true, leb-false, ltb-true, ltb-false}
use lib.Dec.{ltb}
use lib.ListN.{length, take, drop, get_or}
use lib.Seq.{take-length}
use Rattle.sets.specs.Sets.{first}
use Rattle.sets.proofs.Laws.{is_true, passes, either, below_or_from, first_hit, first-before}
use Rattle.meaning.specs.Model.{aims}
use Rattle.records.specs.Words.{word, words, odd}
use Rattle.records.specs.Refusals.{Fault}
use Rattle.records.proofs.Words.{words-two, length-words, odd-length, even-length}
use Rattle.records.proofs.Judging.{or_clear}
use Rattle.sections.specs.Sections.{end_at, section_at, fits, payload, in_section, left_over, all_of}
use Rattle.sections.proofs.Fits.{neither, not-given, section-fine, nothing_left}
use Rattle.files.specs.Files.{entries_of, model_of_lem, trace_of, trace_shape, trace_count}
use Rattle.files.specs.Files.{lacks, trace_names, trace_fault}
use Rattle.causes.specs.Causes.{Ragged, RightTrace, TraceCause}
use Rattle.causes.proofs.Found.{either-found, given-found, Found, rest-found, moved-found, section-found}
use Rattle.causes.proofs.Found.{fits-is, unfit-is}
use Rattle.files.proofs.Order.{all-fine}
use Rattle.causes.proofs.Named.{entry-word}

-- A number for all of some bytes has its cause where the number has it.
all_found : (number : Option ℕ) (bytes : List ℕ) (C : ℕ → List ℕ → Type 0) (g : Fault) → all_of number bytes ≡ some g
    → ((k : ℕ) → number ≡ some k → C k bytes) → Found bytes C g
unfolding all_of
all_found none bytes C g e c = absurd (none-ne-some g e)
all_found (some k) bytes C g e c =
    let is : g ≡ record { number = k; start = 0; size = length bytes } = cc in
    rw is (record { within = omega arith; cause = rw (take-length bytes) (c k refl) })

-- In a section that fits, the fault is what its reader finds.
fit_found : (find : List ℕ → Option Fault) (file : List ℕ) (at : ℕ) (C : ℕ → List ℕ → Type 0) (f : Fault)
    → fits file at ≡ true
    → in_section find file at ≡ some f → ((g : Fault) → find (payload file at) ≡ some g → Found (payload file at) C g)
    → Found file C f
fit_found find file at C f fit e inside =
    ⊎_elim
    (λ (short, is). let z : true ≡ false = sym fit ∙ short in let o : ◌≡◌ {A = ℕ} 0 1 = cc in absurd (omega arith))
    (λ (_, g, found, is). moved-found file at fit C is (inside g found))
    (section-found find file at f e)

-- the test of a trace's shape
ragged-is : (bytes : List ℕ) → (odd bytes || ltb (length bytes) 2) ≡ true → Ragged bytes
unfolding Ragged
ragged-is bytes e =
    ⊎_elim (λ h. inr (odd-length bytes (is_true h))) (λ h. inl (ltb-true _ _ (is_true h)))
    ((either (odd bytes) (ltb (length bytes) 2)).0 (passes e))

even_is : (bytes : List ℕ) → (odd bytes || ltb (length bytes) 2) ≡ false → Ragged bytes → ⊥
unfolding Ragged
even_is bytes e r =
    let (even, long) = or_clear (odd bytes) (ltb (length bytes) 2) e in
    let two : 2 ≤ length bytes = ltb-false _ _ long in
    ⊎_elim (λ h. omega arith) (λ h. omega (arith, even-length bytes even)) r

-- the numbers after the first two bytes are one fewer
two-words : (bytes : List ℕ) → 2 ≤ length bytes → length (words bytes) ≡ suc (length (words (drop 2 bytes)))
two-words bytes h = ap length (words-two bytes h)

module _ (m t : List ℕ) where
  -- its section is at fault
  shape-cause : 1 ≤ length t → (f : Fault) → in_section trace_shape t 1 ≡ some f → Found t (TraceCause m t) f
  unfolding entries_of section_at trace_shape
  shape-cause some_byte f e =
      ⊎_elim
      (λ (short, is). rest-found t (TraceCause m t) 1 is some_byte (TraceCause.unfit (unfit-is t 1 short)))
      (λ (fit, g, found, is). moved-found t 1 fit (TraceCause m t) is
      (all_found _ (payload t 1) (TraceCause m t) g found
      (λ k h.
      let (test, four) = given-found _ _ k h in
      rw four (TraceCause.ragged (fits-is t 1 fit) (ragged-is _ test)))))
      (section-found trace_shape t 1 f e)

  module _ (shaped : in_section trace_shape t 1 ≡ none) where
    fit : fits t 1 ≡ true
    fit = (section-fine trace_shape t 1 shaped).0

    even : Ragged (entries_of t) → ⊥
    unfolding entries_of section_at trace_shape
    even = even_is (payload t 1) (not-given _ 4 (all-fine _ (payload t 1) (section-fine trace_shape t 1 shaped).1))

    -- bytes stand after it
    left-cause : (f : Fault) → left_over t (end_at t 1) ≡ some f → Found t (TraceCause m t) f
    unfolding left_over
    left-cause f e =
        let (more, is) = given-found _ _ f e in
        let less : end_at t 1 < length t = ltb-true _ _ more in
        rest-found t (TraceCause m t) (end_at t 1) is (omega arith) (TraceCause.after (fits-is t 1 fit) even less)

    module _ (alone : left_over t (end_at t 1) ≡ none) where
      right-trace : RightTrace t
      right-trace = record { fits = fits-is t 1 fit; shape = even; ends = nothing_left t (end_at t 1) alone }

      two : 2 ≤ length (entries_of t)
      unfolding Ragged
      two = ⊎_elim (λ h. absurd (even (inl h))) (λ h. h) (below_or_from (length (entries_of t)) 2)

      -- the steps are too many
      count-cause : (f : Fault) → in_section trace_count t 1 ≡ some f → Found t (TraceCause m t) f
      unfolding entries_of section_at trace_count trace_of
      count-cause f e =
          fit_found trace_count t 1 (TraceCause m t) f fit e
          (λ g found. all_found _ (payload t 1) (TraceCause m t) g found
          (λ k h.
          let (test, five) = given-found _ _ k h in
          let many : 1 + 1024 < length (words (payload t 1)) = ltb-true _ _ test in
          rw five (TraceCause.count right-trace (omega (arith, two-words (payload t 1) two)))))

      module _ (short : in_section trace_count t 1 ≡ none) where
        few : length (trace_of t).steps ≤ 1024
        unfolding entries_of section_at trace_count trace_of
        few =
            let bytes = payload t 1 in
            let counted : length (words bytes) ≤ 1 + 1024 =
            ltb-false _ _ (not-given _ 5 (all-fine _ bytes (section-fine trace_count t 1 short).1)) in
            omega (arith, two-words bytes two)

        -- an entry names what the model lacks
        abbrev lacks_in : List ℕ → ℕ → Bool
        lacks_in = lacks (length (aims (model_of_lem m))) (length (model_of_lem m).rules)

        entry-cause : (bytes : List ℕ) (i : ℕ) → i < suc (length (trace_of t).steps) → length bytes ≡ 2
            → word bytes ≡ get_or ((trace_of t).goal ∷ (trace_of t).steps) i 0
            → lacks_in ((trace_of t).goal ∷ (trace_of t).steps) i ≡ true
            → ((j : ℕ) → j < i → lacks_in ((trace_of t).goal ∷ (trace_of t).steps) j ≡ false)
            → TraceCause m t 9 bytes
        unfolding lacks
        entry-cause bytes zero l size is here earlier = TraceCause.goal right-trace few (leb-true _ _ here) size is
        entry-cause bytes (suc i) l size is here earlier =
            TraceCause.step right-trace few (leb-false _ _ (earlier 0 (omega arith))) i (omega arith)
            (λ j h. leb-false _ _ (earlier (suc j) (omega arith))) (leb-true _ _ here) size is

        name-cause : (f : Fault)
            → in_section (trace_names (length (aims (model_of_lem m))) (length (model_of_lem m).rules)) t 1 ≡ some f
            → Found t (TraceCause m t) f
        unfolding entries_of section_at trace_names trace_of
        name-cause f e =
            let goals = length (aims (model_of_lem m)) in
            let rules = length (model_of_lem m).rules in
            let bytes = payload t 1 in
            fit_found (trace_names goals rules) t 1 (TraceCause m t) f fit e
            (λ g found.
            let p = lacks goals rules (words bytes) in
            let n = length (words bytes) in
            let i = first p n in
            let (test, is) = given-found (ltb i n) (record { number = 9; start = 2 * i; size = 2 }) g found in
            let there : i < n = ltb-true _ _ test in
            let all : words bytes ≡ (trace_of t).goal ∷ (trace_of t).steps = words-two bytes two in
            let (size, number) = entry-word bytes i there in
            rw is (record {
              within = omega (arith, length-words bytes);
              cause = entry-cause (take 2 (drop (2 * i) bytes)) i (omega (arith, ap length all)) size
                  (number ∙ ap (λ l. get_or l i 0) all)
                  (subst (λ (l : List ℕ). lacks goals rules l i ≡ true) all (first_hit p n there))
                  (λ j h. subst (λ (l : List ℕ). lacks goals rules l j ≡ false) all (first-before p n j h));
            }))

-- The fault of a trace that has a byte has its cause.
pub trace-cause : (m t : List ℕ) → 1 ≤ length t → (f : Fault)
    → trace_fault (length (aims (model_of_lem m))) (length (model_of_lem m).rules) t ≡ some f
    → Found t (TraceCause m t) f
unfolding trace_fault section_at
trace-cause m t h f e =
    ⊎_elim (shape-cause m t h f)
    (λ (shaped, e). ⊎_elim (left-cause m t shaped f)
    (λ (alone, e). ⊎_elim (count-cause m t shaped alone f)
    (λ (short, e). name-cause m t shaped alone short f e)
    (either-found _ _ f e)) (either-found _ _ f e)) (either-found _ _ f e)

-- A trace without a fault is right, and its steps are few enough.
pub trace-right : (goals rules : ℕ) (m t : List ℕ) → trace_fault goals rules t ≡ none
    → RightTrace t × (length (trace_of t).steps ≤ 1024)
unfolding trace_fault section_at
trace-right goals rules m t e =
    let (shaped, after-shape) = neither (in_section trace_shape t 1) _ e in
    let (alone, after-left) = neither (left_over t (end_at t 1)) _ after-shape in
    let (short, _) = neither (in_section trace_count t 1) _ after-left in
    (right-trace m t shaped alone, few m t shaped alone short)
