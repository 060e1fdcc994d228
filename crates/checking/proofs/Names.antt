-- What document 02's wish 9 promises of a verdict (specs/Promises), proved: which names are made and left, when 13 is
-- given, and that a model without names knows nothing of them.
use Prim.Native.Nat.{ℕ, ◌+◌, ◌*◌, ◌<◌, zero-le}
use mathlib.Core.Path.{◌≡◌, refl, sym, ap, subst, ◌∙◌}
use mathlib.Core.Logic.{◌↔◌, ◌⊎◌, inl, inr, ⊎_elim}
use mathlib.Core.Bool.{false}
use mathlib.Core.List.{List}
use native.Mathlib.Omega.{arith}
use lib.Dec.{T}
use lib.ListN.{get_or, take}
use lib.Seq.{take-length}
use Rattle.sets.specs.Sets.{size, ◌∈◌}
use Rattle.sets.proofs.Laws.{is_false, listed-is}
use Rattle.meaning.specs.Model.{start}
use Rattle.meaning.specs.Run.{Outcome}
use Rattle.meaning.specs.Run.Condition.{unused}
use Rattle.meaning.specs.Run.Ending.{blocked}
use Rattle.meaning.specs.Published.{Path, earlier}
use Rattle.meaning.specs.Promises.{Makes, Nameless, rounds_on}
use Rattle.meaning.specs.Promises.EndsSo.{blocked as so-blocked}
use Rattle.meaning.proofs.Theorems.{closure-is-HC, is-run, start-not-made, made-once, names-left}
use Rattle.meaning.proofs.Theorems.{nameless_empty, nameless_not_used}
use Rattle.facts.proofs.Byte.{on_none, same_bits}
use Rattle.facts.proofs.Laws.{Bytes, members-at}
use Rattle.files.specs.Files.{model_of_lem, trace_of}
use Rattle.files.proofs.Laws.{none_named, none_made}
use Rattle.causes.proofs.Versions.{no_badname}
use Rattle.stepping.specs.Conditions.{stop_number, fact_in, names_in}
use Rattle.reaching.specs.Reaching.{Lent}
use Rattle.running.specs.Outcomes.{number_of, fact_of, outcome, ran}
use Rattle.checking.specs.Verdict.{Checked}
use Rattle.checking.specs.Promises.{verdict, WellFormed, FreshSteps, UsedAt}
use Rattle.running.specs.declared.Verdict.{Verdict}
use Rattle.checking.proofs.Theorems.{first-not-met, left, ran-formed, numbers, values, kinds}

module _ {m t : List ℕ} {l : Lent} (w : WellFormed m t l) where
  -- The step that is named is the outcome's.
  step_is : (verdict m t l).step ≡ (outcome m t).step
  unfolding ran
  step_is = ap (λ (v : Verdict). v.step) (first-not-met w).1

  -- No two steps that fired make the same name, and none makes one in use at the start.
  pub fired-fresh : FreshSteps (model_of_lem m) (take (verdict m t l).step (trace_of t).steps)
  unfolding start
  fired-fresh = rw step_is (record {
    once = λ n i j x y. made-once (first-not-met w).0.path x y;
    start = λ n i k x. start-not-made (first-not-met w).0.path ((listed-is (model_of_lem m).names n).1 k) i x;
  })

  module _ {after : Lent} {v : Verdict} (checked : Checked m t l after v) where
    -- The name bytes left hold the names in use at the start and those made by the steps that fired, and no others.
    pub names-held : (n : ℕ) → T (names_in after.names n)
        ↔ ((n ∈ (model_of_lem m).names) ⊎ ((i : ℕ) × Makes (model_of_lem m) (take v.step (trace_of t).steps) i n))
    names-held n =
        let step = ap (λ (v : Verdict). v.step) checked.verdict ∙ step_is in
        rw ((left w checked).names n, step) (names-left (first-not-met w).0 n)

    -- A model without names leaves none.
    pub no_names-held : Nameless (model_of_lem m) → (n : ℕ) → names_in after.names n ≡ false
    no_names-held nameless n = (left w checked).names n ∙ is_false (nameless_empty nameless (first-not-met w).0 n)

    -- Its bytes are zeros.
    pub zero-names : Nameless (model_of_lem m) → Bytes after.names → (i : ℕ) → i < 128 → get_or after.names i 0 ≡ 0
    zero-names nameless bytes i h =
        same_bits _ 0 (bytes i) (omega arith)
        (λ k hk.
        sym (members-at 128 after.names i k h hk) ∙ no_names-held nameless (i * 8 + k)
        ∙ sym (on_none 0 0 k refl zero-le))

  -- Where 13 is given, the step and the name are such.
  used_at : (verdict m t l).number ≡ 13 → UsedAt m t (verdict m t l).step (verdict m t l).fact
  used_at e = record {
    there = (values m t l).blocked (inr e);
    state = (outcome m t).state;
    path =
        subst (λ k. Path (model_of_lem m) (start (model_of_lem m)) (take k (trace_of t).steps) (outcome m t).state) (sym step_is)
        (first-not-met w).0.path;
    first = (kinds m t l).of_name e;
  }

  module _ {i n : ℕ} (u : UsedAt m t i n) where
    -- the outcome where a step can't fire for a name
    abbrev stopped : Outcome
    stopped = record {
      ending = blocked (unused n);
      step = i;
      rounds = rounds_on u.path;
      held = size u.state.facts (model_of_lem m).F;
      past = earlier u.path;
      state = u.state;
    }

    -- It is the trace's,
    stopped-is : stopped ≡ outcome m t
    unfolding outcome
    stopped-is = is-run (model_of_lem m) (trace_of t) (record {
      path = u.path;
      ends = so-blocked (unused n) refl u.there _ (closure-is-HC (model_of_lem m).clauses u.state.facts) u.first;
      rounds = refl;
      past = refl;
      held = refl;
    })

    -- and its verdict is 13, with the step and the name.
    used_told : ((verdict m t l).number ≡ 13) × ((verdict m t l).step ≡ i) × ((verdict m t l).fact ≡ n)
    unfolding ran number_of stop_number fact_of fact_in
    used_told =
        let is : verdict m t l ≡ ran m t stopped = (first-not-met w).1 ∙ ap (ran m t) (sym stopped-is) in
        (ap (λ (v : Verdict). v.number) is, ap (λ (v : Verdict). v.step) is, ap (λ (v : Verdict). v.fact) is)

module _ (m t : List ℕ) (l : Lent) where
  -- Where all steps fire, no two steps of the trace make the same name, and none makes one in use at the start.
  pub all-fresh : ((verdict m t l).number ≡ 0) ⊎ ((verdict m t l).number ≡ 11)
      → FreshSteps (model_of_lem m) (trace_of t).steps
  all-fresh e =
      let w = ran-formed m t l (⊎_elim (λ q. inl q) (λ q. inr (inl q)) e) in
      let whole = ap (λ k. take k (trace_of t).steps) ((values m t l).ended e) ∙ take-length (trace_of t).steps in
      subst (FreshSteps (model_of_lem m)) whole (fired-fresh w)

  -- 13 is given, with a step and a name, exactly if the pair is well_formed, the step is the first that can't fire, and
  -- the name is its first used one, all of P being in the closure and none of N.
  pub used_exactly : (i n : ℕ)
      → (((verdict m t l).number ≡ 13) × ((verdict m t l).step ≡ i) × ((verdict m t l).fact ≡ n))
      ↔ (WellFormed m t l × UsedAt m t i n)
  used_exactly i n = (
    λ (e, s, f). let w = ran-formed m t l (inr (inr (inr e))) in (w, rw (← s, ← f) (used_at w e)),
    λ (w, u). used_told w u,
  )

  -- It is never given for a model without names.
  pub never_used : Nameless (model_of_lem m) → (verdict m t l).number ≡ 13 → ⊥
  never_used nameless e =
      let w = ran-formed m t l (inr (inr (inr e))) in
      nameless_not_used nameless (first-not-met w).0 _
      (ap (λ (o : Outcome). o.ending) (sym (stopped-is w (used_at w e))))

  -- For a model of version 1 or 2 neither 12 nor 13 is ever given.
  pub old-never : get_or m 0 0 < 3 → ((verdict m t l).number ≡ 12 → ⊥) × ((verdict m t l).number ≡ 13 → ⊥)
  old-never old = (
    λ e. let (_, (_, _, c)) = ((numbers m t l).fault 12 (inr (inl refl))).0 e in no_badname m old refl c,
    never_used (record { start = none_named m old; rules = none_made m old }),
  )
