-- What document 02's wish 11 promises of a verdict on a goal that is a formula (specs/Promises), proved: when 0 and 11
-- are given. That a model of an older version has no formulas is in the files below.
use Prim.Native.Nat.{ℕ}
use mathlib.Core.Path.{◌≡◌, refl, sym, ap, ◌∙◌, subst}
use mathlib.Core.Bool.{true, false}
use mathlib.Core.Logic.{◌↔◌, inl, inr}
use mathlib.Core.List.{List}
use lib.ListN.{length, take}
use lib.Seq.{take-length}
use Rattle.sets.specs.Sets.{size}
use Rattle.meaning.specs.Past.{Formula}
use Rattle.meaning.specs.Model.{State, aim_of, start}
use Rattle.meaning.specs.Model.Aim.{formula}
use Rattle.meaning.specs.Rounds.{closure}
use Rattle.meaning.specs.Run.{Outcome, outcome_of, run}
use Rattle.meaning.specs.Run.Ending.{upheld}
use Rattle.meaning.specs.Published.{Path, AimMet, earlier}
use Rattle.meaning.specs.Promises.{rounds_on, still_true}
use Rattle.meaning.specs.Promises.EndsSo.{not_met as so_not_met}
use Rattle.meaning.proofs.Theorems.{closure-is-HC, is-run}
use Rattle.meaning.proofs.Running.{the_closure, path-past}
use Rattle.files.specs.Files.{model_of_lem, trace_of}
use Rattle.files.proofs.Traces.{pair_goal-known}
use Rattle.reaching.specs.Reaching.{Lent}
use Rattle.running.specs.Outcomes.{number_of, outcome, ran}
use Rattle.checking.specs.Promises.{verdict, WellFormed, FormulaEnds}
use Rattle.running.specs.declared.Verdict.{Verdict}
use Rattle.checking.proofs.Theorems.{first-not-met, accepted_exactly, ran-formed, values, kinds}

module _ (m t : List ℕ) (p : Formula) (is : aim_of (model_of_lem m) (trace_of t).goal ≡ formula p) where
  -- the path of a trace whose steps all fire, by its first steps
  whole : {S : State} → Path (model_of_lem m) (start (model_of_lem m)) (trace_of t).steps S
      → Path (model_of_lem m) (start (model_of_lem m)) (take (length (trace_of t).steps) (trace_of t).steps) S
  whole {S} = subst (λ (ks : List ℕ). Path (model_of_lem m) (start (model_of_lem m)) ks S) (sym (take-length (trace_of t).steps))

  -- the closures before the last state are those of the outcome
  past_is : {S : State} (q : Path (model_of_lem m) (start (model_of_lem m)) (trace_of t).steps S) → (outcome m t).past ≡ earlier q
  unfolding outcome run outcome_of
  past_is q = sym (path-past q)

  module _ (f : FormulaEnds m t p true) where
    -- the outcome where the formula is true
    abbrev kept : Outcome
    kept = record {
      ending = upheld;
      step = length (trace_of t).steps;
      rounds = rounds_on (whole f.path);
      held = size f.last.facts (model_of_lem m).F;
      past = earlier (whole f.path);
      state = f.last;
    }

    same-past : earlier (whole f.path) ≡ earlier f.path
    same-past = path-past (whole f.path) ∙ rw (take-length (trace_of t).steps) (sym (path-past f.path))

    -- It is the trace's.
    kept-is : kept ≡ outcome m t
    unfolding outcome
    kept-is = is-run (model_of_lem m) (trace_of t) (record {
      path = whole f.path;
      ends =
          so_not_met upheld refl refl _ (closure-is-HC (model_of_lem m).clauses f.last.facts)
          (rw (is, same-past) (still_true f.is));
      rounds = refl;
      past = refl;
      held = refl;
    })

  module _ (l : Lent) where
    -- 0 is given exactly if the pair is well_formed, all steps fire, and the formula is false in the last state.
    pub false_exactly : ((verdict m t l).number ≡ 0) ↔ (WellFormed m t l × FormulaEnds m t p false)
    false_exactly =
        let exactly = accepted_exactly m t l in (
          λ e.
              let (w, a) = exactly.0 e in
              let met : AimMet a.met.closure (earlier a.path) (formula p) = rw is at a.met.meets in (
                w,
                record {
                  last = a.last;
                  path = a.path;
                  is = rw (← the_closure (model_of_lem m) a.last a.met.is_hc) met;
                },
              ),
          λ (w, f). exactly.1 (
            w,
            record {
              last = f.last;
              path = f.path;
              met = record {
                goal = pair_goal-known m t w.fine;
                closure = closure (model_of_lem m).clauses f.last.facts;
                is_hc = closure-is-HC (model_of_lem m).clauses f.last.facts;
                meets = rw is f.is;
              };
            },
          ),
        )

    -- 11 is given exactly if the pair is well_formed, all steps fire, and the formula is true in the last state.
    pub true_exactly : ((verdict m t l).number ≡ 11) ↔ (WellFormed m t l × FormulaEnds m t p true)
    unfolding ran number_of
    true_exactly = (
      λ e.
          let w = ran-formed m t l (inr (inl e)) in
          let o = first-not-met w in
          let step : (outcome m t).step ≡ length (trace_of t).steps =
          ap (λ (v : Verdict). v.step) (sym o.1) ∙ (values m t l).ended (inr e) in
          let all = ap (λ k. take k (trace_of t).steps) step ∙ take-length (trace_of t).steps in
          let path =
          subst (λ (ks : List ℕ). Path (model_of_lem m) (start (model_of_lem m)) ks (outcome m t).state) all o.0.path in (
            w,
            record {
              last = (outcome m t).state;
              path = path;
              is =
                  rw (← past_is path)
                  ((kinds m t l).of_formula e p is).3;
            },
          ),
      λ (w, f). ap (λ (v : Verdict). v.number) ((first-not-met w).1 ∙ ap (ran m t) (sym (kept-is f))),
    )
