-- The promise of asking for one fact: from each refusal, from a step that can't fire, and from the last state.
use Prim.Native.Nat.{ℕ, ◌<◌}
use mathlib.Core.Path.{◌≡◌, refl, sym, ap, ap₂, ◌∙◌, fun_ext}
use mathlib.Core.Bool.{true, false}
use mathlib.Core.List.{List, [], ◌∷◌}
use mathlib.Core.Option.{Option, none, some}
use lib.Dec.{leb}
use lib.ListN.{length, get_or}
use Rattle.std.specs.Prelude.{Some, None, Result, Ok, Err}
use Rattle.sets.specs.Sets.{Facts}
use Rattle.sets.proofs.Laws.{by-test}
use Rattle.meaning.specs.Past.{History, truth}
use Rattle.meaning.specs.Model.{Model, Aim, aims, aim_of}
use Rattle.meaning.specs.Model.Aim.{state, formula}
use Rattle.meaning.specs.Run.{Condition, Reached, ending, asked, asked_of, unmet, conditions, run, outcome_of}
use Rattle.meaning.proofs.Early.{shown-asked}
use Rattle.facts.specs.Facts.{members}
use Rattle.records.specs.Records.{given, ◌or_else◌}
use Rattle.files.specs.Files.{model_of_lem, trace_of, fact_count, files_fault, steps_fault}
use Rattle.files.specs.declared.Part.{Part}
use Rattle.files.proofs.Answers.{Blames}
use Rattle.worklist.specs.Working.{WorksFor}
use Rattle.worklist.specs.declared.Worked.{Worked}
use Rattle.closing.specs.Closing.{IndexHolds, Index, no_places_lem}
use Rattle.stepping.specs.Conditions.{condition_of, unmet_in, stop_number}
use Rattle.stepping.specs.declared.conditions.Condition.TheVariants as condition
use Rattle.reaching.specs.Reaching.{Lent}
use Rattle.checking.specs.Verdict.{no_space_lem}
use Rattle.running.specs.Outcomes.{outcome}
use Rattle.reaching.specs.Reaching.{reached, StepsTo}
use Rattle.reaching.specs.declared.Steps.{Steps}
use Rattle.holding.specs.Holding.{holds_refusal, blocked_by, stopped, Buffers, HoldsIn, Asks}
use Rattle.holding.specs.declared.Held.{Held}

-- ---- the steps

-- What is asked of the last state is no step.
asked_open : (A : Aim) (X used : Facts) (h : History) → blocked_by (asked_of A X used h) ≡ none
unfolding asked_of blocked_by
asked_open (state G) X used h = go (unmet X used (conditions G.P G.N [])) refl
  where
    go : (o : Option Condition) → unmet X used (conditions G.P G.N []) ≡ o
        → blocked_by (asked_of (state G) X used h) ≡ none
    go none e = rw (e, asked_of)
    go (some c) e = rw (e, asked_of)
asked_open (formula p) X used h =
    by-test (truth p (X ∷ h)) (λ e. rw (e, asked_of)) (λ e. rw (e, asked_of))

-- The condition for which a step can't fire is the one at which the steps stop.
ending-stop : (M : Model) (g : ℕ) (r : Reached) → blocked_by (ending M g r) ≡ r.stop
unfolding ending asked blocked_by
ending-stop M g r = go r.stop refl
  where
    go : (o : Option Condition) → r.stop ≡ o → blocked_by (ending M g r) ≡ r.stop
    go none e = rw (e, ending) (asked_open (aim_of M g) _ _ _)
    go (some c) e = rw (e, ending)

module _ (m t : List ℕ) where
  pub stop_is : blocked_by (outcome m t).ending ≡ (reached m t).stop
  unfolding outcome run outcome_of reached
  stop_is = ending-stop (model_of_lem m) (trace_of t).goal (reached m t)

  module _ {before after : Lent} {bits : List ℕ} {r : Steps} (s : StepsTo m t before after bits r) (g : ℕ) where
    -- A step can't fire: its number, and all is left as by the check.
    pub asks-blocked : (c : condition.the_data) → r.stop ≡ Some c → {k : ℕ} → k ≡ stop_number (condition_of c)
        → Asks m t g before after (Err k)
    unfolding stopped Buffers outcome run outcome_of reached
    asks-blocked c e is =
        let stop : (reached m t).stop ≡ some (condition_of c) = sym s.stop ∙ ap unmet_in e in
        let by = stop_is ∙ stop in
        record {
          answers = rw (by, is);
          buffers = rw by (record {
            facts = s.facts;
            kept = s.kept;
            names = s.names;
            names-kept = s.names-kept;
            rounds = s.filled (condition_of c) stop;
          });
        }

    -- All steps fire: the last state is closed for the fact.
    pub asks-worked : r.stop ≡ None → g < 4096 → {table : List ℕ} {w : Worked}
        → WorksFor (model_of_lem m).clauses (members after.state) g after.table table w
        → Asks m t g before (record { state = after.state; table = table; names = after.names })
        (Ok (record { round = get_or table g 0; rounds = w.rounds }))
    unfolding stopped Buffers outcome run outcome_of reached
    asks-worked e low {table} {w} worked =
        let stop : (reached m t).stop ≡ none = sym s.stop ∙ ap unmet_in e in
        let by = stop_is ∙ stop in
        let cs = (model_of_lem m).clauses in
        let S = (reached m t).state.facts in
        let same : members after.state ≡ S = fun_ext s.facts in
        let done : WorksFor cs S g after.table table w = rw same at worked in
        record {
          answers = rw by (
              ap₂ (λ n k. Ok (record { round = n; rounds = k })) (done.entries g low ∙ shown-asked cs S g) done.rounds);
          buffers = rw by (record {
            facts = s.facts;
            kept = s.kept;
            names = s.names;
            names-kept = s.names-kept;
            rounds = record {
              as_long = done.as_long ∙ s.as_long;
              entries = done.entries;
              beyond = done.beyond ∙ s.beyond;
            };
          });
        }

-- ---- refusals

module _ (m t : List ℕ) (g : ℕ) (l : Lent) (ix : List ℕ) where
  -- A refusal changes nothing.
  refused : (k : ℕ) → holds_refusal m t g l ix ≡ some k → HoldsIn m t g l l ix ix (Err k)
  unfolding stopped Buffers Index ◌or_else◌
  refused k e = rw e (record { answers = refl; buffers = refl; index = refl })

  -- Without room.
  pub holds-room : no_space_lem l ≡ true → HoldsIn m t g l l ix ix (Err 1)
  unfolding holds_refusal given ◌or_else◌
  holds-room e = refused 1 (rw e)

  module _ (room : no_space_lem l ≡ false) where
    -- For a fault of sizes, versions or the model.
    pub holds_files : {k : ℕ} {p : Part} → Blames (files_fault m t) k p → HoldsIn m t g l l ix ix (Err k)
    unfolding holds_refusal given ◌or_else◌
    holds_files b = rw b.number_is (refused _ (rw (room, b.is)))

    module _ (files : files_fault m t ≡ none) where
      -- Without room for the index.
      pub holds-short : no_places_lem m ix ≡ true → HoldsIn m t g l l ix ix (Err 1)
      unfolding holds_refusal given ◌or_else◌
      holds-short e = refused 1 (rw (room, files, e))

      module _ (enough : no_places_lem m ix ≡ false) where
        -- For a fault of the trace.
        pub holds-steps : {k : ℕ} {p : Part}
            → Blames (steps_fault (length (aims (model_of_lem m))) (length (model_of_lem m).rules) t) k p
            → HoldsIn m t g l l ix ix (Err k)
        unfolding holds_refusal given ◌or_else◌
        holds-steps b = rw b.number_is (refused _ (rw (room, files, enough, b.is)))

        module _ (steps : steps_fault (length (aims (model_of_lem m))) (length (model_of_lem m).rules) t ≡ none) where
          -- For a number that is no fact of the model.
          pub holds-fact : leb (fact_count m) g ≡ true → HoldsIn m t g l l ix ix (Err 6)
          unfolding holds_refusal given ◌or_else◌
          holds-fact e = refused 6 (rw (room, files, enough, steps, e))

          -- Otherwise by the run.
          pub holds-ran : leb (fact_count m) g ≡ false → {after : Lent} {ix' : List ℕ} {r : Result Held ℕ}
              → Asks m t g l after r → IndexHolds (model_of_lem m).clauses ix ix' → HoldsIn m t g l after ix ix' r
          unfolding Index holds_refusal given ◌or_else◌
          holds-ran e a holds =
              let none-given : holds_refusal m t g l ix ≡ none = rw (room, files, enough, steps, e) in
              rw none-given (record { answers = a.answers; buffers = a.buffers; index = holds })
