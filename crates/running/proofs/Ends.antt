-- Laws on the end of a run: what the search over the steps leaves and what is asked of the last state make the outcome.
use Prim.Native.Nat.{ℕ, ◌+◌, ◌<◌}
use mathlib.Core.Path.{◌≡◌, refl, sym, ap, ap₂, ◌∙◌, subst, fun_ext}
use mathlib.Core.List.Memᴰ
use mathlib.Core.List.{List, []}
use mathlib.Core.Logic.{◌⊎◌, inl, inr, ⊎_elim}
use mathlib.Core.Option.{none, some}
use native.Mathlib.Omega.{arith}
use lib.ListN.{length, get_or, drop}
use Rattle.std.specs.Prelude.{Some, None}
use Rattle.sets.specs.Sets.{Facts, size, ◌∈◌}
use Rattle.sets.proofs.Laws.{get_or_in, below_or_from}
use Rattle.sets.proofs.Size.{size_below}
use Rattle.meaning.specs.Past.{History}
use Rattle.meaning.specs.Model.{Goal, Model, Aim, aims, aim_of}
use Rattle.meaning.specs.Model.Aim.{state}
use Rattle.meaning.specs.Rounds.{rounds, closure, round_number}
use Rattle.meaning.specs.Run.{Condition, Reached, Ending, Outcome, conditions, unmet, asked_of, asked, ending}
use Rattle.meaning.specs.Run.{outcome_of, run}
use Rattle.meaning.specs.Run.Condition.{positive, negative, unused}
use Rattle.meaning.specs.Run.Ending.{attack, blocked, not_met}
use Rattle.meaning.specs.Promises.{FirstUnmet, absent, present, in_use_lem, GoalUnmet, lacks, still_true}
use Rattle.meaning.specs.Promises.EndsSo.{attack as so-attack, blocked as so-blocked, not_met as so_not_met}
use Rattle.meaning.proofs.Theorems.{run_is}
use Rattle.meaning.proofs.Runs.{Below, run-below, state-at}
use Rattle.facts.specs.Facts.{members, Kept}
use Rattle.facts.proofs.Laws.{kept_same, kept_trans}
use Rattle.files.specs.Files.{fact_count, pair_fault, shape_fault, model_of_lem, trace_of}
use Rattle.files.proofs.Laws.{facts-bound, initial-below, rule-below, goal-below}
use Rattle.files.proofs.Aims.{formula_in_lem}
use Rattle.files.proofs.Traces.{pair_shape, pair_named, pair_step-known, pair_goal-known}
use Rattle.files.proofs.Lists.{added_below}
use Rattle.closing.specs.Closing.{numbered, Filled, ClosesUnder}
use Rattle.stepping.specs.Conditions.{round_in, unmet_in, KnownIn, names_in}
use Rattle.reaching.specs.Reaching.{Lent}
use Rattle.running.specs.Outcomes.{outcome, Left}
use Rattle.running.specs.Running.{ending_of, Asked}
use Rattle.reaching.specs.Reaching.{reached, counted, aimed, StepsTo}
use Rattle.reaching.specs.Reaching.{Ready}
use Rattle.running.specs.Running.{Numbers, EndsAs}
use Rattle.stepping.specs.declared.conditions.Condition.TheVariants as condition
use Rattle.running.specs.declared.Ending.TheVariants as ends
use Rattle.reaching.specs.declared.Steps.{Steps}
use Rattle.reaching.proofs.Stepwise.{closure-shown}

-- ---- what is asked of the last state

module _ {A : Aim} (G : Goal) (is : A ≡ state G) (X used : Facts) where
  pub asked-met : unmet X used (conditions G.P G.N []) ≡ none → attack ≡ asked_of A X used []
  unfolding asked_of
  asked-met e = rw (is, asked_of) (rw e)

  pub asked-unmet : {c : Condition} → unmet X used (conditions G.P G.N []) ≡ some c
      → not_met c ≡ asked_of A X used []
  unfolding asked_of
  asked-unmet e = rw (is, asked_of) (rw e)

-- ---- how the steps ended

module _ (m : Model) (r : Reached) where
  -- a blocked step
  ending-blocked : (g : ℕ) {c : Condition} → r.stop ≡ some c → blocked c ≡ ending m g r
  unfolding ending
  ending-blocked g e = rw (e, ending)

  counted-blocked : {c : Condition} → r.stop ≡ some c
      → counted m r ≡ r.earlier + rounds m.clauses r.state.facts
  unfolding counted
  counted-blocked e = rw (e, counted)

  -- none
  ending-asked : (g : ℕ) → r.stop ≡ none
      → asked_of (aim_of m g) (closure m.clauses r.state.facts) r.state.names r.past ≡ ending m g r
  unfolding ending asked
  ending-asked g e = rw (e, ending)

  counted-all : r.stop ≡ none → counted m r ≡ r.earlier
  unfolding counted
  counted-all e = rw (e, counted)

-- ---- the outcome

-- What is left, seen from buffers that the run began with.
pub left-from : {m : Model} {o : Outcome} {first before after : Lent} → Kept 512 first.state before.state
    → Kept 128 first.names before.names
    → length before.table ≡ length first.table → drop 4096 before.table ≡ drop 4096 first.table
    → Left m o before after → Left m o first after
left-from k u n b l = record {
  facts = l.facts;
  kept = kept_trans k l.kept;
  names = l.names;
  names-kept = kept_trans u l.names-kept;
  rounds = record { as_long = l.rounds.as_long ∙ n; entries = l.rounds.entries; beyond = l.rounds.beyond ∙ b };
}

module _ (m t : List ℕ) where
  -- the steps' promise holds of the buffers as they are left
  pub steps-here : {before after : Lent} {bits : List ℕ} {r : Steps} → StepsTo m t before after bits r
      → StepsTo m t after after bits r
  steps-here s = record {
    fired = s.fired;
    stop = s.stop;
    rounds = s.rounds;
    facts = s.facts;
    kept = kept_same _;
    names = s.names;
    names-kept = kept_same _;
    as_long = refl;
    beyond = refl;
    filled = λ c e. record { as_long = refl; entries = (s.filled c e).entries; beyond = refl };
    keeps = s.keeps;
    within = s.within;
    bound = s.bound;
  }

  -- the buffers have as much room as before the steps
  pub ready_on : {before after : Lent} {bits : List ℕ} {r : Steps} → Ready m t before → StepsTo m t before after bits r
      → Ready m t after
  ready_on ready s = record {
    fine = ready.fine;
    room = omega (arith, s.kept.as_long, ready.room);
    entries = omega (arith, s.as_long, ready.entries);
    names = omega (arith, s.names-kept.as_long, ready.names);
  }

  module _ {l : Lent} {bits : List ℕ} {r : Steps} (s : StepsTo m t l l bits r) where
    -- the last state is left, with a table of its round numbers
    left : {table : List ℕ} → Filled (model_of_lem m).clauses (reached m t).state.facts l.table table
        → Left (model_of_lem m) (outcome m t) l (record { state = l.state; table = table; names = l.names })
    unfolding outcome run outcome_of reached
    left filled = record {
      facts = s.facts;
      kept = kept_same _;
      names = s.names;
      names-kept = kept_same _;
      rounds = filled;
    }

    -- A blocked step ends the run.
    pub ends-blocked : (c : condition.the_data) → r.stop ≡ Some c
        → EndsAs m t l l (record { ending = ends.Blocked c; step = r.fired; rounds = r.rounds })
    unfolding ending_of outcome run outcome_of reached
    ends-blocked c e =
        let stop = sym s.stop ∙ ap unmet_in e in
        record {
          within = s.within;
          ending = ending-blocked (model_of_lem m) (reached m t) (trace_of t).goal stop;
          step = s.fired;
          rounds = s.rounds ∙ counted-blocked (model_of_lem m) (reached m t) stop;
          left = left (s.filled _ stop);
        }

    -- Otherwise what is asked of the last state does.
    pub ends_asked : shape_fault m ≡ none → {table : List ℕ} {n : ℕ} {e : ends.the_data} → r.stop ≡ None
        → ClosesUnder (model_of_lem m).clauses l.state l.table table n
        → Asked (aimed m t) (numbered table) (names_in l.names) bits (ending_of e)
        → EndsAs m t l (record { state = l.state; table = table; names = l.names })
        (record { ending = e; step = r.fired; rounds = r.rounds + n })
    unfolding outcome run outcome_of reached
    ends_asked fine {n = n} q closed asks =
        let stop = sym s.stop ∙ ap unmet_in q in
        let same : members l.state ≡ (reached m t).state.facts = fun_ext s.facts in
        let shown = closure-shown m fine closed ∙ ap (closure (model_of_lem m).clauses) same in
        record {
          within = s.within;
          ending =
              asks _ s.keeps
              ∙ ap₂ (λ (X used : Facts). asked_of (aimed m t) X used (reached m t).past) shown (fun_ext s.names)
              ∙ ending-asked (model_of_lem m) (reached m t) (trace_of t).goal stop;
          step = s.fired;
          rounds =
              ap (λ k. k + n) (s.rounds ∙ counted-all (model_of_lem m) (reached m t) stop)
              ∙ ap (λ k. (reached m t).earlier + k) (closed.number ∙ ap (rounds (model_of_lem m).clauses) same);
          left = left (rw same at closed.filled);
        }

  -- All bits of the last state are facts below F, so that counting them counts its facts.
  pub held-is : shape_fault m ≡ none → (bytes : List ℕ) {held : ℕ}
      → ((g : ℕ) → members bytes g ≡ (outcome m t).state.facts g)
      → held ≡ size (members bytes) 4096 → held ≡ (outcome m t).held
  unfolding outcome run outcome_of model_of_lem Below
  held-is fine bytes e h =
      let below = run-below (model_of_lem m) (trace_of t) (initial-below m fine) (added_below m fine) in
      h ∙ ap (λ X. size X 4096) (fun_ext e) ∙ size_below _ _ 4096 (facts-bound m fine) below

-- ---- the condition that a run ends with

-- The first unmet condition is a fact of P or of N, or a name.
first-known : {X used : Facts} {P N names : List ℕ} {c : Condition} → FirstUnmet X used P N names c
    → ((f : ℕ) → f ∈ P → f < 4096) → ((f : ℕ) → f ∈ N → f < 4096) → KnownIn c
unfolding KnownIn
first-known (absent met rest e _ _) p n = p _ (rw e (Memᴰ.append_right met (Memᴰ.head refl)))
first-known (present _ met rest e _ _) p n = n _ (rw e (Memᴰ.append_right met (Memᴰ.head refl)))
first-known (in_use_lem _ _ _ _ _ _) p n = tt

-- the ending has this condition
abbrev EndsWith : Ending → Condition → Type 0
EndsWith x c = (x ≡ blocked c) ⊎ (x ≡ not_met c)

not-attack : {x : Ending} {c : Condition} → x ≡ attack → EndsWith x c → ⊥
not-attack e (inl q) = let z : ◌≡◌ {A = ℕ} 0 1 = cc in omega arith
not-attack e (inr q) = let z : ◌≡◌ {A = ℕ} 0 1 = cc in omega arith

of_blocked : {x : Ending} {c d : Condition} → x ≡ blocked d → EndsWith x c → d ≡ c
of_blocked e (inl q) = cc
of_blocked e (inr q) = let z : ◌≡◌ {A = ℕ} 0 1 = cc in absurd (omega arith)

-- An attack state's condition is its first unmet one.
of_goal : {X used : Facts} {past : History} {A : Aim} {x : Ending} {c : Condition} → GoalUnmet X used past A x
    → EndsWith x c → (G : Goal) × (A ≡ state G) × FirstUnmet X used G.P G.N [] c
of_goal (lacks {G} h) (inl q) = let z : ◌≡◌ {A = ℕ} 0 1 = cc in absurd (omega arith)
of_goal {X} {used} (lacks {G} {c = d} h) (inr q) = (G, refl, subst (FirstUnmet X used G.P G.N []) (cc) h)
of_goal (still_true h) (inl q) = let z : ◌≡◌ {A = ℕ} 0 1 = cc in absurd (omega arith)
of_goal (still_true h) (inr q) = let z : ◌≡◌ {A = ℕ} 0 1 = cc in absurd (omega arith)

-- The attack state that a trace names is one of the model's.
goal_of_lem : (m : List ℕ) {g : ℕ} (G : Goal) → g < length (aims (model_of_lem m)) → aim_of (model_of_lem m) g ≡ state G
    → G ∈ (model_of_lem m).goals
goal_of_lem m {g} G there is =
    ⊎_elim
    (λ l.
    let at = state-at (model_of_lem m) g (record { P = []; N = [] }) l in
    let same : get_or (model_of_lem m).goals g (record { P = []; N = [] }) ≡ G = cc in
    subst (λ (x : Goal). x ∈ (model_of_lem m).goals) same (get_or_in (model_of_lem m).goals g _ l))
    (λ l. let e = formula_in_lem m g l there in let z : ◌≡◌ {A = ℕ} 0 1 = cc in absurd (omega arith))
    (below_or_from g (length (model_of_lem m).goals))

-- Its fact is one that a table has an entry for.
pub ending-known : (m t : List ℕ) → pair_fault m t ≡ none → (c : Condition) → EndsWith (outcome m t).ending c
    → KnownIn c
unfolding outcome
ending-known m t fine c told =
    let M = model_of_lem m in
    let shape = pair_shape m t fine in
    let few : (L : List ℕ) → ((f : ℕ) → f ∈ L → f < fact_count m) → (f : ℕ) → f ∈ L → f < 4096 =
    λ L h f i. omega (arith, facts-bound m shape, h f i) in
    elim (run_is M (trace_of t) (pair_named m t fine)).ends [
      | so-attack e _ _ ↦ absurd (not-attack e told)
      | so-blocked d e h X hc u ↦
          let r =
          rule-below m shape _
          (get_or_in M.rules _ (record { P = []; N = []; A = []; names = [] }) (pair_step-known m t fine _ h)) in
          rw (← of_blocked e told) (first-known u (few _ r.0) (few _ r.1))
      | so_not_met x e h X hc u ↦
          let (G, is, first) = of_goal u (subst (λ (y : Ending). EndsWith y c) e told) in
          let g = goal-below m shape G (goal_of_lem m G (pair_goal-known m t fine) is) in
          first-known first (few _ g.0) (few _ g.1)
    ]

-- Its round in the table is its round.
pub round_is : (m : Model) (o : Outcome) {table : List ℕ} → Numbers m o table → (c : Condition) → KnownIn c
    → round_in (λ f. get_or table f 0) c ≡ round_in (round_number m.clauses o.state.facts) c
unfolding round_in KnownIn
round_is m o n (positive f) h = refl
round_is m o n (negative f) h = n.entries f h
round_is m o n (unused f) h = refl
