-- The trace's outcome is the run's: a path leads where its steps reach, and it ends as the run does.
use Prim.Native.Nat.{ℕ, ◌+◌, ◌≤◌, ◌<◌}
use native.Mathlib.Nat.{zero-add, add-zero, add_assoc}
use native.Mathlib.Omega.{arith}
use mathlib.Core.Path.{◌≡◌, refl, sym, ◌∙◌, ap, ap₂, subst, fun_ext}
use mathlib.Core.Logic.{◌↔◌, inl, inr}
use mathlib.Core.List.Memᴰ
use mathlib.Core.List.{List, [], ◌∷◌, ◌++◌, append-nil}
use mathlib.Core.Option.{Option, none, some}
use lib.Dec.{T}
use lib.ListN.{length, take, drop, take-append-drop}
use lib.Seq.{take-length, length-take-le}
use Rattle.sets.specs.Sets.{Facts, size, ◌∈◌}
use Rattle.meaning.specs.Model.{Rule, Model, Trace, State, rule_of, aim_of}
use Rattle.meaning.specs.Rounds.{rounds}
use Rattle.meaning.specs.Run.{Condition, conditions, unmet, unmet_of, Reached, stays, onward, reach}
use Rattle.meaning.specs.Run.{Ending, asked, ending, Outcome, outcome_of}
use Rattle.meaning.specs.Published.{HC, Next, Transition, Path, earlier, TrueAttack}
use Rattle.meaning.specs.Published.Path.{here, step}
use Rattle.meaning.specs.Promises.{rounds_on, IsOutcomeFrom, IsOutcome}
use Rattle.meaning.specs.Promises.EndsSo.{attack, blocked, not_met}
use Rattle.sets.proofs.Laws.{same_test}
use Rattle.meaning.proofs.Closing.{HC_unique}
use Rattle.meaning.proofs.Meeting.{Met, unmet-from, aim-met, aim-unmet, no_attack}
use Rattle.meaning.proofs.Reaching.{after_rule, after_is, closed, closed_is}
use Rattle.meaning.proofs.Runs.{ahead, ahead_none, onward-ahead, reach-fires, step-stops, steps-end}

-- The state after a rule is one state.
next_unique : (kept : List ℕ) (r : Rule) (S : State) {X Y : State} → Next kept r S X → Next kept r S Y → X ≡ Y
next_unique kept r S {X} {Y} x y =
    let facts = same_set X.facts Y.facts _ x.facts y.facts in
    let names = same_set X.names Y.names _ x.names y.names in
    λ i. record { facts = facts i; names = names i }
  where
    same_set : (X Y : Facts) (C : ℕ → Type 0) → ((n : ℕ) → T (X n) ↔ C n) → ((n : ℕ) → T (Y n) ↔ C n) → X ≡ Y
    same_set X Y C x y = fun_ext (λ n. same_test (λ t. (y n).1 ((x n).0 t)) (λ t. (x n).1 ((y n).0 t)))

-- Any HC of the state is the closure.
pub the_closure : (m : Model) (S : State) {X : Facts} → HC m.clauses S.facts X → X ≡ closed m S
the_closure m S h = fun_ext (HC_unique h (closed_is m S))

-- The first unmet condition on any HC of the state is the one on the closure.
on-closure : (m : Model) (S : State) {X : Facts} (P N names : List ℕ) (u : Option Condition)
    → HC m.clauses S.facts X → Met X S.names P N names u
    → unmet (closed m S) S.names (conditions P N names) ≡ u
on-closure m S {X} P N names u h k = rw (← the_closure m S h) (unmet-from X S.names P N names u k)

module _ {m : Model} where
  -- Where a rule leads on, no condition of it is unmet.
  pub fired-met : {k : ℕ} {S S' : State} → Transition m k S S' → unmet_of m S (rule_of m k) ≡ none
  unfolding unmet_of
  fired-met {k} {S} t =
      let r = rule_of m k in on-closure m S r.P r.N r.names none t.is_hc (t.meets, t.fresh)

  -- It leads to the state after it.
  pub fired-after : {k : ℕ} {S S' : State} → Transition m k S S' → S' ≡ after_rule m k S
  fired-after {k} {S} t = next_unique m.persistent (rule_of m k) S t.next (after_is m.persistent (rule_of m k) S)

  -- A transition is one step more.
  transition_reach : {k : ℕ} {S S' : State} (t : Transition m k S S') (ks : List ℕ)
      → reach m S (k ∷ ks) ≡ onward (rounds m.clauses S.facts) t.closure (reach m S' ks)
  transition_reach {k} {S} t ks =
      rw (fired-after t, the_closure m S t.is_hc) (reach-fires m S k ks (fired-met t))

  -- The steps of a path are ahead of those after it.
  path-reach : {js : List ℕ} {S S' : State} (p : Path m S js S')
      → (n : ℕ) × (rounds_on p ≡ n + rounds m.clauses S'.facts)
      × ((ks : List ℕ) → reach m S (js ++ ks) ≡ ahead (length js) n (earlier p) (reach m S' ks))
  unfolding rounds_on earlier
  path-reach here = (0, sym (zero-add _), λ ks. ahead_none _)
  path-reach (step {ks = js} {S = S} {S' = S'} t p) =
      let (n, e, h) = path-reach p in
      let r = rounds m.clauses S.facts in (
        r + n,
        ap (λ n. r + n) e ∙ sym (add_assoc r n _),
        λ ks.
            transition_reach t (js ++ ks) ∙ ap (onward r t.closure) (h ks)
            ∙ onward-ahead (length js) n r (earlier p) t.closure _,
      )

  -- Its steps reach its last state, after the closures before.
  path-reached : {js : List ℕ} {S S' : State} (p : Path m S js S')
      → reach m S js ≡ ahead (length js) (path-reach p).0 (earlier p) (stays S' none)
  unfolding reach
  path-reached {js} {S} p = ap (reach m S) (sym (append-nil js)) ∙ (path-reach p).2 []

  -- The sum of rounds over a path is that of what its steps reach.
  pub path_sum : {js : List ℕ} {S S' : State} (p : Path m S js S')
      → rounds_on p ≡ (reach m S js).earlier + rounds m.clauses (reach m S js).state.facts
  unfolding ahead stays
  path_sum {S' = S'} p =
      let (n, e, h) = path-reach p in
      rw (path-reached p) (e ∙ ap (λ k. k + rounds m.clauses S'.facts) (sym (add-zero n)))

  -- The closures before its last state are those of what its steps reach.
  pub path-past : {js : List ℕ} {S S' : State} (p : Path m S js S') → earlier p ≡ (reach m S js).past
  unfolding ahead stays
  path-past p = rw (path-reached p)

  -- A path is one of any equal list of steps, with the same sum of rounds and the same closures before its last state.
  path_along : {ks ls : List ℕ} {S S' : State} → ks ≡ ls → (p : Path m S ks S')
      → (q : Path m S ls S') × (rounds_on q ≡ rounds_on p) × (earlier q ≡ earlier p)
  path_along {S = S} {S' = S'} e p =
      subst (λ ls. (q : Path m S ls S') × (rounds_on q ≡ rounds_on p) × (earlier q ≡ earlier p)) e (p, refl, refl)

  -- The model has every rule of a path.
  pub path-rules : {ks : List ℕ} {S S' : State} → Path m S ks S' → (k : ℕ) → k ∈ ks → k < length m.rules
  path-rules here k i = absurd (Memᴰ.not-nil i)
  path-rules (step t p) k i = elim (Memᴰ.cases_cons i) [ inl e ↦ rw e t.rule | inr h ↦ path-rules p k h ]

module _ {m : Model} {g : ℕ} {S : State} {ks : List ℕ} {o : Outcome} (j : IsOutcomeFrom m g S ks o) where
  -- what its steps reach, up to where they stop
  abbrev reached : Option Condition → Reached
  reached u = record {
    fired = o.step;
    earlier = (path-reach j.path).0;
    past = o.past;
    state = o.state;
    stop = u;
  }

  -- The run goes on from where the path leads.
  run_split : o.step ≤ length ks
      → reach m S ks ≡ ahead o.step (reached none).earlier o.past (reach m o.state (drop o.step ks))
  run_split l =
      let (n, e, h) = path-reach j.path in
      ap (reach m S) (sym (take-append-drop o.step ks)) ∙ h (drop o.step ks)
      ∙ ap₂ (λ i past. ahead i n past (reach m o.state (drop o.step ks))) (length-take-le o.step ks l)
      (sym j.past)

  -- An outcome with the ending of what is reached is the run's.
  same-run : (u : Option Condition) → reach m S ks ≡ reached u → o.ending ≡ ending m g (reached u)
      → o ≡ outcome_of m g (reach m S ks)
  unfolding outcome_of
  same-run u r d =
      let n = j.rounds ∙ (path-reach j.path).1 in
      (λ i. record {
        ending = d i;
        step = o.step;
        rounds = n i;
        held = j.held i;
        past = o.past;
        state = o.state;
      })
      ∙ ap (outcome_of m g) (sym r)

  -- An outcome from a state is the run's from there.
  pub is-run-from : o ≡ outcome_of m g (reach m S ks)
  unfolding ending asked unmet_of
  is-run-from =
      let used = o.state.names in
      let rest = steps-end m o.state ks o.step (reached none).earlier o.past in
      elim j.ends [
        | attack d s a ↦
            same-run none (run_split (omega arith) ∙ rest (omega arith))
            (d ∙ sym (rw (← the_closure m o.state a.is_hc) (aim-met _ used o.past (aim_of m g) a.meets)))
        | blocked c d s X h u ↦
            let stop = step-stops m o.state ks o.step _ _ s (on-closure m o.state _ _ _ (some c) h u) in
            same-run (some c) (run_split (omega arith) ∙ stop) d
        | not_met e d s X h u ↦
            same-run none (run_split (omega arith) ∙ rest (omega arith))
            (d ∙ sym (rw (← the_closure m o.state h) (aim-unmet X used o.past u)))
      ]

-- A true attack has an outcome: accepted, with the sum of rounds over its states.
pub attack-outcome : {m : Model} {t : Trace} (a : TrueAttack m t)
    → IsOutcome m t (record {
      ending = Ending.attack;
      step = length t.steps;
      rounds = rounds_on a.path;
      held = size a.last.facts m.F;
      past = earlier a.path;
      state = a.last;
    })
attack-outcome {t = t} a =
    let (p, e, y) = path_along (sym (take-length t.steps)) a.path in
    record { path = p; ends = attack refl refl a.met; rounds = sym e; past = sym y; held = refl }

-- An outcome that is accepted comes of a true attack.
pub outcome-attack : {m : Model} {t : Trace} {o : Outcome} → IsOutcome m t o → o.ending ≡ Ending.attack
    → TrueAttack m t
outcome-attack {t = t} {o} j z = elim j.ends [
  | attack d s a ↦
      let whole = ap (λ n. take n t.steps) s ∙ take-length t.steps in
      let (p, e, y) = path_along whole j.path in
      record { last = o.state; path = p; met = rw (j.past ∙ sym y) at a }
  | blocked c d s X h u ↦ let n : ◌≡◌ {A = ℕ} 0 1 = cc in absurd (omega arith)
  | not_met e d s X h u ↦ absurd (no_attack _ _ _ u (sym d ∙ z))
]
