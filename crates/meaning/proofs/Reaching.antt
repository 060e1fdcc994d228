-- What steps reach, and how a run ends there, in document 003's terms: the run's outcome is the trace's.
use Prim.Native.Nat.{ℕ, suc, ◌+◌, ◌<◌}
use native.Mathlib.Nat.{zero-add, add_assoc}
use native.Mathlib.Omega.{arith}
use mathlib.Core.Path.{◌≡◌, refl, ◌∙◌, ap}
use mathlib.Core.Logic.{◌↔◌, ◌⊎◌, inl, inr}
use mathlib.Core.Bool.{Bool, true, false, not, ◌&&◌, ◌||◌}
use mathlib.Core.List.Memᴰ
use mathlib.Core.List.{List, [], ◌∷◌, ◌++◌}
use mathlib.Core.Option.{Option, none, some}
use lib.Dec.{T}
use lib.ListN.{length, get_or, take}
use Rattle.sets.specs.Sets.{Facts, listed, ◌∈◌}
use Rattle.meaning.specs.Past.{History}
use Rattle.meaning.specs.Model.{Rule, Model, State, rule_of, aims, aim_of}
use Rattle.meaning.specs.Rounds.{rounds, closure}
use Rattle.meaning.specs.Run.{Condition, unmet_of, after, Reached, stays, onward, reach}
use Rattle.meaning.specs.Run.{asked, ending, outcome_of}
use Rattle.meaning.specs.Published.{HC, Next, Transition, Path, earlier}
use Rattle.meaning.specs.Published.Path.{here, step}
use Rattle.meaning.specs.Promises.{FirstUnmetOf, rounds_on, EndsSo, IsOutcomeFrom}
use Rattle.meaning.specs.Promises.EndsSo.{attack, blocked, not_met}
use Rattle.sets.proofs.Laws.{both, either, listed-is}
use Rattle.meaning.proofs.Closing.{closure-is-HC}
use Rattle.meaning.proofs.Meeting.{Met, unmet-is, aim-is}

-- What isn't removed is persistent where P has it.
not-removed : (p k : Bool) → T (not (p && not k)) ↔ (T p → T k)
not-removed true true = (λ t s. tt, λ h. tt)
not-removed true false = (λ t s. t, λ h. h tt)
not-removed false k = (λ t s. absurd s, λ h. tt)

-- What stays or is named by a list.
with_listed : (b : Bool) {B : Type 0} → (T b ↔ B) → (xs : List ℕ) (f : ℕ) → T (b || listed xs f) ↔ (B ⊎ (f ∈ xs))
with_listed b h xs f = (
  λ t. elim ((either b (listed xs f)).0 t) [ inl k ↦ inl (h.0 k) | inr m ↦ inr ((listed-is xs f).0 m) ],
  λ s. (either b (listed xs f)).1 (elim s [ inl k ↦ inl (h.1 k) | inr m ↦ inr ((listed-is xs f).1 m) ]),
)

-- The state after a rule is the state without those of P that aren't persistent, together with A; its names are used.
pub after_is : (kept : List ℕ) (r : Rule) (S : State) → Next kept r S (after kept r S)
unfolding after
after_is kept r S = record {
  facts = λ f. with_listed (left f) (left_is f) r.A f;
  names = λ n. with_listed (S.names n) (λ t. t, λ t. t) r.names n;
}
  where
    stays : ℕ → Bool
    stays f = not (listed r.P f && not (listed kept f))

    left : ℕ → Bool
    left f = S.facts f && stays f

    left_is : (f : ℕ) → T (left f) ↔ (T (S.facts f) × (f ∈ r.P → f ∈ kept))
    left_is f =
        let removal = not-removed (listed r.P f) (listed kept f) in (
          λ t.
              let (s, n) = (both (S.facts f) (stays f)).0 t in
              (s, λ m. (listed-is kept f).0 (removal.0 n ((listed-is r.P f).1 m))),
          λ (s, k).
              let n = removal.1 (λ t. (listed-is kept f).1 (k ((listed-is r.P f).0 t))) in
              (both (S.facts f) (stays f)).1 (s, n),
        )

-- the state after the model's rule k
abbrev pub after_rule : Model → ℕ → State → State
after_rule m k S = after m.persistent (rule_of m k) S

-- the closure by the model's clauses
abbrev pub closed : Model → State → Facts
closed m S = closure m.clauses S.facts

module _ (m : Model) where
  -- It is HC of the state.
  pub closed_is : (S : State) → HC m.clauses S.facts (closed m S)
  closed_is S = closure-is-HC m.clauses S.facts

  -- this is the rule's first unmet condition in the state, or it is none and the rule can fire
  abbrev pub MetBy : State → Rule → Option Condition → Type 0
  MetBy S r = Met (closed m S) S.names r.P r.N r.names

  -- What unmet_of computes is that.
  pub unmet_of-is : (S : State) (r : Rule) → MetBy S r (unmet_of m S r)
  unfolding unmet_of
  unmet_of-is S r = unmet-is (closed m S) S.names r.P r.N r.names

  -- A rule of the model whose conditions are met leads on.
  pub fires : (k : ℕ) (S : State) → k < length m.rules → MetBy S (rule_of m k) none
      → Transition m k S (after_rule m k S)
  fires k S l (u, fresh) =
      let next = after_is m.persistent (rule_of m k) S in
      record { rule = l; closure = closed m S; is_hc = closed_is S; meets = u; fresh = fresh; next = next }

  -- after n of the steps, in S: they are all, or a condition of the next one is the first that is unmet
  abbrev Stops : List ℕ → ℕ → State → Option Condition → Type 0
  Stops ks n S none = n ≡ length ks
  Stops ks n S (some c) = (n < length ks) × FirstUnmetOf (closed m S) S (rule_of m (get_or ks n 0)) c

  -- So they stop with one step more before.
  stops-onward : (k n : ℕ) (ks : List ℕ) (S : State) (u : Option Condition) → Stops ks n S u
      → Stops (k ∷ ks) (suc n) S u
  stops-onward k n ks S none e = ap suc e
  stops-onward k n ks S (some c) (l, u) = (omega arith, u)

  -- the steps lead from S to what is reached
  abbrev Leads : State → List ℕ → Reached → Type 0
  Leads S ks r =
      (p : Path m S (take r.fired ks) r.state)
      × (r.earlier + rounds m.clauses r.state.facts ≡ rounds_on p) × (r.past ≡ earlier p)
      × Stops ks r.fired r.state r.stop

  -- They do, if the model has their rules.
  reach_leads : (ks : List ℕ) → ((k : ℕ) → k ∈ ks → k < length m.rules) → (S : State) → Leads S ks (reach m S ks)
  unfolding reach stays onward rounds_on earlier fires
  reach_leads [] h S = (here, zero-add _, refl, refl)
  reach_leads (k ∷ ks) h S =
      go (unmet_of m S (rule_of m k)) refl (unmet_of-is S (rule_of m k))
      (reach_leads ks (λ j i. h j (Memᴰ.tail i)) (after_rule m k S))
    where
      go : (u : Option Condition) → unmet_of m S (rule_of m k) ≡ u → MetBy S (rule_of m k) u
          → Leads (after_rule m k S) ks (reach m (after_rule m k S) ks) → Leads S (k ∷ ks) (reach m S (k ∷ ks))
      go none i u (p, e, y, s) = rw (i, reach) (
        step (fires k S (h k (Memᴰ.head refl)) u) p,
        add_assoc _ (reach m (after_rule m k S) ks).earlier _ ∙ ap (λ n. rounds m.clauses S.facts + n) e,
        ap (λ past. past ++ closed m S ∷ []) y,
        stops-onward k _ ks _ (reach m (after_rule m k S) ks).stop s,
      )
      go (some c) i u l = rw (i, reach) (here, zero-add _, refl, (omega arith, u))

module _ (m : Model) (g : ℕ) where
  -- Where the steps stop, the run ends.
  ends_so : g < length (aims m) → (ks : List ℕ) (n e : ℕ) (past : History) (S : State) (u : Option Condition)
      → Stops m ks n S u
      → EndsSo m g ks (outcome_of m g (record { fired = n; earlier = e; past = past; state = S; stop = u }))
  unfolding outcome_of ending asked
  ends_so l ks n e past S (some c) (s, u) = blocked c refl s (closed m S) (closed_is m S) u
  ends_so l ks n e past S none s = elim (aim-is (closed m S) S.names past (aim_of m g)) [
    | inl (i, k) ↦ attack i s (record { goal = l; closure = closed m S; is_hc = closed_is m S; meets = k })
    | inr k ↦ not_met _ refl s (closed m S) (closed_is m S) k
  ]

  -- The run's outcome from a state is the one there, if the model has the goal and the rules.
  pub run-is-from : g < length (aims m) → (ks : List ℕ) → ((k : ℕ) → k ∈ ks → k < length m.rules) → (S : State)
      → IsOutcomeFrom m g S ks (outcome_of m g (reach m S ks))
  unfolding outcome_of
  run-is-from l ks h S =
      let r = reach m S ks in
      let (p, e, y, s) = reach_leads m ks h S in
      let ends = ends_so l ks r.fired r.earlier r.past r.state r.stop s in
      record { path = p; ends = ends; rounds = e; past = y; held = refl }
