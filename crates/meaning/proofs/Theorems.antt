-- What demands 2 and 3 promise (specs/Promises) and what document 02 says of the worklist (wish 5), proved: each
-- theorem in one place, the work in the files beside this one.
use Prim.Native.Nat.{ℕ, zero, suc, ◌+◌, ◌-◌, ◌≤◌, ◌<◌}
use native.Mathlib.Numerals.{add-one}
use native.Mathlib.Omega.{arith}
use mathlib.Core.Path.{◌≡◌, refl, sym, ◌∙◌, ap}
use mathlib.Core.Logic.{◌↔◌, ◌⊎◌, inl, inr}
use mathlib.Core.Bool.{Bool, false, not, ◌&&◌, ◌||◌, and-true}
use mathlib.Core.List.Memᴰ
use mathlib.Core.List.{List, [], ◌∷◌, ◌++◌, Nodup}
use mathlib.Core.Option.{none, some}
use lib.Dec.{T, eqb, ltb, ltb→lt, lt→ltb}
use lib.ListN.{length, get_or, take, drop, length-append, get_or-eq_default}
use Rattle.sets.specs.Sets.{Facts, any, every, listed, ◌∈◌}
use Rattle.meaning.specs.Past.{Formula, History, truth}
use Rattle.meaning.specs.Past.Formula.{fact, negation, either, implies, yesterday, once, historically, since}
use Rattle.meaning.specs.Model.{Clause, Rule, Goal, Model, Trace, State, rule_of, aims, aim_of, start}
use Rattle.meaning.specs.Model.Aim.{state, formula}
use Rattle.meaning.specs.Rounds.{round, rounds, closure, round_number, missing_heads}
use Rattle.meaning.specs.Worklist.{index_below_lem, body_places, places_in, begun, worked, takes, steps}
use Rattle.meaning.specs.Working.{Known}
use Rattle.meaning.specs.Run.{conditions, find, unmet, unmet_of, after, Ending, Outcome, run, named}
use Rattle.meaning.specs.Run.Condition.{positive, negative, unused}
use Rattle.meaning.specs.Published.{HC, Meets, Fresh, Transition, Path, earlier, GoalMet, TrueAttack}
use Rattle.meaning.specs.Published.Path.{here, step}
use Rattle.meaning.specs.Promises.{IsRounds, AreMissingHeads, IsRoundNumber, Makes, Nameless, rounds_on, IsOutcome}
use Rattle.meaning.specs.Promises.{IsIndex, Pastless}
use Rattle.meaning.specs.Promises.EndsSo.{attack, blocked, not_met}
use Rattle.meaning.specs.Promises.FirstUnmet.{absent, present, in_use_lem}
use Rattle.sets.proofs.Laws.{passes, fails, by-test, both, every_in, every_intro, one_number}
use Rattle.sets.proofs.Laws.{below_or_from, get_or_in, listed-is}
use Rattle.meaning.proofs.Closing
use Rattle.meaning.proofs.Histories
use Rattle.meaning.proofs.Indexes
use Rattle.meaning.proofs.Places.{places_le, index_is}
use Rattle.meaning.proofs.Worklist.{steps-counted, worked_rests, rests_all, rests_closure, rests_number}
use Rattle.meaning.proofs.Worklist.{rests_latest, rests_crossings}
use Rattle.meaning.proofs.Meeting.{unmet-none, unmet-some, first_absent, first-present, first_used, not-blocked}
use Rattle.meaning.proofs.Reaching.{after_rule, after_is, unmet_of-is, fires, run-is-from}
use Rattle.meaning.proofs.Running.{fired-met, fired-after, is-run-from, path_sum, path-past, path-rules}
use Rattle.meaning.proofs.Running.{attack-outcome, outcome-attack}
use Rattle.meaning.proofs.Runs.{length-aims, state-at, formula-at}

-- The closure is HC(S): the least set that holds the state and obeys the clauses.
pub closure-is-HC : (cs : List Clause) (S : Facts) → HC cs S (closure cs S)
closure-is-HC = Closing.closure-is-HC

-- HC(S) is one set.
pub HC_unique : {cs : List Clause} {S X Y : Facts} → HC cs S X → HC cs S Y → (f : ℕ) → X f ≡ Y f
HC_unique = Closing.HC_unique

-- The closure is inside whatever holds the state and obeys the clauses, be it a set that computes or not.
pub closure-inside : (cs : List Clause) (S : Facts) (Y : ℕ → Type 0) → ((f : ℕ) → T (S f) → Y f)
    → ((c : Clause) → c ∈ cs → ((b : ℕ) → b ∈ c.body → Y b) → Y c.head) → (f : ℕ) → T (closure cs S f) → Y f
closure-inside = Closing.closure-inside

-- Round 0 is the state.
pub round-start : (cs : List Clause) (S : Facts) (f : ℕ) → round cs S 0 f ≡ S f
unfolding round
round-start cs S f = refl

-- Round r + 1 is round r together with every head of a clause all of whose body facts stand in round r.
pub round-next : (cs : List Clause) (S : Facts) (r f : ℕ) → T (round cs S (r + 1) f)
    ↔ (T (round cs S r f)
    ⊎ ((c : Clause) × (c ∈ cs) × (c.head ≡ f) × ((b : ℕ) → b ∈ c.body → T (round cs S r b))))
unfolding round
round-next cs S r f = rw (add-one r) (Closing.next-is cs (round cs S r) f)

-- A fact's round number is the first round that it stands in, or 65,535 if it is outside the closure.
pub round_number-is : (cs : List Clause) (S : Facts) (f : ℕ) → IsRoundNumber cs S f (round_number cs S f)
round_number-is = Closing.round_number-is

-- A fact's round number is one number.
pub round_number_unique : {cs : List Clause} {S : Facts} {f a b : ℕ} → IsRoundNumber cs S f a → IsRoundNumber cs S f b
    → a ≡ b
round_number_unique {cs} {S} {f} x y =
    by-test (closure cs S f)
    (λ e. one_number (IsRoundNumber cs S f) (λ a b x y l. y.first (passes e) a l (x.stands (passes e))) x y)
    (λ e. x.outside (fails e) ∙ sym (y.outside (fails e)))

-- The round number of a fact of the closure is at most the number of rounds.
pub round_number_le : (cs : List Clause) (S : Facts) (f : ℕ) → T (closure cs S f) → round_number cs S f ≤ rounds cs S
unfolding closure
round_number_le cs S f t =
    let n : rounds cs S < round_number cs S f → ⊥ = λ l. (round_number-is cs S f).first t (rounds cs S) l t in
    omega arith

-- With fewer than 65,535 clauses, a round number is 65,535 exactly if the fact is outside the closure.
pub round_number-outside : (cs : List Clause) (S : Facts) (f : ℕ) → length cs < 65535
    → (round_number cs S f ≡ 65535) ↔ (T (closure cs S f) → ⊥)
round_number-outside cs S f h =
    let few = Closing.missing_heads-bound cs S in
    (λ e t. omega (arith, round_number_le cs S f t, Closing.rounds-bound cs S), (round_number-is cs S f).outside)

-- The number of rounds is the number of the first round that equals the next one and, from there on, every later one.
pub rounds-is : (cs : List Clause) (S : Facts) → IsRounds cs S (rounds cs S)
rounds-is = Closing.rounds-is

-- The number of rounds is one number.
pub rounds_unique : {cs : List Clause} {S : Facts} {a b : ℕ} → IsRounds cs S a → IsRounds cs S b → a ≡ b
rounds_unique {cs} {S} = one_number (IsRounds cs S) (λ a b x y l. y.first a l (x.still 1))

-- The rounds are at most as many as the different clause heads missing from the start.
pub rounds-bound : (cs : List Clause) (S : Facts) → rounds cs S ≤ missing_heads cs S
rounds-bound = Closing.rounds-bound

-- Those heads are at most as many as the clauses.
pub missing_heads-bound : (cs : List Clause) (S : Facts) → missing_heads cs S ≤ length cs
missing_heads-bound = Closing.missing_heads-bound

-- They can be listed, each of them once.
pub missing_heads-listed : (cs : List Clause) (S : Facts) → (xs : List ℕ) × AreMissingHeads cs S xs
missing_heads-listed = Closing.missing-listed

-- They are as many as any such list has.
pub missing_heads-is : {cs : List Clause} {S : Facts} {xs : List ℕ} → AreMissingHeads cs S xs
    → missing_heads cs S ≡ length xs
missing_heads-is {cs} {S} = Closing.missing_heads-is cs S

-- A clause with an empty body gives its head in round 1: the head's round number is 0 or 1.
pub empty-body : (cs : List Clause) (S : Facts) (c : Clause) → c ∈ cs → c.body ≡ []
    → T (round cs S 1 c.head) × (round_number cs S c.head ≤ 1)
unfolding round
empty-body cs S c m e =
    let empty : (b : ℕ) → b ∈ c.body → ⊥ = λ b i. Memᴰ.not-nil (rw e at i) in
    let t : T (round cs S 1 c.head) = Closing.next-fires cs S c m (λ b i. absurd (empty b i)) in
    let inside = (closure-is-HC cs S).holding.obeys c m (λ b i. absurd (empty b i)) in
    let n : 1 < round_number cs S c.head → ⊥ = λ l. (round_number-is cs S c.head).first inside 1 l t in
    (t, omega arith)

-- Where the trace names nothing that the model lacks, the run's outcome is the trace's, in document 003's terms.
pub run_is : (m : Model) (t : Trace) → T (named m t) → IsOutcome m t (run m t)
unfolding named run
run_is m t n =
    let known : ℕ → Bool = λ k. ltb k (length m.rules) in
    let (g, ks) = (both (ltb t.goal (length (aims m))) (every known t.steps)).0 n in
    run-is-from m t.goal (ltb→lt t.goal (length (aims m)) g) t.steps
    (λ k i. ltb→lt k (length m.rules) (every_in known t.steps ks k i)) (start m)

-- The trace's outcome is the run's.
pub is-run : (m : Model) (t : Trace) {o : Outcome} → IsOutcome m t o → o ≡ run m t
unfolding run
is-run m t = is-run-from

-- The trace has one outcome.
pub outcome_unique : (m : Model) (t : Trace) {o o' : Outcome} → IsOutcome m t o → IsOutcome m t o' → o ≡ o'
outcome_unique m t j k = is-run m t j ∙ sym (is-run m t k)

-- Where the trace names nothing that the model lacks, the run is accepted exactly if the trace is a true attack.
pub accepted : (m : Model) (t : Trace) → T (named m t) → ((run m t).ending ≡ Ending.attack) ↔ TrueAttack m t
accepted m t n =
    (outcome-attack (run_is m t n), λ a. ap (λ (o : Outcome). o.ending) (sym (is-run m t (attack-outcome a))))

-- A true attack names nothing that the model lacks.
pub attack-named : {m : Model} {t : Trace} → TrueAttack m t → T (named m t)
unfolding named
attack-named {m} {t} a =
    let known : ℕ → Bool = λ k. ltb k (length m.rules) in
    (both (ltb t.goal (length (aims m))) (every known t.steps)).1 (
      lt→ltb t.goal (length (aims m)) a.met.goal,
      every_intro known t.steps (λ k i. lt→ltb k (length m.rules) (path-rules a.path k i)),
    )

-- The run's rounds are the sum over the states of its path.
pub sum_of_rounds : (m : Model) (t : Trace) (n : T (named m t)) → (run m t).rounds ≡ rounds_on (run_is m t n).path
sum_of_rounds m t n = (run_is m t n).rounds

-- They are the sum over any path of the run's steps.
pub sum_on-path : (m : Model) (t : Trace) → T (named m t) → {S : State}
    (p : Path m (start m) (take (run m t).step t.steps) S) → (run m t).rounds ≡ rounds_on p
sum_on-path m t n p = sum_of_rounds m t n ∙ path_sum (run_is m t n).path ∙ sym (path_sum p)

-- Of a true attack they are the sum over its states.
pub sum_of_attack : (m : Model) (t : Trace) (a : TrueAttack m t) → (run m t).rounds ≡ rounds_on a.path
sum_of_attack m t a = ap (λ (o : Outcome). o.rounds) (sym (is-run m t (attack-outcome a)))

-- The closures before the run's last state are those on its path.
pub past_of_run : (m : Model) (t : Trace) (n : T (named m t)) → (run m t).past ≡ earlier (run_is m t n).path
past_of_run m t n = (run_is m t n).past

-- They are those on any path of the run's steps.
pub past-on-path : (m : Model) (t : Trace) → T (named m t) → {S : State}
    (p : Path m (start m) (take (run m t).step t.steps) S) → (run m t).past ≡ earlier p
past-on-path m t n p = past_of_run m t n ∙ path-past (run_is m t n).path ∙ sym (path-past p)

-- On a path there are as many as steps.
pub past-length : {m : Model} {S S' : State} {ks : List ℕ} (p : Path m S ks S') → length (earlier p) ≡ length ks
unfolding earlier
past-length here = refl
past-length (step {ks = ks} t p) =
    length-append (earlier p) (t.closure ∷ []) ∙ ap (λ n. n + 1) (past-length p) ∙ add-one (length ks)

-- "Goal numbers run on from the attack states.": there are as many goals as attack states and formulas,
pub aims-count : (m : Model) → length (aims m) ≡ length m.goals + length m.formulas
aims-count = length-aims

-- the first ones are the attack states,
pub aim-state : (m : Model) (g : ℕ) (d : Goal) → g < length m.goals → aim_of m g ≡ state (get_or m.goals g d)
aim-state = state-at

-- and after them come the formulas.
pub aim-formula : (m : Model) (g : ℕ) (d : Formula) → length m.goals ≤ g → g < length (aims m)
    → aim_of m g ≡ formula (get_or m.formulas (g - length m.goals) d)
aim-formula = formula-at

-- the effect of a rule, where some facts are persistent
module _ (persistent : List ℕ) (r : Rule) (S : State) (f : ℕ) where
  -- A fact stored after a rule was stored before or is one that the rule adds: derived facts are never carried over,
  -- persistent or not.
  pub never_carried : T ((after persistent r S).facts f) → T (S.facts f) ⊎ (f ∈ r.A)
  never_carried t = elim (((after_is persistent r S).facts f).0 t) [ inl k ↦ inl k.0 | inr a ↦ inr a ]

  -- A fact that a rule adds is stored after it, though the rule may remove it too.
  pub added_stored : f ∈ r.A → T ((after persistent r S).facts f)
  added_stored a = ((after_is persistent r S).facts f).1 (inr a)

  -- "all persistent predicates of S are still contained in S'"
  pub persistent-stays : f ∈ persistent → T (S.facts f) → T ((after persistent r S).facts f)
  persistent-stays k s = ((after_is persistent r S).facts f).1 (inl (s, λ m. k))

  -- A fact of P that is neither persistent nor added is gone.
  pub removed : f ∈ r.P → (f ∈ persistent → ⊥) → (f ∈ r.A → ⊥) → T ((after persistent r S).facts f) → ⊥
  removed p k a t = elim (((after_is persistent r S).facts f).0 t) [ inl (s, h) ↦ k (h p) | inr m ↦ a m ]

-- Where no fact is persistent: "The next state is (S without P) together with A."
pub nothing-persistent : (r : Rule) (S : State) (f : ℕ)
    → (after [] r S).facts f ≡ (S.facts f && not (listed r.P f) || listed r.A f)
unfolding after listed any
nothing-persistent r S f = rw (and-true (any (eqb f) r.P))

-- A rule of the model fires exactly if every fact of P and no fact of N is in the closure, and all its names are
-- unused.
pub fires_exactly : (m : Model) (k : ℕ) (S : State) → k < length m.rules
    → ((S' : State) × Transition m k S S') ↔ (unmet_of m S (rule_of m k) ≡ none)
fires_exactly m k S l =
    (λ (S', t). fired-met t, λ e. (after_rule m k S, fires m k S l (rw e at (unmet_of-is m S (rule_of m k)))))

-- It leads to the state after it and to no other.
pub fires-once : {m : Model} {k : ℕ} {S S' : State} → Transition m k S S' → S' ≡ after_rule m k S
fires-once = fired-after

-- A rule with a fact in both P and N never fires.
pub never-fires : {m : Model} {k : ℕ} {S S' : State} (f : ℕ) → f ∈ (rule_of m k).P → f ∈ (rule_of m k).N
    → Transition m k S S' → ⊥
never-fires f p n t = t.meets.negative f n (t.meets.positive f p)

-- With a fact in both P and N some condition is always unmet.
pub never_met : (X used : Facts) (P N names : List ℕ) (f : ℕ) → f ∈ P → f ∈ N
    → unmet X used (conditions P N names) ≡ none → ⊥
never_met X used P N names f p n e =
    let (h, _) = (unmet-none X used P N names).0 e in h.negative f n (h.positive f p)

-- With no conditions none is unmet.
pub no_conditions : (X used : Facts) → unmet X used (conditions [] [] []) ≡ none
unfolding unmet conditions find
no_conditions X used = refl

-- An attack state with both lists empty is met in every state.
pub always-met : (m : Model) (g : ℕ) → g < length (aims m) → {G : Goal} → aim_of m g ≡ state G → G.P ≡ [] → G.N ≡ []
    → (past : History) (S : State) → GoalMet m g past S
always-met m g l {G} e p n past S =
    let X = closure m.clauses S.facts in
    let met = (unmet-none X S.names G.P G.N []).0 (rw (p, n) (no_conditions X S.names)) in
    record { goal = l; closure = X; is_hc = closure-is-HC m.clauses S.facts; meets = rw e met.0 }

module _ (X used : Facts) (P N names : List ℕ) where
  -- The first unmet condition is a positive one exactly if its fact is the first of P that is outside the closure.
  pub kind-positive : (f : ℕ) → (unmet X used (conditions P N names) ≡ some (positive f))
      ↔ ((met rest : List ℕ) × (P ≡ met ++ f ∷ rest) × ((b : ℕ) → b ∈ met → T (X b)) × (T (X f) → ⊥))
  kind-positive f =
      let is = unmet-some X used P N names (positive f) in
      (λ e. first_absent X used P N names (is.0 e), λ (met, rest, e, h, n). is.1 (absent met rest e h n))

  -- It is a negative one exactly if all of P is inside, and its fact is the first of N that is.
  pub kind-negative : (f : ℕ) → (unmet X used (conditions P N names) ≡ some (negative f))
      ↔ (((b : ℕ) → b ∈ P → T (X b)) × (met rest : List ℕ) × (N ≡ met ++ f ∷ rest)
      × ((b : ℕ) → b ∈ met → T (X b) → ⊥) × T (X f))
  kind-negative f =
      let is = unmet-some X used P N names (negative f) in
      (λ e. first-present X used P N names (is.0 e), λ (h, met, rest, e, n, t). is.1 (present h met rest e n t))

  -- It is that of a name exactly if P and N are met, and the name is the first that is used.
  pub kind-unused : (n : ℕ) → (unmet X used (conditions P N names) ≡ some (unused n))
      ↔ (Meets X P N × (met rest : List ℕ) × (names ≡ met ++ n ∷ rest) × Fresh used met × T (used n))
  kind-unused n =
      let is = unmet-some X used P N names (unused n) in
      (λ e. first_used X used P N names (is.0 e), λ (h, met, rest, e, k, t). is.1 (in_use_lem h met rest e k t))

-- ---- names (document 02, wish 9)

-- A rule that makes a name in use never fires.
pub used_never-fires : {m : Model} {k : ℕ} {S S' : State} (n : ℕ) → n ∈ (rule_of m k).names → T (S.names n)
    → Transition m k S S' → ⊥
used_never-fires n k s t = t.fresh n k s

module _ {m : Model} where
  -- On a path no step makes a name that was in use before it.
  pub start-not-made : {S S' : State} {ks : List ℕ} → Path m S ks S' → {n : ℕ} → T (S.names n) → (i : ℕ)
      → Makes m ks i n → ⊥
  start-not-made here s i (l, k) = omega arith
  start-not-made (step t p) {n} s zero (l, k) = t.fresh n k s
  start-not-made (step t p) {n} s (suc i) (l, k) =
      start-not-made p ((t.next.names n).1 (inl s)) i (omega arith, k)

  -- No two steps make the same name.
  pub made-once : {S S' : State} {ks : List ℕ} → Path m S ks S' → {n i j : ℕ} → Makes m ks i n → Makes m ks j n → i ≡ j
  made-once {ks = ks} p {n} = one_number (λ i. Makes m ks i n) (λ i j x y l. not-later p i j l x y)
    where
      not-later : {S S' : State} {ks : List ℕ} → Path m S ks S' → (i j : ℕ) → i < j → Makes m ks i n → Makes m ks j n
          → ⊥
      not-later here i j h (l, k) y = omega arith
      not-later (step t p) zero zero h x y = omega arith
      not-later (step t p) zero (suc j) h (l, k) (l', k') =
          start-not-made p ((t.next.names n).1 (inr k)) j (omega arith, k')
      not-later (step t p) (suc i) zero h x y = omega arith
      not-later (step t p) (suc i) (suc j) h (l, k) (l', k') =
          not-later p i j (omega arith) (omega arith, k) (omega arith, k')

  -- The names in use at the end are those in use before and those that the steps made: none is freed.
  pub names-at-end : {S S' : State} {ks : List ℕ} → Path m S ks S' → (n : ℕ)
      → T (S'.names n) ↔ (T (S.names n) ⊎ ((i : ℕ) × Makes m ks i n))
  names-at-end here n = (λ s. inl s, elim [ inl s ↦ s | inr (i, (l, k)) ↦ absurd (omega arith) ])
  names-at-end (step {k = k} {ks = ks} {S' = next} t p) n =
      let rest = names-at-end p n in
      let here = t.next.names n in (
        λ s. elim (rest.0 s) [
          | inl s ↦ elim (here.0 s) [ inl s ↦ inl s | inr h ↦ inr (0, (omega arith, h)) ]
          | inr (i, (l, h)) ↦ inr (suc i, (omega arith, h))
        ],
        elim [ inl s ↦ rest.1 (inl (here.1 (inl s))) | inr (i, made) ↦ rest.1 (later i made) ],
      )
    where
      later : (i : ℕ) → Makes m (k ∷ ks) i n → T (next.names n) ⊎ ((i : ℕ) × Makes m ks i n)
      later zero (l, h) = inl ((t.next.names n).1 (inr h))
      later (suc i) (l, h) = inr (i, (omega arith, h))

  -- So names only grow.
  pub names_grow : {S S' : State} {ks : List ℕ} → Path m S ks S' → (n : ℕ) → T (S.names n) → T (S'.names n)
  names_grow p n s = (names-at-end p n).1 (inl s)

-- The names in use where a run ends are those in use at the start and those that the steps fired have made.
pub names-left : {m : Model} {t : Trace} {o : Outcome} → IsOutcome m t o → (n : ℕ)
    → T (o.state.names n) ↔ ((n ∈ m.names) ⊎ ((i : ℕ) × Makes m (take o.step t.steps) i n))
unfolding start
names-left {m} j n =
    let at = names-at-end j.path n in
    let first = listed-is m.names n in (
      λ s. elim (at.0 s) [ inl h ↦ inl (first.0 h) | inr h ↦ inr h ],
      λ s. at.1 (elim s [ inl h ↦ inl (first.1 h) | inr h ↦ inr h ]),
    )

-- of a model without names
module _ {m : Model} (w : Nameless m) where
  -- No rule of it makes one.
  none_made : (k n : ℕ) → n ∈ (rule_of m k).names → ⊥
  unfolding rule_of
  none_made k n i =
      elim (below_or_from k (length m.rules)) [
        | inl l ↦ Memᴰ.not-nil (rw (w.rules (rule_of m k) (get_or_in m.rules k _ l)) at i)
        | inr l ↦ Memᴰ.not-nil (rw (get_or-eq_default m.rules _ l) at i)
      ]

  module _ {t : Trace} {o : Outcome} (j : IsOutcome m t o) where
    -- No name is ever in use.
    pub nameless_empty : (n : ℕ) → T (o.state.names n) → ⊥
    nameless_empty n s = elim ((names-left j n).0 s) [
      | inl h ↦ Memᴰ.not-nil (rw w.start at h)
      | inr (i, (l, k)) ↦ none_made _ n k
    ]

    -- No step is blocked for a name.
    pub nameless_not_used : (n : ℕ) → o.ending ≡ Ending.blocked (unused n) → ⊥
    nameless_not_used n z = elim j.ends [
      | attack d s a ↦ let n : ◌≡◌ {A = ℕ} 0 1 = cc in omega arith
      | blocked c d s X h u ↦
          let is : c ≡ unused n = cc in
          let (_, before, rest, e, _, _) = first_used X _ _ _ _ (rw is at u) in
          none_made (get_or t.steps o.step 0) n (rw e (Memᴰ.append_right before (Memᴰ.head refl)))
      | not_met e d s X h u ↦ not-blocked X _ _ u (unused n) (sym d ∙ z)
    ]

-- ---- goals about the past (document 02, wish 11)

-- What is true in one state: "Facts are read in the closure of each state"; not, and, or, implies.
pub fact-is : (f : ℕ) (X : Facts) (h : History) → T (truth (fact f) (X ∷ h)) ↔ T (X f)
fact-is = Histories.fact-is

pub negation-is : (p : Formula) (h : History) → T (truth (negation p) h) ↔ (T (truth p h) → ⊥)
negation-is = Histories.negation-is

module _ (p q : Formula) (h : History) where
  pub both_is : T (truth (Formula.both p q) h) ↔ (T (truth p h) × T (truth q h))
  both_is = Histories.both_is p q h

  pub either_is : T (truth (either p q) h) ↔ (T (truth p h) ⊎ T (truth q h))
  either_is = Histories.either_is p q h

  pub implies-is : T (truth (implies p q) h) ↔ (T (truth p h) → T (truth q h))
  implies-is = Histories.implies-is p q h

  -- Implies is "not the first, or the second".
  pub implies-either : truth (implies p q) h ≡ truth (either (negation p) q) h
  implies-either = Histories.implies-either p q h

module _ (p : Formula) where
  -- "Yesterday is false in the initial state",
  pub yesterday-first : (X : Facts) → truth (yesterday p) (X ∷ []) ≡ false
  yesterday-first = Histories.yesterday-first p

  -- and otherwise its part's truth in the state before.
  pub yesterday-next : (X Y : Facts) (h : History) → truth (yesterday p) (X ∷ Y ∷ h) ≡ truth p (Y ∷ h)
  yesterday-next = Histories.yesterday-next p

  -- Once is its part's truth now, or Once in the state before, if there is one.
  pub once-next : (X : Facts) (h : History) → truth (once p) (X ∷ h) ≡ truth p (X ∷ h) || truth (once p) h
  once-next = Histories.once-next p

  -- Historically is its part's truth now, and Historically in the state before, if there is one.
  pub historically-next : (X : Facts) (h : History)
      → truth (historically p) (X ∷ h) ≡ truth p (X ∷ h) && truth (historically p) h
  historically-next = Histories.historically-next p

  -- Since is its second part's truth now, or its first part's now and Since in the state before, if there is one.
  pub since-next : (q : Formula) (X : Facts) (h : History)
      → truth (since p q) (X ∷ h) ≡ truth q (X ∷ h) || truth p (X ∷ h) && truth (since p q) h
  since-next = Histories.since-next p

  -- The same by the states spoken of, each as the history was so many states ago. Yesterday: there is a state before,
  -- and its part was true there.
  pub yesterday-is : (h : History) → T (truth (yesterday p) h) ↔ ((1 < length h) × T (truth p (drop 1 h)))
  yesterday-is = Histories.yesterday-is p

  -- Once: its part is or was true in some state.
  pub once_is : (h : History) → T (truth (once p) h) ↔ ((j : ℕ) × (j < length h) × T (truth p (drop j h)))
  once_is = Histories.once_is p

  -- Historically: its part is and was true in all states.
  pub historically-is : (h : History)
      → T (truth (historically p) h) ↔ ((j : ℕ) → j < length h → T (truth p (drop j h)))
  historically-is = Histories.historically-is p

  -- "Since needs its second part now or earlier and its first in every state after that"
  pub since-is : (h : History) (q : Formula) → T (truth (since p q) h)
      ↔ ((j : ℕ) × (j < length h) × T (truth q (drop j h)) × ((k : ℕ) → k < j → T (truth p (drop k h))))
  since-is = Histories.since-is p

-- Historically is not Once not.
pub historically-once : (p : Formula) (h : History)
    → truth (historically p) h ≡ truth (negation (once (negation p))) h
historically-once = Histories.historically-once

-- Once is Since with a first part that is true in all states,
pub once-since : (p q : Formula) (h : History) → ((j : ℕ) → j < length h → T (truth p (drop j h)))
    → truth (once q) h ≡ truth (since p q) h
once-since = Histories.once-since

-- as "p or not p" is.
pub always-true : (p : Formula) (h : History) → T (truth (either p (negation p)) h)
always-true = Histories.always-true

-- A formula without Yesterday, Once, Historically and Since depends on the last state alone.
pub last-alone : (p : Formula) → Pastless p → (X : Facts) (h h' : History) → truth p (X ∷ h) ≡ truth p (X ∷ h')
last-alone = Histories.last-alone

-- of closing by a worklist (document 02, wish 5): the clauses and the state of a judged model
module _ {cs : List Clause} {S : Facts} (known : Known cs S) where
  -- "Round numbers .. equal the old ones": every fact's, ..
  pub worked-numbers : (f : ℕ) → (worked cs S).number f ≡ round_number cs S f
  worked-numbers = let (s, e) = worked_rests known in rests_number known s e

  -- .. and so does the number of rounds.
  pub worked-rounds : (worked cs S).latest ≡ rounds cs S
  worked-rounds = let (s, e) = worked_rests known in rests_latest known s e

  -- None waits at the end.
  pub worked-done : (worked cs S).queue ≡ []
  worked-done = (worked_rests known).1

  -- "once, when its fact arrives": no fact is taken twice, and those taken are the closure.
  pub taken-once : Nodup (takes 4096 cs (begun cs S))
      × ((f : ℕ) → listed (takes 4096 cs (begun cs S)) f ≡ closure cs S f)
  taken-once = let (s, e) = worked_rests known in ((rests_all known s e).once, rests_closure known s e)

  -- The count of crossings equals "the number of body places whose fact is in the closure", ..
  pub worked-crossings : (worked cs S).crossings ≡ places_in (closure cs S) cs
  worked-crossings = let (s, e) = worked_rests known in rests_crossings known s e

  -- .. so "it is at most the model's body places", ..
  pub crossings-bound : (worked cs S).crossings ≤ body_places cs
  crossings-bound = rw worked-crossings (places_le (closure cs S) cs)

  -- .. of each of which the index holds the clause's number.
  pub index-length : length (index_below_lem 4096 cs) ≡ body_places cs
  index-length = index_is 4096 cs known.once known.bodies

-- "each body place's clause number, by fact and then clause": of clauses whose body facts are below 4,096 these, ..
pub index-places : (cs : List Clause) → ((c : Clause) → c ∈ cs → (b : ℕ) → b ∈ c.body → b < 4096)
    → IsIndex cs (index_below_lem 4096 cs)
index-places cs = Indexes.index_exactly cs 4096

-- .. and no other list.
pub index_unique : {cs : List Clause} {xs ys : List ℕ} → IsIndex cs xs → IsIndex cs ys → xs ≡ ys
index_unique = Indexes.index_unique

-- "The count of crossings equals the steps of the worklist as defined".
pub steps_are_crossings : (cs : List Clause) (S : Facts) → (worked cs S).crossings ≡ length (steps cs S)
steps_are_crossings = steps-counted
