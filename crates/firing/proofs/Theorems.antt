-- What is promised of the rules that fire (specs/Firing.antt): they are the model's rules with a transition, what a
-- trace with one step more does, and one result.
use Prim.Native.Nat.{ℕ, zero, suc, ◌+◌, ◌≤◌, ◌<◌}
use native.Mathlib.Nat.{not-suc-le-zero, le_of_suc-le-suc}
use native.Mathlib.Bridge.{le_prop}
use native.Mathlib.Omega.{arith}
use mathlib.Core.Path.{◌≡◌, refl, sym, ap, ◌∙◌, subst⁻¹}
use mathlib.Core.Logic.{◌↔◌, inl, inr, ∥∥₁_elim}
use mathlib.Core.Bool.{Bool, true, false, true≢false, ◌||◌}
use mathlib.Core.List.{List, [], ◌∷◌, ◌++◌, Pairwise}
use mathlib.Core.List.Memᴰ
use mathlib.Core.Option.{Option, none, some, map, none-ne-some}
use lib.ListN.{length, get_or}
use Rattle.sets.specs.Sets.{Facts, ◌∈◌}
use Rattle.sets.proofs.Laws.{by-test}
use Rattle.meaning.specs.Model.{Rule, Model, Aim, State, rule_of, aim_of, start, aims}
use Rattle.meaning.specs.Model.Aim.{state, formula}
use Rattle.meaning.specs.Past.{History, truth}
use Rattle.meaning.specs.Rounds.{closure}
use Rattle.meaning.specs.Run.{Condition, Reached, Outcome, unmet, conditions, unmet_of, reach, stays, onward}
use Rattle.meaning.specs.Run.{asked_of, asked, ending, outcome_of, run}
use Rattle.meaning.specs.Run.Ending.{attack, blocked, not_met, upheld}
use Rattle.meaning.proofs.Theorems.{fires_exactly}
use Rattle.meaning.proofs.Reaching.{after_rule}
use Rattle.meaning.proofs.Runs.{reach-fires}
use Rattle.records.specs.Records.{given, ◌or_else◌}
use Rattle.files.specs.Files.{model_of_lem, trace_of, files_fault, steps_fault, pair_fault}
use Rattle.closing.specs.Closing.{no_places_lem}
use Rattle.closing.proofs.Crossings.{index-left}
use Rattle.reaching.specs.Reaching.{Lent}
use Rattle.checking.specs.Verdict.{no_space_lem, refused, refusal, Buffers}
use Rattle.running.specs.Outcomes.{outcome}
use Rattle.running.specs.declared.Verdict.{Verdict}
use Rattle.checking.proofs.Refusals.{either_number}
use Rattle.checking.proofs.Theorems.{LentBytes, buffers_unique}
use Rattle.firing.specs.Firing.{fires_by, numbers_of, firing, IsFiring, list_short, rules_refusal}
use Rattle.firing.specs.Firing.{LeftAsChecked, FiresIn}
use Rattle.std.specs.Prelude.{Result}

-- ---- the numbers of the entries that pass a test

module _ {A : Type 0} (p : A → Bool) where
  number-from : (k : ℕ) (xs : List A) (j : ℕ) → j ∈ numbers_of p k xs → k ≤ j
  unfolding numbers_of
  number-from k [] j m = absurd (Memᴰ.not-nil m)
  number-from k (x ∷ xs) j m =
      let later : j ∈ numbers_of p (suc k) xs → k ≤ j = λ i. let l = number-from (suc k) xs j i in omega arith in
      by-test (p x)
      (λ e. elim (Memᴰ.cases_cons (rw e at m)) [ inl i ↦ omega arith | inr i ↦ later i ])
      (λ e. later (rw e at m))

  -- They ascend,
  numbers_ascend : (k : ℕ) (xs : List A) → Pairwise ◌<◌ (numbers_of p k xs)
  unfolding numbers_of
  numbers_ascend k [] = Pairwise.nil
  numbers_ascend k (x ∷ xs) =
      let rest = numbers_ascend (suc k) xs in
      by-test (p x)
      (λ e. rw e (Pairwise.cons (λ j m. ∥∥₁_elim m le_prop (number-from (suc k) xs j)) rest))
      (λ e. rw e rest)

  -- each is of an entry that passes,
  numbers-pass : (d : A) (k : ℕ) (xs : List A) (i : ℕ) → (k + i) ∈ numbers_of p k xs
      → (i < length xs) × (p (get_or xs i d) ≡ true)
  unfolding numbers_of
  numbers-pass d k [] i m = absurd (Memᴰ.not-nil m)
  numbers-pass d k (x ∷ xs) zero m =
      by-test (p x) (λ e. (omega arith, e))
      (λ e. let l = number-from (suc k) xs (k + 0) (rw e at m) in absurd (omega arith))
  numbers-pass d k (x ∷ xs) (suc i) m =
      let same : k + suc i ≡ suc k + i = omega arith in
      let rest : (k + suc i) ∈ numbers_of p (suc k) xs =
      by-test (p x)
      (λ e. elim (Memᴰ.cases_cons (rw e at m)) [ inl z ↦ absurd (omega arith) | inr j ↦ j ]) (λ e. rw e at m)
      in
      let (l, e) = numbers-pass d (suc k) xs i (rw same at rest) in
      (omega arith, e)

  -- and each entry that passes has its own.
  numbers-all : (d : A) (k : ℕ) (xs : List A) (i : ℕ) → i < length xs → p (get_or xs i d) ≡ true
      → (k + i) ∈ numbers_of p k xs
  unfolding numbers_of
  numbers-all d k [] i h e = absurd (not-suc-le-zero h)
  numbers-all d k (x ∷ xs) zero h e =
      let same : k + 0 ≡ k = omega arith in
      rw (e, same) (Memᴰ.head refl)
  numbers-all d k (x ∷ xs) (suc i) h e =
      let same : suc k + i ≡ k + suc i = omega arith in
      let rest : (k + suc i) ∈ numbers_of p (suc k) xs =
      rw same at (numbers-all d (suc k) xs i (le_of_suc-le-suc h) e)
      in
      by-test (p x) (λ f. rw f (Memᴰ.tail rest)) (λ f. rw f rest)

-- ---- the rules with a transition

-- A rule fires exactly if none of its conditions is unmet.
fires-is : (m : Model) (S : State) (r : Rule)
    → (fires_by (closure m.clauses S.facts) S.names r ≡ true) ↔ (unmet_of m S r ≡ none)
unfolding fires_by unmet_of
fires-is m S r = go (unmet_of m S r) refl
  where
    go : (o : Option Condition) → unmet_of m S r ≡ o
        → (fires_by (closure m.clauses S.facts) S.names r ≡ true) ↔ (unmet_of m S r ≡ none)
    go none e = (λ _. e, λ _. rw (e, fires_by))
    go (some c) e = (
      λ t. let f : false ≡ true = sym (rw (e, fires_by)) ∙ t in absurd (true≢false (sym f)),
      λ n. absurd (none-ne-some c (sym n ∙ e)),
    )

module _ (m : Model) (S : State) where
  -- A rule's number is listed exactly if it is a rule of the model with no unmet condition.
  pub firing-unmet : (k : ℕ) → (k ∈ firing m S) ↔ ((k < length m.rules) × (unmet_of m S (rule_of m k) ≡ none))
  unfolding firing rule_of
  firing-unmet k =
      let p = fires_by (closure m.clauses S.facts) S.names in
      let d : Rule = record { P = []; N = []; A = []; names = [] } in
      let same : 0 + k ≡ k = omega arith in (
        λ i. let (l, e) = numbers-pass p d 0 m.rules k (rw same i) in (l, (fires-is m S _).0 e),
        λ (l, e). rw same at (numbers-all p d 0 m.rules k l ((fires-is m S _).1 e)),
      )

  -- The numbers are the rules with a transition from the state, in document 003's terms, each before those after it.
  pub firing-is : IsFiring m S (firing m S)
  unfolding firing
  firing-is = record {
    ascends = numbers_ascend _ 0 m.rules;
    these = λ k. (
      λ i. let (l, e) = (firing-unmet k).0 i in (fires_exactly m k S l).1 e,
      λ (S', t). (firing-unmet k).1 (t.rule, (fires_exactly m k S t.rule).0 (S', t)),
    );
  }

-- ---- a trace with one step more

-- Where all steps fire, one more stops for the first unmet condition of its rule in the last state, if there is one.
pub record OneMore (m : Model) (S : State) (ks : List ℕ) (k : ℕ) : Type 0 where
  pub stop : (reach m S (ks ++ k ∷ [])).stop ≡ unmet_of m (reach m S ks).state (rule_of m k)
  pub fired : unmet_of m (reach m S ks).state (rule_of m k) ≡ none → (reach m S (ks ++ k ∷ [])).fired ≡ suc (length ks)
  pub before : (c : Condition) → unmet_of m (reach m S ks).state (rule_of m k) ≡ some c
      → (reach m S (ks ++ k ∷ [])).fired ≡ length ks

one_more : (m : Model) (k : ℕ) (ks : List ℕ) (S : State) → (reach m S ks).stop ≡ none → OneMore m S ks k
unfolding reach stays onward
one_more m k [] S e = go (unmet_of m S (rule_of m k)) refl
  where
    go : (o : Option Condition) → unmet_of m S (rule_of m k) ≡ o → OneMore m S [] k
    go none u = record {
      stop = ap (λ (r : Reached). r.stop) (reach-fires m S k [] u) ∙ sym u;
      fired = λ _. ap (λ (r : Reached). r.fired) (reach-fires m S k [] u);
      before = λ c v. absurd (none-ne-some c (sym u ∙ v));
    }
    go (some c) u = record {
      stop = rw (u, reach);
      fired = λ v. absurd (none-ne-some c (sym v ∙ u));
      before = λ d v. rw (u, reach);
    }
one_more m k (j ∷ js) S e = go (unmet_of m S (rule_of m j)) refl (one_more m k js (after_rule m j S))
  where
    go : (o : Option Condition) → unmet_of m S (rule_of m j) ≡ o
        → ((reach m (after_rule m j S) js).stop ≡ none → OneMore m (after_rule m j S) js k) → OneMore m S (j ∷ js) k
    go (some c) u further =
        let stopped : (reach m S (j ∷ js)).stop ≡ some c = rw (u, reach) in
        absurd (none-ne-some c (sym e ∙ stopped))
    go none u further =
        let short = reach-fires m S j js u in
        let long = reach-fires m S j (js ++ k ∷ []) u in
        let rest = further (sym (ap (λ (r : Reached). r.stop) short) ∙ e) in
        let asked : unmet_of m (reach m (after_rule m j S) js).state (rule_of m k)
        ≡ unmet_of m (reach m S (j ∷ js)).state (rule_of m k) =
        ap (λ (r : Reached). unmet_of m r.state (rule_of m k)) (sym short)
        in
        record {
          stop = ap (λ (r : Reached). r.stop) long ∙ rest.stop ∙ asked;
          fired = λ v. ap (λ (r : Reached). r.fired) long ∙ ap suc (rest.fired (asked ∙ v));
          before = λ c v. ap (λ (r : Reached). r.fired) long ∙ ap suc (rest.before c (asked ∙ v));
        }

-- ---- a trace that is blocked

-- Where a step stops, its rule has that unmet condition in the state reached.
stopped-at : (m : Model) (c : Condition) (ks : List ℕ) (S : State) → (reach m S ks).stop ≡ some c
    → unmet_of m (reach m S ks).state (rule_of m (get_or ks (reach m S ks).fired 0)) ≡ some c
unfolding reach stays onward
stopped-at m c [] S e = absurd (none-ne-some c e)
stopped-at m c (j ∷ js) S e = go (unmet_of m S (rule_of m j)) refl (stopped-at m c js (after_rule m j S))
  where
    At : Reached → Type 0
    At r = unmet_of m r.state (rule_of m (get_or (j ∷ js) r.fired 0)) ≡ some c

    go : (o : Option Condition) → unmet_of m S (rule_of m j) ≡ o
        → ((reach m (after_rule m j S) js).stop ≡ some c
        → unmet_of m (reach m (after_rule m j S) js).state
        (rule_of m (get_or js (reach m (after_rule m j S) js).fired 0)) ≡ some c)
        → At (reach m S (j ∷ js))
    go (some d) u further =
        let here : reach m S (j ∷ js) ≡ stays S (some d) = rw (u, reach) in
        let same : some d ≡ some c = sym (ap (λ (r : Reached). r.stop) here) ∙ e in
        subst⁻¹ At here (u ∙ same)
    go none u further =
        let on = reach-fires m S j js u in
        subst⁻¹ At on (further (sym (ap (λ (r : Reached). r.stop) on) ∙ e))

-- A blocked trace's blocked rule is not in the answer.
pub blocked-not-listed : (m t : List ℕ) (c : Condition)
    → (reach (model_of_lem m) (start (model_of_lem m)) (trace_of t).steps).stop ≡ some c
    → get_or (trace_of t).steps (outcome m t).step 0 ∈ firing (model_of_lem m) (outcome m t).state → ⊥
unfolding outcome run outcome_of
blocked-not-listed m t c e i =
    let stopped = stopped-at (model_of_lem m) c (trace_of t).steps (start (model_of_lem m)) e in
    none-ne-some c (sym ((firing-unmet (model_of_lem m) _ _).0 i).1 ∙ stopped)

-- ---- two traces

-- What is asked of a last state blocks no step.
asked-not : (a : Aim) (X used : Facts) (h : History) (c : Condition) → asked_of a X used h ≡ blocked c → ⊥
unfolding asked_of
asked-not (state G) X used h c e = go (unmet X used (conditions G.P G.N [])) refl
  where
    go : (o : Option Condition) → unmet X used (conditions G.P G.N []) ≡ o → ⊥
    go none u = let is : attack ≡ blocked c = sym (rw (u, asked_of)) ∙ e in let z : ◌≡◌ {A = ℕ} 0 1 = cc in omega arith
    go (some d) u =
        let is : not_met d ≡ blocked c = sym (rw (u, asked_of)) ∙ e in let z : ◌≡◌ {A = ℕ} 0 1 = cc in omega arith
asked-not (formula p) X used h c e =
    by-test (truth p (X ∷ h))
    (λ u. let is : upheld ≡ blocked c = rw u at e in let z : ◌≡◌ {A = ℕ} 0 1 = cc in omega arith)
    (λ u. let is : attack ≡ blocked c = rw u at e in let z : ◌≡◌ {A = ℕ} 0 1 = cc in omega arith)

-- A run is blocked where its steps stop, and nowhere else.
stops-blocked : (m : Model) (g : ℕ) (r : Reached) (c : Condition) → r.stop ≡ some c → ending m g r ≡ blocked c
unfolding ending
stops-blocked m g r c e = rw (e, ending)

not-blocked : (m : Model) (g : ℕ) (r : Reached) → r.stop ≡ none → (c : Condition) → ending m g r ≡ blocked c → ⊥
unfolding ending asked
not-blocked m g r e c is =
    let asks : ending m g r ≡ asked m g r.past r.state = rw (e, ending) in
    asked-not (aim_of m g) _ _ _ c (sym asks ∙ is)

-- Two traces, the second with one step more, the steps of the first all firing.
module _ (m t t' : List ℕ) (k : ℕ) (longer : (trace_of t').steps ≡ (trace_of t).steps ++ k ∷ [])
    (all : (reach (model_of_lem m) (start (model_of_lem m)) (trace_of t).steps).stop ≡ none) where
  abbrev M : Model
  M = model_of_lem m

  more : OneMore M (start M) (trace_of t).steps k
  more = one_more M k (trace_of t).steps (start M) all

  last-state : (outcome m t).state ≡ (reach M (start M) (trace_of t).steps).state
  unfolding outcome run outcome_of
  last-state = refl

  -- where the second trace's steps lead
  abbrev there : Reached
  there = reach M (start M) ((trace_of t).steps ++ k ∷ [])

  further : outcome m t' ≡ outcome_of M (trace_of t').goal there
  unfolding outcome run
  further = ap (λ (ks : List ℕ). outcome_of M (trace_of t').goal (reach M (start M) ks)) longer

  -- A rule that is in the answer fires as the next step,
  pub listed-fires : k ∈ firing M (outcome m t).state
      → ((outcome m t').step ≡ suc (length (trace_of t).steps))
      × ((c : Condition) → (outcome m t').ending ≡ blocked c → ⊥)
  unfolding outcome_of
  listed-fires i =
      let u = ((firing-unmet M (reach M (start M) (trace_of t).steps).state k).0 (rw last-state at i)).1 in (
        ap (λ (o : Outcome). o.step) further ∙ more.fired u,
        λ c e.
            let ends = ap (λ (o : Outcome). o.ending) further in
            not-blocked M (trace_of t').goal there (more.stop ∙ u) c (sym ends ∙ e),
      )

  -- and any other blocks there.
  pub other_blocks : k < length M.rules → (k ∈ firing M (outcome m t).state → ⊥)
      → ((outcome m t').step ≡ length (trace_of t).steps)
      × ((c : Condition) × ((outcome m t').ending ≡ blocked c))
  unfolding outcome_of
  other_blocks l n = go (unmet_of M (reach M (start M) (trace_of t).steps).state (rule_of M k)) refl
    where
      go : (o : Option Condition) → unmet_of M (reach M (start M) (trace_of t).steps).state (rule_of M k) ≡ o
          → ((outcome m t').step ≡ length (trace_of t).steps)
          × ((c : Condition) × ((outcome m t').ending ≡ blocked c))
      go none u = absurd (n (rw last-state ((firing-unmet M _ k).1 (l, u))))
      go (some c) u = (
        ap (λ (o : Outcome). o.step) further ∙ more.before c u,
        (c, ap (λ (o : Outcome). o.ending) further ∙ stops-blocked M (trace_of t').goal there c (more.stop ∙ u)),
      )

-- ---- refusals

module _ (m t : List ℕ) (l : Lent) (ix list : List ℕ) where
  -- With room for the list and the index the numbers are the check's,
  pub refuses_as_check : (list_short m list || no_places_lem m ix) ≡ false
      → rules_refusal m t l ix list ≡ map (λ (v : Verdict). v.number) (refusal m t l)
  unfolding rules_refusal refusal pair_fault given ◌or_else◌ refused
  refuses_as_check enough =
      let steps = steps_fault (length (aims (model_of_lem m))) (length (model_of_lem m).rules) t in
      by-test (no_space_lem l) (λ e. rw e) (λ e. rw (e, enough) (either_number (files_fault m t) steps))

  -- and without it 1 is given where sizes, versions and model are right, whatever the trace.
  pub short-refused : (list_short m list || no_places_lem m ix) ≡ true → files_fault m t ≡ none
      → rules_refusal m t l ix list ≡ some 1
  unfolding rules_refusal given ◌or_else◌
  short-refused short files = by-test (no_space_lem l) (λ e. rw e) (λ e. rw (e, files, short))

-- ---- one result

module _ (m t : List ℕ) (before : Lent) {a b : Lent} (bytes-a : LentBytes a) (bytes-b : LentBytes b) where
  -- The buffers are left in one way.
  pub left_unique : (refused : Option ℕ) → LeftAsChecked refused m t before a → LeftAsChecked refused m t before b
      → a ≡ b
  unfolding LeftAsChecked Buffers
  left_unique none x y = buffers_unique m t before bytes-a bytes-b none x y
  left_unique (some k) x y = x ∙ sym y

  -- Two results that meet the promise for the same files and what is lent are equal: the answer, and every byte and
  -- entry.
  pub rules_unique : (ix ia ib list la lb : List ℕ) (r s : Result ℕ ℕ) → FiresIn m t before a ix ia list la r
      → FiresIn m t before b ix ib list lb s → (r ≡ s) × (a ≡ b) × (ia ≡ ib) × (la ≡ lb)
  rules_unique ix ia ib list la lb r s x y =
      let refused = rules_refusal m t before ix list in (
        x.answers ∙ sym y.answers,
        left_unique refused x.buffers y.buffers,
        index-left refused (model_of_lem m).clauses ix ia ib x.index y.index,
        x.numbers ∙ sym y.numbers,
      )
