-- What demands 1 to 3 promise of a verdict (specs/Promises), proved: each theorem in one place, the work in the files
-- beside this one.
use Prim.Native.Nat.{ℕ, zero, suc, ◌≤◌, ◌<◌}
use mathlib.Core.Path.{◌≡◌, refl, sym, ap, ◌∙◌, subst}
use mathlib.Core.Logic.{◌↔◌, ◌⊎◌, inl, inr, ⊎_elim}
use mathlib.Core.Bool.{false}
use mathlib.Core.List.Memᴰ
use mathlib.Core.List.{List, [], ◌∷◌}
use mathlib.Core.Option.{Option, none, some}
use native.Mathlib.Omega.{arith}
use lib.Dec.{T}
use lib.ListN.{get_or}
use Rattle.sets.specs.Sets.{Facts, ◌∈◌}
use Rattle.sets.proofs.Laws.{fails, below_or_from}
use Rattle.meaning.specs.Model.{Rule, Model, Aim, rule_of, aim_of}
use Rattle.meaning.specs.Rounds.{rounds, closure, missing_heads}
use Rattle.meaning.specs.Run.{Ending, Outcome}
use Rattle.meaning.specs.Run.Condition.{unused}
use Rattle.meaning.specs.Published.{HC, TrueAttack}
use Rattle.meaning.specs.Promises.{FirstUnmet, IsOutcome, GoalUnmet, lacks, still_true, EndsSo, rounds_on}
use Rattle.meaning.specs.Promises.EndsSo.{attack as so-attack, blocked as so-blocked, not_met as so_not_met}
use Rattle.meaning.proofs.Theorems.{accepted, run_is, closure-inside, round_number-is, rounds-bound, missing_heads-bound}
use Rattle.meaning.proofs.Running.{the_closure}
use Rattle.meaning.proofs.Runs.{Below, run-below}
use Rattle.facts.specs.Facts.{members}
use Rattle.facts.proofs.Laws.{Bytes, determined}
use Rattle.files.specs.Files.Blamed.{model, trace}
use Rattle.files.specs.Files.{Blamed, fact_count, model_of_lem, trace_of, pair_fault}
use Rattle.files.specs.Answers.{blamed_number}
use Rattle.files.proofs.Laws.{initial-below, clauses-bound, clause-below, rule-below}
use Rattle.files.proofs.Traces.{fine_pair, pair_named}
use Rattle.causes.specs.Causes.{RightPair, Refusing}
use Rattle.causes.proofs.Causes.{pair_cause, cause_range}
use Rattle.causes.proofs.Exact.{right_exactly}
use Rattle.closing.proofs.Laws.{filled_unique}
use Rattle.stepping.specs.Conditions.{stop_number}
use Rattle.reaching.specs.Reaching.{Lent}
use Rattle.checking.specs.Verdict.{no_space_lem, refused, blamed}
use Rattle.running.specs.Outcomes.{number_of, fact_of, kind_of, round_of_lem}
use Rattle.running.specs.Outcomes.{ran, outcome, Left}
use Rattle.checking.specs.Verdict.{refusal, verdict_of_lem, Buffers, Checked}
use Rattle.checking.specs.Promises.{verdict, WellFormed, Stopping, end_number, Given, AtFault, Values}
use Rattle.checking.specs.Promises.{Kinds, InFile}
use Rattle.checking.specs.Promises.InFile.{in_model}
use Rattle.running.specs.declared.Verdict.{Verdict}
use Rattle.checking.proofs.Refusals.{refuses_none, by-cause}
use Rattle.checking.proofs.Causes.{end_range, end-attack, ended-apart, given-room, given-fault, given-run}
use Rattle.checking.proofs.Causes.{refusing_is, refused-is, stopping_is, stop_range, stop_used}
use Rattle.checking.proofs.Naming.{in_closure, no_name, no_kind, named}
use Rattle.checking.proofs.Parts.{fault-at, run_at, fault_in, run_in}
use Rattle.running.proofs.Parts.{goal-ends}

-- ---- one verdict

-- the buffers of bytes that are lent hold bytes
abbrev pub LentBytes : Lent → Type 0
LentBytes l = Bytes l.state × Bytes l.names

module _ (m t : List ℕ) (before : Lent) {a b : Lent} (bytes-a : LentBytes a) (bytes-b : LentBytes b) where
  -- An outcome leaves one state, one table and one set of names.
  pub left_unique : {M : Model} {o : Outcome} → Left M o before a → Left M o before b → a ≡ b
  left_unique x y =
      let states = determined bytes-a.0 bytes-b.0 x.kept y.kept (λ g. x.facts g ∙ sym (y.facts g)) in
      let tables = filled_unique x.rounds y.rounds in
      let names =
      determined bytes-a.1 bytes-b.1 x.names-kept y.names-kept (λ n. x.names n ∙ sym (y.names n)) in
      λ i. record { state = states i; table = tables i; names = names i }

  -- Whatever the refusal, it leaves them.
  pub buffers_unique : (r : Option Verdict) → Buffers m t r before a → Buffers m t r before b → a ≡ b
  unfolding Buffers
  buffers_unique none x y = left_unique x y
  buffers_unique (some v) x y = x ∙ sym y

  -- Two results of running one judged pair are equal in the same way.
  pub run_unique : {v w : Verdict}
      → (v ≡ ran m t (outcome m t)) × Left (model_of_lem m) (outcome m t) before a
      → (w ≡ ran m t (outcome m t)) × Left (model_of_lem m) (outcome m t) before b → (v ≡ w) × (a ≡ b)
  run_unique (v-is, x) (w-is, y) = (v-is ∙ sym w-is, left_unique x y)

  -- Two results of checking one pair with the same buffers are equal in every field of the verdict, every byte and
  -- every entry.
  pub checked_unique : {v w : Verdict} → Checked m t before a v → Checked m t before b w → (v ≡ w) × (a ≡ b)
  checked_unique x y = (x.verdict ∙ sym y.verdict, buffers_unique (refusal m t before) x.buffers y.buffers)

-- ---- a well_formed pair

-- What holds of the default and of each entry holds at every index.
each_at : {A : Type 0} (P : A → Type 0) (xs : List A) (d : A) → P d → ((x : A) → x ∈ xs → P x) → (k : ℕ)
    → P (get_or xs k d)
each_at P [] d z h zero = z
each_at P [] d z h (suc k) = z
each_at P (x ∷ xs) d z h zero = h x (Memᴰ.head refl)
each_at P (x ∷ xs) d z h (suc k) = each_at P xs d z (λ y i. h y (Memᴰ.tail i)) k

module _ {m t : List ℕ} {l : Lent} (w : WellFormed m t l) where
  -- The outcome is the trace's, in document 003's terms, the first condition not met being named, and the verdict is
  -- the outcome's.
  pub first-not-met : IsOutcome (model_of_lem m) (trace_of t) (outcome m t) × (verdict m t l ≡ ran m t (outcome m t))
  unfolding outcome verdict_of_lem
  first-not-met = (run_is (model_of_lem m) (trace_of t) (pair_named m t w.fine), rw (refuses_none m t l w))

  -- The verdict is 0 exactly if the trace is a true attack.
  pub attack_exactly : ((verdict m t l).number ≡ 0) ↔ TrueAttack (model_of_lem m) (trace_of t)
  unfolding outcome ran
  attack_exactly =
      let ends = end-attack (outcome m t).ending in
      let is = accepted (model_of_lem m) (trace_of t) (pair_named m t w.fine) in
      rw first-not-met.1 (λ e. is.0 (ends.0 e), λ a. ends.1 (is.1 a))

  -- The rounds are the sum over the states reached.
  pub rounds_sum : (verdict m t l).rounds ≡ rounds_on first-not-met.0.path
  unfolding ran
  rounds_sum = ap (λ (v : Verdict). v.rounds) first-not-met.1 ∙ first-not-met.0.rounds

  -- Of each state they are at most as many as the different clause heads missing from it, and those are at most 4,096.
  pub rounds-bounded : (S : Facts)
      → (rounds (model_of_lem m).clauses S ≤ missing_heads (model_of_lem m).clauses S)
      × (missing_heads (model_of_lem m).clauses S ≤ 4096)
  rounds-bounded S =
      let few = clauses-bound m (fine_pair m t w.fine).shape in
      (rounds-bound _ S, omega (arith, missing_heads-bound (model_of_lem m).clauses S))

  -- ---- from F on

  -- The last state reached is below F.
  last-below : Below (fact_count m) (outcome m t).state.facts
  unfolding outcome model_of_lem rule_of
  last-below =
      let shape = (fine_pair m t w.fine).shape in
      run-below (model_of_lem m) (trace_of t) (initial-below m shape)
      (each_at (λ (r : Rule). (f : ℕ) → f ∈ r.A → f < fact_count m) (model_of_lem m).rules _
      (λ f i. absurd (Memᴰ.not-nil i)) (λ r i. (rule-below m shape r i).2))

  module _ {after : Lent} {v : Verdict} (checked : Checked m t l after v) where
    -- The buffers are those of the outcome.
    pub left : Left (model_of_lem m) (outcome m t) l after
    unfolding Buffers
    left = rw (refuses_none m t l w) at checked.buffers

    -- No bit from F on is set in the state left.
    pub zero-from-F : (g : ℕ) → fact_count m ≤ g → members after.state g ≡ false
    unfolding Below
    zero-from-F g h = left.facts g ∙ last-below g h

    -- Every entry from F on, of the first 4,096, is 65,535 in the table left.
    pub outside-from-F : (f : ℕ) → fact_count m ≤ f → f < 4096 → get_or after.table f 0 ≡ 65535
    unfolding Below
    outside-from-F f h low =
        left.rounds.entries f low ∙ (round_number-is _ _ f).outside (λ c. omega (arith, inside f c))
      where
        inside : (g : ℕ) → T (closure (model_of_lem m).clauses (outcome m t).state.facts g) → g < fact_count m
        inside =
            closure-inside _ _ (λ g. g < fact_count m)
            (λ g s. ⊎_elim (λ b. b) (λ b. absurd (fails (last-below g b) s)) (below_or_from g (fact_count m)))
            (λ c i _. (clause-below m (fine_pair m t w.fine).shape c i).0)

-- ---- every number has its cause

-- The number of a pair's fault is one of 2 to 9 or 12, and never 8.
pub fault_range : (m t : List ℕ) (b : Blamed) → pair_fault m t ≡ some b
    → Refusing (blamed_number b) × (blamed_number b ≡ 8 → ⊥)
unfolding blamed_number
fault_range m t (model f) e = cause_range (pair_cause m t (model f) e).cause
fault_range m t (trace f) e = cause_range (pair_cause m t (trace f) e).cause

-- The number of a run's outcome is 0, 11, 10 or 13.
pub outcome_range : (m t : List ℕ) → (end_number m t ≡ 0) ⊎ (end_number m t ≡ 11) ⊎ Stopping (end_number m t)
outcome_range m t = end_range (outcome m t).ending

module _ (m t : List ℕ) (l : Lent) where
  -- The verdict's number is given exactly when its cause is there, and in no other case.
  pub numbers : Given m t l (verdict m t l).number
  unfolding refused blamed ran
  numbers =
      by-cause m t l (λ v. Given m t l v.number) (given-room m t l)
      (λ room b e. given-fault m t l room b e (fault_range m t b e).0)
      (λ w. given-run m t l w.room w.fine)

  -- Only a well_formed pair is run.
  pub ran-formed : let k = (verdict m t l).number in (k ≡ 0) ⊎ (k ≡ 11) ⊎ Stopping k → WellFormed m t l
  ran-formed e = let (not-one, not-fault) = ended-apart e in ((numbers.ran _ not-one not-fault).0 refl).0

  -- A pair is well_formed, with enough room, exactly if nothing that is judged before the first step is wrong.
  pub well_formed : WellFormed m t l ↔ ((no_space_lem l ≡ false) × RightPair m t)
  well_formed =
      let exactly = right_exactly m t in
      (λ w. (w.room, exactly.0 w.fine), λ (room, right). record { room = room; fine = exactly.1 right })

  -- Number 8 is never given.
  pub never-eight : (verdict m t l).number ≡ 8 → ⊥
  never-eight e =
      let (_, (_, _, cause)) = (numbers.fault 8 (inl (omega arith))).0 e in
      (cause_range cause).1 refl

  -- Whatever the files and buffers, the verdict is 0 exactly if the pair is well_formed and the trace a true attack.
  pub accepted_exactly : ((verdict m t l).number ≡ 0) ↔ (WellFormed m t l × TrueAttack (model_of_lem m) (trace_of t))
  accepted_exactly =
      (λ e. let w = ran-formed (inl e) in (w, (attack_exactly w).0 e), λ (w, a). (attack_exactly w).1 a)

  -- ---- the bytes at fault

  -- They are what document 01 names for the number.
  pub at-fault : AtFault m t (verdict m t l)
  unfolding refused blamed ran
  at-fault =
      by-cause m t l (AtFault m t) (λ _. record {
        empty = λ _. refl;
        cause = λ h. absurd (omega (arith, refusing_is h));
        entry = λ h. absurd (omega (arith, stopping_is h));
        state = λ e. absurd (omega arith);
        formula = λ e. absurd (omega arith);
      })
      (λ _ b e. fault-at m t b e) (λ w. run_at m t w.fine (first-not-met w).0.ends)

  -- They lie in the file marked.
  pub part_in_file : InFile m t (verdict m t l).part
  unfolding refused blamed ran
  part_in_file =
      by-cause m t l (λ v. InFile m t v.part) (λ _. in_model refl (omega arith))
      (λ _ b e. fault_in m t b (pair_cause m t b e)) (λ w. run_in m t w.fine (first-not-met w).0.ends)

  -- ---- step, fact, rounds, held

  -- They are what document 01 says for the number.
  pub values : Values t (verdict m t l)
  unfolding refused blamed ran number_of
  values =
      by-cause m t l (Values t) (λ _. none_of _ (inl refl) refl refl refl refl)
      (λ _ b e. none_of _ (inr (fault_range m t b e).0) refl refl refl refl) (λ w. of_run (first-not-met w).0.ends)
    where
      none_of : (v : Verdict) → (v.number ≡ 1) ⊎ Refusing v.number → v.step ≡ 0 → v.fact ≡ 65535
          → v.rounds ≡ 0 → v.held ≡ 0 → Values t v
      none_of v k s f r h = record {
        refused = λ _. (s, r, h);
        ended = λ e. absurd (⊎_elim (λ q. omega (arith, refused-is k)) (λ q. omega (arith, refused-is k)) e);
        blocked = λ e. absurd (omega (arith, refused-is k, stopping_is e));
        no_fact = λ _ _. f;
      }

      of_run : EndsSo (model_of_lem m) (trace_of t).goal (trace_of t).steps (outcome m t) → Values t (ran m t (outcome m t))
      of_run (so-attack e s _) =
          let number : number_of (outcome m t).ending ≡ 0 = ap number_of e in
          record {
            refused = λ q. absurd (omega (arith, refused-is q));
            ended = λ _. s;
            blocked = λ q. absurd (omega (arith, stopping_is q));
            no_fact = λ _ _. ap fact_of e;
          }
      of_run (so-blocked c e s X hc u) =
          let number = subst Stopping (sym (ap number_of e)) (stop_range c) in
          record {
            refused = λ q. absurd (omega (arith, stopping_is number, refused-is q));
            ended = λ q.
                absurd (⊎_elim (λ q. omega (arith, stopping_is number)) (λ q. omega (arith, stopping_is number)) q);
            blocked = λ _. s;
            no_fact = λ not _. absurd (not number);
          }
      of_run (so_not_met x e s X hc u) =
          let number : number_of (outcome m t).ending ≡ 11 = ap number_of e ∙ (goal-ends m t 0 u).0 in
          record {
            refused = λ q. absurd (omega (arith, refused-is q));
            ended = λ _. s;
            blocked = λ q. absurd (omega (arith, stopping_is q));
            no_fact = λ _ not. absurd (not number);
          }

  -- ---- the unmet condition

  -- Kind and round are those of the first unmet condition of the blocked rule or of the attack state, and no other
  -- number has any; of a used name it is the first.
  pub kinds : Kinds m t (verdict m t l)
  unfolding refused blamed ran number_of stop_number fact_of kind_of round_of_lem
  kinds =
      by-cause m t l (Kinds m t) (λ _. unkind _ (inl refl) refl refl)
      (λ _ b e. unkind _ (inr (fault_range m t b e).0) refl refl) (λ w. of_run (first-not-met w).0.ends)
    where
      unkind : (v : Verdict) → (v.number ≡ 1) ⊎ Refusing v.number → v.kind ≡ 0 → v.round ≡ 65535 → Kinds m t v
      unkind v n k r = record {
        no_kind = λ _ _. (k, r);
        of_rule = λ e. absurd (omega (arith, refused-is n));
        of_goal = λ e. absurd (omega (arith, refused-is n));
        of_formula = λ e. absurd (omega (arith, refused-is n));
        of_name = λ e. absurd (omega (arith, refused-is n));
      }

      -- what is not met is an attack state's condition, or a formula that is true
      of_aim : {X : Facts} {A : Aim} {x : Ending} → GoalUnmet X (outcome m t).state.names (outcome m t).past A x
          → aim_of (model_of_lem m) (trace_of t).goal ≡ A → (outcome m t).ending ≡ x
          → HC (model_of_lem m).clauses (outcome m t).state.facts X → Kinds m t (ran m t (outcome m t))
      of_aim {X} (lacks {G} {c} u) is e hc =
          let number : number_of (outcome m t).ending ≡ 11 = ap number_of e in
          record {
            no_kind = λ _ not. absurd (not number);
            of_rule = λ q. absurd (omega arith);
            of_goal = λ _ H other.
                let same : G ≡ H = cc in
                rw (← same)
                (named _ _ c (λ n k. no_name (subst (FirstUnmet X _ _ _ []) k u)) (in_closure hc u) (ap fact_of e)
                (ap kind_of e) (ap (round_of_lem _) e));
            of_formula = λ _ p other. let z : ◌≡◌ {A = ℕ} 0 1 = cc in absurd (omega arith);
            of_name = λ q. absurd (omega arith);
          }
      of_aim {X} (still_true {p} h) is e hc =
          let number : number_of (outcome m t).ending ≡ 11 = ap number_of e in
          record {
            no_kind = λ _ not. absurd (not number);
            of_rule = λ q. absurd (omega arith);
            of_goal = λ _ G other. let z : ◌≡◌ {A = ℕ} 0 1 = cc in absurd (omega arith);
            of_formula = λ _ q other.
                let same : p ≡ q = cc in (
                  ap fact_of e,
                  ap kind_of e,
                  ap (round_of_lem _) e,
                  rw (← same, ← the_closure (model_of_lem m) (outcome m t).state hc) h,
                );
            of_name = λ q. absurd (omega arith);
          }

      of_run : EndsSo (model_of_lem m) (trace_of t).goal (trace_of t).steps (outcome m t) → Kinds m t (ran m t (outcome m t))
      of_run (so-attack e _ _) =
          let number : number_of (outcome m t).ending ≡ 0 = ap number_of e in
          record {
            no_kind = λ _ _. (ap kind_of e, ap (round_of_lem _) e);
            of_rule = λ q. absurd (omega arith);
            of_goal = λ q. absurd (omega arith);
            of_formula = λ q. absurd (omega arith);
            of_name = λ q. absurd (omega arith);
          }
      of_run (so-blocked c e h X hc u) =
          let number : number_of (outcome m t).ending ≡ stop_number c = ap number_of e in
          let not-used : stop_number c ≡ 10 → (n : ℕ) → c ≡ unused n → ⊥ = λ q n is. omega (arith, ap stop_number is) in
          record {
            no_kind = λ not _.
                let (k, r) = no_kind _ c (λ q. not (number ∙ q)) in
                (ap kind_of e ∙ k, ap (round_of_lem _) e ∙ r);
            of_rule = λ q.
                named _ _ c (not-used (sym number ∙ q)) (in_closure hc u) (ap fact_of e) (ap kind_of e)
                (ap (round_of_lem _) e);
            of_goal = λ q. absurd (omega (arith, stopping_is (stop_range c)));
            of_formula = λ q. absurd (omega (arith, stopping_is (stop_range c)));
            of_name = λ q. rw (ap fact_of e, ← stop_used c (sym number ∙ q)) (in_closure hc u);
          }
      of_run (so_not_met x e h X hc u) = of_aim u refl e hc
