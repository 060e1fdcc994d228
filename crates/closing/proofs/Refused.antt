-- What closing refuses, and why: each refusal has its cause, and where it answers rounds no cause is there.
use Prim.Native.Nat.{ℕ, ◌≤◌, ◌<◌}
use mathlib.Core.Path.{◌≡◌, refl, sym, ap, ◌∙◌, subst}
use mathlib.Core.Logic.{◌⊎◌, ◌↔◌, inl, inr, ⊎_elim}
use mathlib.Core.Bool.{Bool, true, false, true≢false, ◌&&◌}
use mathlib.Core.List.{List}
use mathlib.Core.Option.{Option, none, some, map, none-ne-some, some-injective}
use native.Mathlib.Nat.{lt_of_lt_of_le}
use native.Mathlib.Omega.{arith}
use borrow.Author.Tests.{ltb-true, ltb-false, le-leb, leb-true}
use lib.Dec.{T, leb, ltb}
use lib.ListN.{length}
use Rattle.std.specs.Prelude.{Result, Ok, Err}
use Rattle.sets.specs.Sets.{first}
use Rattle.sets.proofs.Laws.{is_true, passes, fails, both, by-test, below_or_from, first_hit, first-before}
use Rattle.facts.specs.Facts.{members}
use Rattle.facts.proofs.Laws.{beyond}
use Rattle.records.specs.Records.{given, ◌or_else◌}
use Rattle.records.specs.Refusals.{Fault}
use Rattle.records.specs.Refusals.{answer_or}
use Rattle.files.specs.Files.{fact_count, model_fault, model_of_lem}
use Rattle.causes.proofs.Causes.{alone-cause}
use Rattle.causes.proofs.Exact.{model-right, model-number, model_exactly}
use Rattle.meaning.specs.Rounds.{rounds}
use Rattle.closing.specs.Closing.{no_room_lem, some_from, state_refusal, close_refusal, Table, Closes}
use Rattle.closing.specs.Closing.{Room, RightAlone, RefusedFor, Answerable}

-- ---- room

module _ (state table : List ℕ) where
  pub short-is : no_room_lem state table ≡ true → (length state < 512) ⊎ (length table < 4096)
  unfolding no_room_lem
  short-is e =
      by-test (ltb (length state) 512) (λ q. inl (ltb-true _ _ q)) (λ q. inr (ltb-true _ _ (rw q at e)))

  pub room-is : no_room_lem state table ≡ false → Room state table
  unfolding no_room_lem
  room-is e =
      by-test (ltb (length state) 512) (λ q. absurd (true≢false (rw q at e)))
      (λ q. record { bytes = ltb-false _ _ q; entries = ltb-false _ _ (rw q at e) })

-- ---- a bit from F on

module _ (F : ℕ) (state : List ℕ) where
  abbrev from : ℕ → Bool
  from f = leb F f && members state f

  some_is : some_from F (members state) ≡ true → (f : ℕ) × (F ≤ f) × T (members state f)
  unfolding some_from
  some_is e =
      let hit = first_hit from 4096 (ltb-true _ _ e) in
      let (low, in-set) = (both (leb F (first from 4096)) (members state (first from 4096))).0 (passes hit) in
      (first from 4096, leb-true F _ (is_true low), in-set)

  none_is : some_from F (members state) ≡ false → (f : ℕ) → F ≤ f → members state f ≡ false
  unfolding some_from
  none_is e f low = ⊎_elim near (beyond 512 state f) (below_or_from f 4096)
    where
      near : f < 4096 → members state f ≡ false
      near h =
          let all : 4096 ≤ first from 4096 = ltb-false _ _ e in
          rw (le-leb F f low) at (first-before from 4096 f (lt_of_lt_of_le h all))

-- ---- the causes

module _ (m state table : List ℕ) where
  fault-cause : Room state table → (f : Fault) → model_fault m ≡ some f → RefusedFor m state table f.number
  fault-cause room =
      alone-cause m (RefusedFor m state table) (RefusedFor.long room) (RefusedFor.version room)
      (λ _ _. RefusedFor.wrong room)

  pub alone : model_fault m ≡ none → RightAlone m
  alone e =
      let (size, first, right) = (model_exactly m).0 e in
      record { size = size; first = first; model = right }

  -- The last number is given for a bit from F on, and for nothing else.
  state-cause : Room state table → RightAlone m → {k : ℕ} → state_refusal m state ≡ some k → RefusedFor m state table k
  unfolding given
  state-cause room right {k} h =
      by-test (some_from (fact_count m) (members state))
      (λ b.
      let (f, low, in-set) = some_is (fact_count m) state b in
      subst (RefusedFor m state table) (some-injective _ k (rw b at h)) (RefusedFor.fact room right f low in-set))
      (λ b. absurd (none-ne-some k (rw b at h)))

  state-fine : state_refusal m state ≡ none → some_from (fact_count m) (members state) ≡ false
  unfolding given
  state-fine h =
      by-test (some_from (fact_count m) (members state)) (λ b. absurd (none-ne-some _ (sym (rw b at h)))) (λ b. b)

  pub refusal-cause : {k : ℕ} → close_refusal m state table ≡ some k → RefusedFor m state table k
  unfolding close_refusal given ◌or_else◌
  refusal-cause {k} h =
      go (no_room_lem state table) refl (model_fault m) refl (state_refusal m state) refl h
    where
      go : (short : Bool) → no_room_lem state table ≡ short → (found : Option Fault) → model_fault m ≡ found
          → (last : Option ℕ) → state_refusal m state ≡ last
          → (given short 1 or_else map (λ f. f.number) found or_else last) ≡ some k → RefusedFor m state table k
      go true s found e last b h = let is : 1 ≡ k = cc in rw (← is) (RefusedFor.room (short-is state table s))
      go false s (some f) e last b h =
          let is : f.number ≡ k = cc in rw (← is) (fault-cause (room-is state table s) f e)
      go false s none e last b h = state-cause (room-is state table s) (alone e) (b ∙ h)

  refusal-none : close_refusal m state table ≡ none → Answerable m state table
  unfolding close_refusal given ◌or_else◌
  refusal-none h =
      go (no_room_lem state table) refl (model_fault m) refl (state_refusal m state) refl h
    where
      go : (short : Bool) → no_room_lem state table ≡ short → (found : Option Fault) → model_fault m ≡ found
          → (last : Option ℕ) → state_refusal m state ≡ last
          → (given short 1 or_else map (λ f. f.number) found or_else last) ≡ none → Answerable m state table
      go true s found e last b h = absurd (none-ne-some 1 (sym h))
      go false s (some f) e last b h = absurd (none-ne-some f.number (sym h))
      go false s none e last b h =
          record {
            room = room-is state table s;
            model = alone e;
            facts = none_is (fact_count m) state (state-fine (b ∙ h));
          }

-- ---- one cause

pub short : {state table : List ℕ} → (length state < 512) ⊎ (length table < 4096) → Room state table → ⊥
short (inl h) room = omega (arith, room.bytes)
short (inr h) room = omega (arith, room.entries)

module _ {m state table : List ℕ} where
  -- Causes for what is lent have one number.
  pub cause-one : {j k : ℕ} → RefusedFor m state table j → RefusedFor m state table k → j ≡ k
  cause-one (RefusedFor.room h1) (RefusedFor.room h2) = refl
  cause-one (RefusedFor.room h1) (RefusedFor.long r2 l2) = absurd (short h1 r2)
  cause-one (RefusedFor.room h1) (RefusedFor.version r2 s2 v2) = absurd (short h1 r2)
  cause-one (RefusedFor.room h1) (RefusedFor.wrong r2 s2 v2 c2) = absurd (short h1 r2)
  cause-one (RefusedFor.room h1) (RefusedFor.fact r2 a2 f2 l2 t2) = absurd (short h1 r2)
  cause-one (RefusedFor.long r1 l1) (RefusedFor.room h2) = absurd (short h2 r1)
  cause-one (RefusedFor.long r1 l1) (RefusedFor.long r2 l2) = refl
  cause-one (RefusedFor.long r1 l1) (RefusedFor.version r2 s2 v2) = absurd (omega arith)
  cause-one (RefusedFor.long r1 l1) (RefusedFor.wrong r2 s2 v2 c2) = absurd (omega arith)
  cause-one (RefusedFor.long r1 l1) (RefusedFor.fact r2 a2 f2 l2 t2) = absurd (omega (arith, a2.size))
  cause-one (RefusedFor.version r1 s1 v1) (RefusedFor.room h2) = absurd (short h2 r1)
  cause-one (RefusedFor.version r1 s1 v1) (RefusedFor.long r2 l2) = absurd (omega arith)
  cause-one (RefusedFor.version r1 s1 v1) (RefusedFor.version r2 s2 v2) = refl
  cause-one (RefusedFor.version r1 s1 v1) (RefusedFor.wrong r2 s2 v2 c2) = absurd (v1 v2)
  cause-one (RefusedFor.version r1 s1 v1) (RefusedFor.fact r2 a2 f2 l2 t2) = absurd (v1 a2.first)
  cause-one (RefusedFor.wrong r1 s1 v1 c1) (RefusedFor.room h2) = absurd (short h2 r1)
  cause-one (RefusedFor.wrong r1 s1 v1 c1) (RefusedFor.long r2 l2) = absurd (omega arith)
  cause-one (RefusedFor.wrong r1 s1 v1 c1) (RefusedFor.version r2 s2 v2) = absurd (v2 v1)
  cause-one (RefusedFor.wrong r1 s1 v1 c1) (RefusedFor.wrong r2 s2 v2 c2) = model-number m c1 c2
  cause-one (RefusedFor.wrong r1 s1 v1 c1) (RefusedFor.fact r2 a2 f2 l2 t2) = absurd (model-right a2.model c1)
  cause-one (RefusedFor.fact r1 a1 f1 l1 t1) (RefusedFor.room h2) = absurd (short h2 r1)
  cause-one (RefusedFor.fact r1 a1 f1 l1 t1) (RefusedFor.long r2 l2) = absurd (omega (arith, a1.size))
  cause-one (RefusedFor.fact r1 a1 f1 l1 t1) (RefusedFor.version r2 s2 v2) = absurd (v2 a1.first)
  cause-one (RefusedFor.fact r1 a1 f1 l1 t1) (RefusedFor.wrong r2 s2 v2 c2) = absurd (model-right a1.model c2)
  cause-one (RefusedFor.fact r1 a1 f1 l1 t1) (RefusedFor.fact r2 a2 f2 l2 t2) = refl

  -- Where one is there, closing can't answer.
  pub cause_answerable : {k : ℕ} → Answerable m state table → RefusedFor m state table k → ⊥
  cause_answerable a (RefusedFor.room h) = short h a.room
  cause_answerable a (RefusedFor.long r l) = omega (arith, a.model.size)
  cause_answerable a (RefusedFor.version r s v) = v a.model.first
  cause_answerable a (RefusedFor.wrong r s v c) = model-right a.model.model c
  cause_answerable a (RefusedFor.fact r w f l t) = fails (a.facts f l) t

-- ---- the answers

module _ {m state before after : List ℕ} where
  -- Where closing refuses, the number's cause is there and nothing before it, and the table is unchanged.
  pub closing_refused : {k : ℕ} → Closes m state before after (Err k)
      → RefusedFor m state before k × (after ≡ before)
  unfolding Table
  closing_refused {k} c = go (close_refusal m state before) refl c.answers c.table
    where
      go : (r : Option ℕ) → close_refusal m state before ≡ r
          → Err k ≡ answer_or r (rounds (model_of_lem m).clauses (members state))
          → Table r (model_of_lem m).clauses (members state) before after → RefusedFor m state before k × (after ≡ before)
      go none e a t = let z : ◌≡◌ {A = ℕ} 0 1 = cc in absurd (omega arith)
      go (some j) e a t = let is : j ≡ k = cc in (refusal-cause m state before (rw is at e), t)

  -- Where it answers rounds, there is room, the model is well_formed and the state has no fact from F on.
  pub closing_answered : {n : ℕ} → Closes m state before after (Ok n) → Answerable m state before
  closing_answered {n} c = go (close_refusal m state before) refl c.answers
    where
      go : (r : Option ℕ) → close_refusal m state before ≡ r
          → Ok n ≡ answer_or r (rounds (model_of_lem m).clauses (members state)) → Answerable m state before
      go none e a = refusal-none m state before e
      go (some j) e a = let z : ◌≡◌ {A = ℕ} 0 1 = cc in absurd (omega arith)

-- Closing refuses with a number exactly if that number's cause is there.
pub closing_numbers : {m state before after : List ℕ} {r : Result ℕ ℕ} → Closes m state before after r
    → (k : ℕ) → (r ≡ Err k) ↔ RefusedFor m state before k
closing_numbers {m} {state} {before} {after} {r} c k =
    (λ e. (closing_refused (subst (Closes m state before after) e c)).0, λ cause. go r c cause)
  where
    go : (r : Result ℕ ℕ) → Closes m state before after r → RefusedFor m state before k → r ≡ Err k
    go (Ok n) c cause = absurd (cause_answerable (closing_answered c) cause)
    go (Err j) c cause = ap Err (cause-one (closing_refused c).0 cause)
