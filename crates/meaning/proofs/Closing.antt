-- Rounds: what the next round adds, that the rounds come to rest in time, and what that gives of the closure and of
-- round numbers.
use Prim.Native.Nat.{ℕ, zero, suc, ◌+◌, ◌≤◌, ◌<◌}
use native.Mathlib.Nat.{add-zero, add-suc, eq-or-lt_of_le}
use native.Mathlib.Numerals.{add-one}
use native.Mathlib.Omega.{arith}
use mathlib.Core.Path.{◌≡◌, refl, sym, fun_ext}
use mathlib.Core.Logic.{◌↔◌, ◌⊎◌, inl, inr}
use mathlib.Core.Bool.{Bool, true, false, not, ◌&&◌, ◌||◌, cond}
use mathlib.Core.List.Memᴰ
use mathlib.Core.List.{List, map}
use lib.Dec.{T, eqb, eqb→eq, eqb_refl}
use lib.ListN.{length, length-map}
use Rattle.sets.specs.Sets.{Facts, any, first, ◌∈◌}
use Rattle.meaning.specs.Model.{Clause}
use Rattle.meaning.specs.Rounds.{stands, next, round, obeys, rounds, closure, round_number, missing_heads}
use Rattle.meaning.specs.Published.{HC}
use Rattle.meaning.specs.Promises.{IsRounds, AreMissingHeads, IsRoundNumber}
use Rattle.sets.proofs.Laws.{is_true, passes, fails, by-test, same_test, both, either, negated, implies, implies_out}
use Rattle.sets.proofs.Laws.{every_in, every_intro, every_out, any_in, any_intro}
use Rattle.sets.proofs.Laws.{first_hit, first-before, first_passes}
use Rattle.meaning.proofs.Counting.{different_le_length, different_lt, Picked, picked, different-is}

module _ (cs : List Clause) where
  -- The predicate holds the head of every clause whose body it holds.
  abbrev pub Obeys : (ℕ → Type 0) → Type 0
  Obeys Y = (c : Clause) → c ∈ cs → ((b : ℕ) → b ∈ c.body → Y b) → Y c.head

  -- A clause's body stands by test exactly if each fact of it is in the set.
  stands-is : (X : Facts) (c : Clause) → T (stands X c) ↔ ((b : ℕ) → b ∈ c.body → T (X b))
  unfolding stands
  stands-is X c = (every_in X c.body, every_intro X c.body)

  -- A set obeys the clauses by test exactly if it does so as a predicate.
  pub obeys-is : (X : Facts) → T (obeys cs X) ↔ Obeys (λ f. T (X f))
  unfolding obeys
  obeys-is X =
      let obeyed : Clause → Bool = λ c. not (stands X c) || X c.head in (
        λ t c m h. (implies (stands X c) (X c.head)).0 (every_in obeyed cs t c m) ((stands-is X c).1 h),
        λ o. every_intro obeyed cs (λ c m. (implies (stands X c) (X c.head)).1 (λ t. o c m ((stands-is X c).0 t))),
      )

  -- The next round is the round together with every head of a clause whose body stands in the round.
  pub next-is : (X : Facts) (f : ℕ) → T (next cs X f)
      ↔ (T (X f) ⊎ ((c : Clause) × (c ∈ cs) × (c.head ≡ f) × ((b : ℕ) → b ∈ c.body → T (X b))))
  unfolding next
  next-is X f =
      let gives : Clause → Bool = λ c. eqb c.head f && stands X c in (
        λ t. elim ((either (X f) (any gives cs)).0 t) [
          | inl s ↦ inl s
          | inr s ↦
              let (c, m, g) = any_in gives cs s in
              let (e, b) = (both (eqb c.head f) (stands X c)).0 g in
              inr (c, m, eqb→eq c.head f e, (stands-is X c).0 b)
        ],
        λ t. (either (X f) (any gives cs)).1 (elim t [
          | inl s ↦ inl s
          | inr (c, m, e, b) ↦
              let g = (both (eqb c.head f) (stands X c)).1 (rw e (eqb_refl f), (stands-is X c).1 b) in
              inr (any_intro gives cs c m g)
        ]),
      )

  -- The next round holds the round.
  pub next-keeps : (X : Facts) (f : ℕ) → T (X f) → T (next cs X f)
  next-keeps X f t = (next-is X f).1 (inl t)

  -- The next round holds the head of every clause whose body stands in the round.
  pub next-fires : (X : Facts) (c : Clause) → c ∈ cs → ((b : ℕ) → b ∈ c.body → T (X b)) → T (next cs X c.head)
  next-fires X c m h = (next-is X c.head).1 (inr (c, m, refl, h))

  -- The next round is inside every predicate that holds the round and obeys the clauses.
  pub next-inside : (X : Facts) (Y : ℕ → Type 0) → ((f : ℕ) → T (X f) → Y f) → Obeys Y
      → (f : ℕ) → T (next cs X f) → Y f
  next-inside X Y h o f t = elim ((next-is X f).0 t) [
    | inl s ↦ h f s
    | inr (c, m, e, b) ↦ rw e at (o c m (λ x i. h x (b x i)))
  ]

  -- A set obeys the clauses exactly if the next round is the same.
  pub next-obeys : (X : Facts) → (obeys cs X ≡ true) ↔ ((f : ℕ) → next cs X f ≡ X f)
  next-obeys X = (
    λ e f. same_test (next-inside X (λ f. T (X f)) (λ f t. t) ((obeys-is X).0 (passes e)) f) (next-keeps X f),
    λ h. is_true ((obeys-is X).1 (λ c m b. rw (h c.head) at (next-fires X c m b))),
  )

  -- A list of the missing heads is one picked from all heads, and the other way round.
  missing-picked : (S : Facts) {xs : List ℕ}
      → AreMissingHeads cs S xs ↔ Picked (λ f. not (S f)) (map (λ c. c.head) cs) xs
  missing-picked S {xs} =
      let head : Clause → ℕ = λ c. c.head in (
        λ a. (
          a.once,
          λ f m.
              let (c, i, e) = a.heads f m in
              (Memᴰ.cast (sym e) (Memᴰ.map head i), (negated (S f)).1 (a.missing f m)),
          λ f m t.
              let (c, i, e) = Memᴰ.of_map head cs m in
              Memᴰ.cast (sym e) (a.all c i (λ s. (negated (S f)).0 t (rw e at s))),
        ),
        λ (u, h, k). record {
          once = u;
          heads = λ f m. Memᴰ.of_map head cs (h f m).0;
          missing = λ f m. (negated (S f)).0 (h f m).1;
          all = λ c i n. k c.head (Memᴰ.map head i) ((negated (S c.head)).1 n);
        },
      )

  -- The heads missing from a state can be listed, each of them once.
  pub missing-listed : (S : Facts) → (xs : List ℕ) × AreMissingHeads cs S xs
  missing-listed S = let (xs, p) = picked (λ f. not (S f)) (map (λ c. c.head) cs) in (xs, (missing-picked S).1 p)

  -- They are as many as such a list has.
  pub missing_heads-is : (S : Facts) {xs : List ℕ} → AreMissingHeads cs S xs → missing_heads cs S ≡ length xs
  unfolding missing_heads
  missing_heads-is S {xs} a = different-is (λ f. not (S f)) (map (λ c. c.head) cs) xs ((missing-picked S).0 a)

  -- A round after one that does not obey the clauses lacks fewer heads.
  pub missing_falls : (X : Facts) → (T (obeys cs X) → ⊥) → missing_heads cs (next cs X) < missing_heads cs X
  unfolding missing_heads obeys
  missing_falls X n =
      let (c, m, h) = every_out (λ c. not (stands X c) || X c.head) cs n in
      let (b, l) = implies_out (stands X c) (X c.head) h in
      different_lt (λ f. not (next cs X f)) (λ f. not (X f))
      (λ f t. (negated (X f)).1 (λ s. (negated (next cs X f)).0 t (next-keeps X f s)))
      (map (λ c. c.head) cs) c.head (Memᴰ.map (λ c. c.head) m) ((negated (X c.head)).1 l)
      (λ t. (negated (next cs X c.head)).0 t (next-fires X c m ((stands-is X c).0 b)))

module _ (cs : List Clause) (S : Facts) where
  -- Every round is inside every predicate that holds the state and obeys the clauses.
  pub round-inside : (Y : ℕ → Type 0) → ((f : ℕ) → T (S f) → Y f) → Obeys cs Y → (r f : ℕ) → T (round cs S r f) → Y f
  unfolding round
  round-inside Y h o zero f t = h f t
  round-inside Y h o (suc r) f t = next-inside cs (round cs S r) Y (round-inside Y h o r) o f t

  -- A round holds every round before it.
  pub round_mono : (r q : ℕ) → r ≤ q → (f : ℕ) → T (round cs S r f) → T (round cs S q f)
  unfolding round
  round_mono r zero l f t = let e : r ≡ 0 = omega arith in rw e at t
  round_mono r (suc q) l f t = elim (eq-or-lt_of_le l) [
    | inl e ↦ rw e at t
    | inr k ↦ next-keeps cs (round cs S q) f (round_mono r q (omega arith) f t)
  ]

  -- Before the rounds come to rest, each of them lacks a head fewer.
  pub rounds_fall : (r : ℕ) → ((q : ℕ) → q < r → obeys cs (round cs S q) ≡ false)
      → r + missing_heads cs (round cs S r) ≤ missing_heads cs S
  unfolding round
  rounds_fall zero h = omega arith
  rounds_fall (suc r) h =
      let fewer = missing_falls cs (round cs S r) (fails (h r (omega arith))) in
      omega (arith, rounds_fall r (λ q l. h q (omega arith)))

  -- The heads missing from the start are at most as many as the clauses.
  pub missing_heads-bound : missing_heads cs S ≤ length cs
  unfolding missing_heads
  missing_heads-bound =
      rw (← length-map cs (λ c. c.head)) (different_le_length (λ f. not (S f)) (map (λ c. c.head) cs))

  -- No round before the last one obeys the clauses.
  pub rounds-before : (r : ℕ) → r < rounds cs S → obeys cs (round cs S r) ≡ false
  unfolding rounds
  rounds-before = first-before (λ r. obeys cs (round cs S r)) (length cs)

  -- The rounds are at most as many as the heads missing from the start.
  pub rounds-bound : rounds cs S ≤ missing_heads cs S
  rounds-bound = omega (arith, rounds_fall (rounds cs S) rounds-before)

  -- The closure obeys the clauses.
  pub closure-obeys : obeys cs (closure cs S) ≡ true
  unfolding closure
  closure-obeys =
      by-test (obeys cs (closure cs S)) (λ e. e)
      (λ e.
      let before : (q : ℕ) → q ≤ rounds cs S → obeys cs (round cs S q) ≡ false =
      λ q l. elim (eq-or-lt_of_le l) [ inl i ↦ rw i e | inr k ↦ rounds-before q k ]
      in
      let fall = rounds_fall (suc (rounds cs S)) (λ q l. before q (omega arith)) in
      first_hit (λ r. obeys cs (round cs S r)) (length cs) (omega (arith, missing_heads-bound)))

  -- The closure is inside every predicate that holds the state and obeys the clauses.
  pub closure-inside : (Y : ℕ → Type 0) → ((f : ℕ) → T (S f) → Y f) → Obeys cs Y → (f : ℕ) → T (closure cs S f) → Y f
  unfolding closure
  closure-inside Y h o = round-inside Y h o (rounds cs S)

  -- The closure is the least set that holds the state and obeys the clauses.
  pub closure-is-HC : HC cs S (closure cs S)
  unfolding closure
  closure-is-HC = record {
    holding = record {
      holds = round_mono 0 (rounds cs S) (omega arith);
      obeys = (obeys-is cs (closure cs S)).0 (passes closure-obeys);
    };
    least = λ Y c. closure-inside (λ f. T (Y f)) c.holds c.obeys;
  }

  -- The number of rounds is the number of the first round that equals all the later ones.
  pub rounds-is : IsRounds cs S (rounds cs S)
  unfolding closure round
  rounds-is = record {
    still = still;
    first = λ r l h. fails (rounds-before r l) (passes ((next-obeys cs (round cs S r)).1 (λ f. rw add-one at (h f))));
  }
    where
      still : (k f : ℕ) → round cs S (rounds cs S + k) f ≡ round cs S (rounds cs S) f
      still zero f = rw add-zero
      still (suc k) f = rw (add-suc, fun_ext (still k)) ((next-obeys cs (closure cs S)).0 closure-obeys f)

  -- A fact's round number is the first round that it stands in, or 65,535 if it is outside the closure.
  pub round_number-is : (f : ℕ) → IsRoundNumber cs S f (round_number cs S f)
  unfolding round_number closure
  round_number-is f = go (closure cs S f) refl
    where
      go : (b : Bool) → closure cs S f ≡ b
          → IsRoundNumber cs S f (cond b (first (λ r. round cs S r f) (rounds cs S)) 65535)
      go true e = record {
        stands = λ t. passes (first_passes (λ r. round cs S r f) (rounds cs S) e);
        first = λ t r l. fails (first-before (λ r. round cs S r f) (rounds cs S) r l);
        outside = λ n. absurd (n (passes e));
      }
      go false e = record { stands = λ t. absurd (fails e t); first = λ t. absurd (fails e t); outside = λ n. refl }

-- Two sets that are HC of one state are the same.
pub HC_unique : {cs : List Clause} {S X Y : Facts} → HC cs S X → HC cs S Y → (f : ℕ) → X f ≡ Y f
HC_unique {X = X} {Y = Y} x y f = same_test (x.least Y y.holding f) (y.least X x.holding f)
