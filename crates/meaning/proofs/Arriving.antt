-- The worklist's arrivals: what a fact's arrival keeps, in which round facts arrive, and how the worklist begins.
use Prim.Native.Nat.{ℕ, zero, suc, ◌≤◌, ◌<◌}
use native.Mathlib.Bridge.{le_prop}
use native.Mathlib.Omega.{arith}
use mathlib.Core.Path.{◌≡◌, refl, sym, ap, ◌∙◌}
use mathlib.Core.Logic.{◌↔◌, ◌⊎◌, inl, inr, ∥∥₁_elim}
use mathlib.Core.Bool.{false, not, cond}
use mathlib.Core.List.Pairwise
use mathlib.Core.List.{List, [], ◌∷◌, ◌++◌, Nodup, append_assoc}
use mathlib.Core.List.Memᴰ
use lib.Dec.{T, eqb, eqb→eq, eqb_refl}
use lib.ListN.{length, length-append}
use Rattle.sets.specs.Sets.{Facts, listed, ◌∈◌}
use Rattle.meaning.specs.Model.{Clause}
use Rattle.meaning.specs.Rounds.{round, rounds, closure, round_number}
use Rattle.meaning.specs.Worklist.{Work, put, arrive, stored, unasked, begun}
use Rattle.meaning.specs.Working.{Known, clause_at, lack, Arrived, Opening, Sound}
use Rattle.sets.proofs.Laws.{passes, fails, by-test, listed-is, below_or_from}
use Rattle.meaning.proofs.Closing.{next-is, next-fires, round-inside, round_mono, rounds-bound}
use Rattle.meaning.proofs.Closing.{missing_heads-bound, closure-is-HC, closure-inside, round_number-is}
use Rattle.meaning.proofs.Places.{among-all, places-none, clause_in}
use Rattle.meaning.proofs.Places.{stored_is, stored-once, once-below, pairs_more, once_more, Adds, by-list}
use Rattle.meaning.proofs.Places.{listed_in, listed_out, listed-adds}

-- ---- rounds

module _ (cs : List Clause) (S : Facts) where
  -- What stands in a round is in the closure.
  pub round_closes : (r f : ℕ) → T (round cs S r f) → T (closure cs S f)
  round_closes =
      let hc = (closure-is-HC cs S).holding in
      round-inside cs S (λ f. T (closure cs S f)) hc.holds hc.obeys

  -- A fact's round number is at most every round that it stands in.
  pub number_le : (r f : ℕ) → T (round cs S r f) → round_number cs S f ≤ r
  number_le r f t =
      let n : r < round_number cs S f → ⊥ = λ l. (round_number-is cs S f).first (round_closes r f t) r l t in
      omega arith

  -- The round that a fact stands in, and in none before, is its round number.
  pub number-first : (r f : ℕ) → T (round cs S (suc r) f) → (T (round cs S r f) → ⊥) → round_number cs S f ≡ suc r
  number-first r f t n =
      let le = number_le (suc r) f t in
      let stands = (round_number-is cs S f).stands (round_closes (suc r) f t) in
      let later : round_number cs S f ≤ r → ⊥ = λ l. n (round_mono cs S (round_number cs S f) r l f stands) in
      omega arith

  -- The round number of a fact of the closure is at most the number of rounds.
  pub number-rounds : (f : ℕ) → T (closure cs S f) → round_number cs S f ≤ rounds cs S
  unfolding closure
  number-rounds f t = number_le (rounds cs S) f t

module _ {cs : List Clause} {S : Facts} (known : Known cs S) where
  -- The rounds are at most 4,096.
  pub rounds-few : rounds cs S ≤ 4096
  rounds-few = omega (arith, rounds-bound cs S, missing_heads-bound cs S, known.count)

  -- A fact of the closure is below 4,096.
  pub closure-below : (f : ℕ) → T (closure cs S f) → f < 4096
  closure-below =
      closure-inside cs S (λ f. f < 4096)
      (λ f t. elim (below_or_from f 4096) [ inl l ↦ l | inr l ↦ absurd (fails (known.state f l) t) ])
      (λ c m b. known.heads c m)

  -- ---- arrivals

  module _ {fs : List ℕ} {w : Work} (a : Arrived cs S fs w) where
    -- The number of a fact that has arrived is its round number, ..
    pub arrived-number : (f : ℕ) → f ∈ fs → w.number f ≡ round_number cs S f
    arrived-number f m = rw (listed_in fs f m) at (a.number f)

    -- .. which is at most 4,096.
    pub arrived-few : (f : ℕ) → f ∈ fs → w.number f ≤ 4096
    arrived-few f m = omega (arith, arrived-number f m, number-rounds cs S f (a.inside f m), rounds-few)

    -- A fact that has not arrived has 65,535, and no other.
    pub arrived-not : (f : ℕ) → (w.number f ≡ 65535) ↔ (f ∈ fs → ⊥)
    arrived-not f = (
      λ e m. omega (arith, arrived-few f m),
      λ n. rw (listed_out fs f n) at (a.number f),
    )

    -- At most 4,096 facts arrive, ..
    pub arrived-length : length fs ≤ 4096
    arrived-length = once-below 4096 fs a.once (λ f m. closure-below f (a.inside f m))

    -- .. and before one more arrives, they are fewer.
    pub arrived-room : (f : ℕ) → f < 4096 → w.number f ≡ 65535 → length fs < 4096
    arrived-room f l e =
        let n = (arrived-not f).0 e in
        let more = once-below 4096 (fs ++ f ∷ []) (once_more fs f a.once n)
        (λ x m. elim (Memᴰ.append_cases fs m) [
          | inl i ↦ closure-below x (a.inside x i)
          | inr i ↦ rw (Memᴰ.eq_of_singleton i) l
        ])
        in
        omega (arith, length-append fs (f ∷ []))

    -- One more arrives in its round, which is none of the earlier ones.
    arrived-more : (f r : ℕ) → (f ∈ fs → ⊥) → T (closure cs S f) → round_number cs S f ≡ r → w.latest ≤ r
        → {v : Work} → v.number ≡ put f r w.number → v.latest ≡ r → Arrived cs S (fs ++ f ∷ []) v
    unfolding put
    arrived-more f r n t e l {v} num lat = record {
      once = once_more fs f a.once n;
      order = pairs_more (λ a b. le_prop) fs f a.order (λ x m. omega (arith, a.late x m));
      inside = λ x m. ends x m (a.inside x) (λ i. rw i t);
      held = λ x s. Memᴰ.append_left (f ∷ []) (a.held x s);
      number = λ x. rw num (
          by-test (eqb x f)
          (λ i. let k : x ≡ f = eqb→eq x f (passes i) in rw (i, k, adds.1, e))
          (λ i. rw (i, adds.2 x (λ k. fails i (rw k (eqb_refl f)))) (a.number x))
          );
      late = λ x m. ends x m (λ i. omega (arith, a.late x i)) (λ i. rw i (omega arith));
      latest = omega (arith, number-rounds cs S f t);
    }
      where
        adds : Adds (listed fs) f (listed (fs ++ f ∷ []))
        adds = listed-adds fs f n

        ends : {P : Type 0} (x : ℕ) → x ∈ fs ++ f ∷ [] → (x ∈ fs → P) → (x ≡ f → P) → P
        ends x m h k = elim (Memᴰ.append_cases fs m) [ inl i ↦ h i | inr i ↦ k (Memᴰ.eq_of_singleton i) ]

  -- The fact h has arrived, by round r, besides what had arrived before.
  pub record Brought (had : List ℕ) (h r : ℕ) (w v : Work) : Type 0 where
    pub arrived : Arrived cs S (had ++ v.queue) v
    pub brings : h ∈ had ++ v.queue
    pub keeps : (f : ℕ) → f ∈ had ++ w.queue → f ∈ had ++ v.queue
    pub lacking : v.lacking ≡ w.lacking
    pub crossings : v.crossings ≡ w.crossings
    pub latest : v.latest ≤ r

  -- That is what an arrival comes to, in the round of a fact that has not arrived.
  pub arrives : (had : List ℕ) {w : Work} → Arrived cs S (had ++ w.queue) w → (h r : ℕ) → w.latest ≤ r
      → ((h ∈ had ++ w.queue → ⊥) → T (closure cs S h) × (round_number cs S h ≡ r)) → Brought had h r w (arrive h r w)
  unfolding arrive
  arrives had {w} a h r l new =
      by-test (eqb (w.number h) 65535)
      (λ e.
      let n = (arrived-not a h).0 (eqb→eq _ _ (passes e)) in
      let (t, i) = new n in
      let same = append_assoc had w.queue (h ∷ []) in
      rw e (record {
        arrived = rw (← same) (arrived-more a h r n t i l refl refl);
        brings = Memᴰ.append_right had (Memᴰ.append_right w.queue (Memᴰ.head refl));
        keeps = λ f m. rw (← same) (Memᴰ.append_left (h ∷ []) m);
        lacking = refl;
        crossings = refl;
        latest = omega arith;
      }))
      (λ e. rw e (record {
        arrived = a;
        brings = by-test (listed (had ++ w.queue) h) (λ i. (listed-is _ h).0 (passes i))
            (λ i. let n = (arrived-not a h).1 (λ m. fails i ((listed-is _ h).1 m)) in
            absurd (fails e (rw n (eqb_refl 65535))));
        keeps = λ f m. m;
        lacking = refl;
        crossings = refl;
        latest = l;
      }))

  -- ---- the order of arrivals

  -- Where each clause whose body has been taken has its head among the arrivals, and the other arrivals are of round r
  -- or later, whatever stands in a round up to r has arrived.
  pub settled : (fs had : List ℕ) (r : ℕ) → ((f : ℕ) → T (S f) → f ∈ fs)
      → ((c : Clause) → c ∈ cs → ((b : ℕ) → b ∈ c.body → b ∈ had) → c.head ∈ fs)
      → ((f : ℕ) → f ∈ fs → (f ∈ had) ⊎ (r ≤ round_number cs S f))
      → (q f : ℕ) → q ≤ r → T (round cs S q f) → f ∈ fs
  unfolding round
  settled fs had r held fires rest zero f l t = held f t
  settled fs had r held fires rest (suc q) f l t =
      let before : (x : ℕ) → T (round cs S q x) → x ∈ fs = λ x. settled fs had r held fires rest q x (omega arith) in
      elim ((next-is cs (round cs S q) f).0 t) [
        | inl s ↦ before f s
        | inr (c, m, e, b) ↦ Memᴰ.cast (sym e) (fires c m (λ x i. elim (rest x (before x (b x i))) [
          | inl h ↦ h
          | inr k ↦ absurd (omega (arith, number_le cs S q x (b x i)))
        ]))
      ]

  -- ---- the start

  -- The facts of the state have arrived, in round 0.
  pub opening : Opening cs S (record {
    queue = stored 4096 S;
    lacking = λ k. length (clause_at cs k).body;
    number = λ f. cond (S f) 0 65535;
    latest = 0;
    crossings = 0;
  })
  unfolding round
  opening = record {
    arrived = record {
      once = once;
      order = Pairwise.imp_of_mem (λ a b m i ne. ∥∥₁_elim m le_prop (λ m. omega (arith, zeroth a m))) once;
      inside = λ f m. (closure-is-HC cs S).holding.holds f ((stored_is 4096 S f).0 m).1;
      held = held;
      number = λ f. by-test (S f)
          (λ e. let m = held f (passes e) in let z = zeroth f m in rw (e, listed_in (stored 4096 S) f m) (omega arith))
          (λ e. rw (e, listed_out (stored 4096 S) f (λ m. fails e ((stored_is 4096 S f).0 m).1)));
      late = zeroth;
      latest = omega arith;
    };
    near = omega arith;
    lacking = λ k. refl;
    crossings = refl;
  }
    where
      once : Nodup (stored 4096 S)
      once = stored-once 4096 S

      held : (f : ℕ) → T (S f) → f ∈ stored 4096 S
      held f t = (stored_is 4096 S f).1 (closure-below f ((closure-is-HC cs S).holding.holds f t), t)

      zeroth : (f : ℕ) → f ∈ stored 4096 S → round_number cs S f ≤ 0
      zeroth f m = number_le cs S 0 f ((stored_is 4096 S f).0 m).1

  module _ {w : Work} (o : Opening cs S w) (c : Clause) (m : c ∈ cs) where
    -- The head of a clause with an empty body arrives in round 1, if it has not arrived, ..
    opening-brings : c.body ≡ [] → Brought [] c.head 1 w (arrive c.head 1 w)
    unfolding round
    opening-brings e =
        let stands : T (round cs S 1 c.head) =
        next-fires cs S c m (λ b i. absurd (Memᴰ.not-nil (rw e at i)))
        in
        arrives [] o.arrived c.head 1 o.near (λ n. (
          round_closes cs S 1 c.head stands,
          number-first cs S 0 c.head stands (λ t. n (o.arrived.held c.head t)),
        ))

    -- .. which keeps what holds at the start, ..
    pub opening-head : c.body ≡ [] → Opening cs S (arrive c.head 1 w)
    opening-head e =
        let b = opening-brings e in
        record {
          arrived = b.arrived;
          near = b.latest;
          lacking = λ k. rw b.lacking (o.lacking k);
          crossings = b.crossings ∙ o.crossings;
        }

    -- .. and there is room for it.
    pub opening-room : w.number c.head ≡ 65535 → length w.queue < 4096
    opening-room = arrived-room o.arrived c.head (known.heads c m)

  -- what holds once the heads of these clauses with an empty body have arrived
  abbrev Opened : List Clause → Work → Work → Type 0
  Opened ds w v =
      Opening cs S v × ((f : ℕ) → f ∈ w.queue → f ∈ v.queue)
      × ((c : Clause) → c ∈ ds → c.body ≡ [] → c.head ∈ v.queue)

  -- Those of some of the clauses arrive.
  unasked_opens : (ds : List Clause) → ((c : Clause) → c ∈ ds → c ∈ cs) → (w : Work) → Opening cs S w
      → Opened ds w (unasked ds w)
  unfolding unasked
  unasked_opens [] sub w o = (o, λ f m. m, λ c m. absurd (Memᴰ.not-nil m))
  unasked_opens (c ∷ ds) sub w o =
      let m = sub c (Memᴰ.head refl) in
      let rest = unasked_opens ds (λ d i. sub d (Memᴰ.tail i)) in
      by-list c.body
      (λ e.
      let b = opening-brings o c m e in
      let (p, keeps, heads) = rest (arrive c.head 1 w) (opening-head o c m e) in
      rw e (
        p,
        λ f i. keeps f (b.keeps f i),
        λ d i z. elim (Memᴰ.cases_cons i) [ inl k ↦ keeps _ (rw k b.brings) | inr k ↦ heads d k z ],
      ))
      (λ x xs e.
      let (p, keeps, heads) = rest w o in
      rw e (
        p,
        keeps,
        λ d i z. elim (Memᴰ.cases_cons i) [
          | inl k ↦ let n : ◌≡◌ {A = ℕ} 0 1 = cc in absurd (omega arith)
          | inr k ↦ heads d k z
        ],
      ))

  -- Once those of all clauses have arrived, facts may be taken.
  opened-sound : {w : Work} → Opening cs S w → ((c : Clause) → c ∈ cs → c.body ≡ [] → c.head ∈ w.queue)
      → Sound cs S [] w
  unfolding lack
  opened-sound o heads =
      let none : (b : ℕ) → listed [] b ≡ false = λ b. listed_out [] b Memᴰ.not-nil in
      record {
        arrived = o.arrived;
        near = λ f rest e. omega (arith, o.near);
        lacking = λ k.
            let whole = among-all (λ b. not (listed [] b)) (clause_at cs k).body (λ b m. passes (ap not (none b))) in
            o.lacking k ∙ sym whole;
        fired = λ k l e.
            let n = o.lacking k in
            by-list (clause_at cs k).body (heads (clause_at cs k) (clause_in cs k l))
            (λ x xs z. absurd (omega (arith, rw z at n)));
        crossings = o.crossings ∙ sym (places-none (listed []) cs none);
      }

  -- So the worklist begins.
  pub begun-sound : Sound cs S [] (begun cs S)
  unfolding begun
  begun-sound = let (o, keeps, heads) = unasked_opens cs (λ c m. m) _ opening in opened-sound o heads

  -- Nothing has arrived then but in rounds 0 and 1.
  pub begun-near : (begun cs S).latest ≤ 1
  unfolding begun
  begun-near = let (o, keeps, heads) = unasked_opens cs (λ c m. m) _ opening in o.near
