-- The worklist's turns: what crossing a body place keeps, what a turn keeps, and what the worklist comes to.
use Prim.Native.Nat.{ℕ, zero, suc, ◌+◌, ◌-◌, ◌≤◌, ◌<◌}
use native.Mathlib.Bridge.{le_prop}
use native.Mathlib.Omega.{arith}
use mathlib.Core.Path.{◌≡◌, refl, sym, ap, ◌∙◌, subst, fun_ext}
use mathlib.Core.HLevel.{¬_prop}
use mathlib.Core.Logic.{◌↔◌, inl, inr}
use mathlib.Core.Bool.{not, cond}
use mathlib.Core.List.{List, [], ◌∷◌, ◌++◌, Nodup, Nodup-nil, append_assoc, append-nil}
use mathlib.Core.List.Memᴰ
use lib.Dec.{T, eqb, eqb→eq, eqb_refl}
use lib.ListN.{length, length-append, get_or-eq_default}
use Rattle.sets.specs.Sets.{Facts, any, listed, ◌∈◌}
use Rattle.meaning.specs.Model.{Clause}
use Rattle.meaning.specs.Rounds.{round, rounds, closure, round_number}
use Rattle.meaning.specs.Worklist.{entries_from_lem, places_in, Work, put, arrive, crossed, cross, cross_all_lem, taken}
use Rattle.meaning.specs.Worklist.{waiting, drained, unasked, begun, worked, takes, places_of, steps}
use Rattle.meaning.specs.Working.{Known, clause_at, lack, Arrived, Sound, Within}
use Rattle.sets.proofs.Laws.{passes, fails, by-test, same_test, listed-is, below_or_from}
use Rattle.meaning.proofs.Closing.{next-fires, round_mono, closure-inside, round_number-is, rounds-is}
use Rattle.meaning.proofs.Places.{by-list, once_cons, listed_in, listed_out, listed-adds, among-adds, among_none}
use Rattle.meaning.proofs.Places.{places-add, entries-once, entries_are, entry_in, clause_in, clause-at}
use Rattle.meaning.proofs.Places.{pairs_apart}
use Rattle.meaning.proofs.Arriving.{round_closes, number-first, closure-below}
use Rattle.meaning.proofs.Arriving.{arrived-number, arrived-few, arrived-length, arrived-room, arrives, settled}
use Rattle.meaning.proofs.Arriving.{begun-sound}

module _ (cs : List Clause) where
  -- A clause lacks nothing exactly if its whole body has been taken.
  lack-none : (had : List ℕ) (k : ℕ) → (lack cs had k ≡ 0) ↔ ((b : ℕ) → b ∈ (clause_at cs k).body → b ∈ had)
  unfolding lack
  lack-none had k =
      let none = among_none (λ b. not (listed had b)) (clause_at cs k).body in (
        λ e b m. by-test (listed had b) (λ i. (listed-is had b).0 (passes i))
            (λ i. let n = none.0 e b m in absurd (fails n (rw i tt))),
        λ h. none.1 (λ b m. ap not (listed_in had b (h b m))),
      )

  -- Without a turn, ..
  turns_zero : (w : Work) → (drained 0 cs w ≡ w) × (takes 0 cs w ≡ [])
  unfolding drained takes
  turns_zero w = (refl, refl)

  -- .. and where none waits, nothing changes; ..
  pub turns_none : (turns : ℕ) (w : Work) → w.queue ≡ [] → (drained turns cs w ≡ w) × (takes turns cs w ≡ [])
  unfolding drained takes
  turns_none zero w e = turns_zero w
  turns_none (suc turns) w e = (
    ap (λ q. elim q as (λ _. Work) [ [] ↦ w | f ∷ rest ↦ drained turns cs (taken cs f rest w) ]) e,
    ap (λ q. elim q as (λ _. List ℕ) [ [] ↦ [] | f ∷ rest ↦ f ∷ takes turns cs (taken cs f rest w) ]) e,
  )

  -- .. otherwise the first one that waits is taken.
  pub turns_more : (turns : ℕ) (w : Work) (f : ℕ) (rest : List ℕ) → w.queue ≡ f ∷ rest
      → (drained (suc turns) cs w ≡ drained turns cs (taken cs f rest w))
      × (takes (suc turns) cs w ≡ f ∷ takes turns cs (taken cs f rest w))
  unfolding drained takes
  turns_more turns w f rest e = (
    ap (λ q. elim q as (λ _. Work) [ [] ↦ w | f ∷ rest ↦ drained turns cs (taken cs f rest w) ]) e,
    ap (λ q. elim q as (λ _. List ℕ) [ [] ↦ [] | f ∷ rest ↦ f ∷ takes turns cs (taken cs f rest w) ]) e,
  )

  -- ---- crossings are counted

  -- An arrival counts none, ..
  arrive-counts : (f r : ℕ) (w : Work) → (arrive f r w).crossings ≡ w.crossings
  unfolding arrive
  arrive-counts f r w = by-test (eqb (w.number f) 65535) (λ e. rw e) (λ e. rw e)

  -- .. a crossing itself, ..
  cross_counts : (r k : ℕ) (w : Work) → (cross cs r k w).crossings ≡ suc w.crossings
  unfolding cross arrive
  cross_counts r k w =
      by-test (eqb (w.lacking k) 1)
      (λ e. by-test (eqb (w.number (clause_at cs k).head) 65535) (λ i. rw (e, i)) (λ i. rw (e, i)))
      (λ e. rw e)

  -- .. and crossing places each of them.
  cross_all-counts : (r : ℕ) (ks : List ℕ) (w : Work) → (cross_all_lem cs r ks w).crossings ≡ w.crossings + length ks
  unfolding cross_all_lem
  cross_all-counts r [] w = omega arith
  cross_all-counts r (k ∷ ks) w = omega (arith, cross_all-counts r ks (cross cs r k w), cross_counts r k w)

  -- A turn counts the fact's places, ..
  taken-counts : (f : ℕ) (rest : List ℕ) (w : Work)
      → (taken cs f rest w).crossings ≡ w.crossings + length (entries_from_lem 0 cs f)
  unfolding taken
  taken-counts f rest w = cross_all-counts (suc (w.number f)) (entries_from_lem 0 cs f) (waiting rest w)

  -- .. and turns those of the facts that are taken.
  drained-counts : (turns : ℕ) (w : Work)
      → (drained turns cs w).crossings ≡ w.crossings + length (places_of cs (takes turns cs w))
  unfolding places_of
  drained-counts zero w = let (d, t) = turns_zero w in rw (d, t) (omega arith)
  drained-counts (suc turns) w =
      by-list w.queue
      (λ e. let (d, t) = turns_none (suc turns) w e in rw (d, t) (omega arith))
      (λ f rest e.
      let (d, t) = turns_more turns w f rest e in
      rw (d, t, length-append (entries_from_lem 0 cs f))
      (omega (arith, drained-counts turns (taken cs f rest w), taken-counts f rest w)))

  -- Nothing is crossed at the start.
  unasked-counts : (ds : List Clause) (w : Work) → (unasked ds w).crossings ≡ w.crossings
  unfolding unasked
  unasked-counts [] w = refl
  unasked-counts (c ∷ ds) w =
      by-list c.body (λ e. rw e (unasked-counts ds _ ∙ arrive-counts c.head 1 w))
      (λ b bs e. rw e (unasked-counts ds w))

  begun-counts : (S : Facts) → (begun cs S).crossings ≡ 0
  unfolding begun
  begun-counts S = unasked-counts cs _

  counted-from : (turns : ℕ) (w : Work) → w.crossings ≡ 0
      → (drained turns cs w).crossings ≡ length (places_of cs (takes turns cs w))
  counted-from turns w e = omega (arith, drained-counts turns w)

  -- The crossings of the worklist are its steps.
  pub steps-counted : (S : Facts) → (worked cs S).crossings ≡ length (steps cs S)
  unfolding worked steps
  steps-counted S = counted-from 4096 (begun cs S) (begun-counts S)

module _ {cs : List Clause} {S : Facts} (known : Known cs S) where
  -- The body of a clause repeats nothing.
  body-once : (k : ℕ) → Nodup (clause_at cs k).body
  body-once k = elim (below_or_from k (length cs)) [
    | inl l ↦ known.once (clause_at cs k) (clause_in cs k l)
    | inr l ↦ rw (get_or-eq_default cs _ l) Nodup-nil
  ]

  -- One fact more is one less to lack, for the clauses that are among its entries.
  lack-adds : (had : List ℕ) (f : ℕ) → (f ∈ had → ⊥) → (k : ℕ)
      → lack cs had k ≡ cond (listed (entries_from_lem 0 cs f) k) 1 0 + lack cs (had ++ f ∷ []) k
  unfolding lack
  lack-adds had f n k =
      let (x, y, same) = listed-adds had f n in
      rw (entries_are cs f k)
      (among-adds (λ b. not (listed (had ++ f ∷ []) b)) (λ b. not (listed had b)) f
      (ap not y, ap not x, λ b ne. ap not (sym (same b ne))) (clause_at cs k).body (body-once k))

  -- Arrivals know nothing of what is lacking.
  arrived-same : {fs : List ℕ} {w v : Work} → v.number ≡ w.number → v.latest ≡ w.latest → Arrived cs S fs w
      → Arrived cs S fs v
  arrived-same e i a = record {
    once = a.once;
    order = a.order;
    inside = a.inside;
    held = a.held;
    number = λ f. rw e (a.number f);
    late = λ f m. rw i (a.late f m);
    latest = rw i a.latest;
  }

  -- ---- a fact is taken

  module _ {had rest : List ℕ} {f : ℕ} {w : Work} (s : Sound cs S had w) (e : w.queue ≡ f ∷ rest) where
    -- What has arrived.
    arrived_split : Arrived cs S (had ++ f ∷ rest) w
    arrived_split = subst (λ q. Arrived cs S (had ++ q) w) e s.arrived

    -- A fact that waits is below 4,096, and fewer than 4,096 have been taken before it.
    pub first_below : (f < 4096) × (length had < 4096)
    first_below =
        let m = Memᴰ.append_right had (Memᴰ.head refl) in
        let few = arrived-length known arrived_split in
        (closure-below known f (arrived_split.inside f m), omega (arith, length-append had (f ∷ rest)))

    -- The first fact that waits is taken.
    pub take-first : Within cs S had f (entries_from_lem 0 cs f) (waiting rest w)
    take-first =
        let same = append_assoc had (f ∷ []) rest in
        let apart = ((pairs_apart (λ a b. ¬_prop) had (f ∷ rest)).0 arrived_split.once).2 in
        let new : f ∈ had → ⊥ = λ m. apart f f m (Memᴰ.head refl) refl in
        let more = places-add (listed had) (listed (had ++ f ∷ [])) f (listed-adds had f new) 0 cs known.once in
        record {
          arrived = rw same (arrived-same refl refl arrived_split);
          near = s.near f rest e;
          lacking = λ k. s.lacking k ∙ lack-adds had f new k;
          fired = λ k l z. rw same (rw e at (s.fired k l z));
          distinct = entries-once 0 cs f;
          entries = entry_in cs f;
          crossings = omega (arith, s.crossings);
        }

  -- ---- in the midst of a turn

  module _ {had ks : List ℕ} {f : ℕ} {w : Work} (i : Within cs S had f ks w) where
    -- The fact that is being taken has arrived.
    within_in : f ∈ (had ++ f ∷ []) ++ w.queue
    within_in = Memᴰ.append_left w.queue (Memᴰ.append_right had (Memᴰ.head refl))

    -- It keeps its number, which is its round number.
    pub within-number : w.number f ≡ round_number cs S f
    within-number = arrived-number known i.arrived f within_in

    -- What has been taken is of no later round, ..
    within-before : (x : ℕ) → x ∈ had ++ f ∷ [] → round_number cs S x ≤ round_number cs S f
    within-before x m =
        let order = ((pairs_apart (λ a b. le_prop) (had ++ f ∷ []) w.queue).0 i.arrived.order).0 in
        elim (Memᴰ.append_cases had m) [
          | inl k ↦ ((pairs_apart (λ a b. le_prop) had (f ∷ [])).0 order).2 x f k (Memᴰ.head refl)
          | inr k ↦ rw (Memᴰ.eq_of_singleton k) (omega arith)
        ]

    -- .. and what waits is of no earlier one.
    pub within-after : (x : ℕ) → x ∈ w.queue → round_number cs S f ≤ round_number cs S x
    within-after x m =
        ((pairs_apart (λ a b. le_prop) (had ++ f ∷ []) w.queue).0 i.arrived.order).2 f x
        (Memᴰ.append_right had (Memᴰ.head refl)) m

    -- It had not been taken before.
    within_new : f ∈ had → ⊥
    within_new m =
        let once = ((pairs_apart (λ a b. ¬_prop) (had ++ f ∷ []) w.queue).0 i.arrived.once).0 in
        ((pairs_apart (λ a b. ¬_prop) had (f ∷ [])).0 once).2 f f m (Memᴰ.head refl) refl

    -- A clause whose body had been taken before has fired.
    within-fired : (c : Clause) → c ∈ cs → ((b : ℕ) → b ∈ c.body → b ∈ had) → c.head ∈ (had ++ f ∷ []) ++ w.queue
    within-fired c m h =
        let (k, l, e) = clause-at cs c m in
        let body : (b : ℕ) → b ∈ (clause_at cs k).body → b ∈ had = rw e h in
        let none = (lack-none cs (had ++ f ∷ []) k).1 (λ b j. Memᴰ.append_left (f ∷ []) (body b j)) in
        let out = listed_out ks k (λ j. within_new (body f (i.entries k j).1)) in
        rw e at (i.fired k l (i.lacking k ∙ rw (out, none)))

    -- Whatever stands in a round up to that of the fact has arrived.
    pub within-settled : (x : ℕ) → T (round cs S (round_number cs S f) x) → x ∈ (had ++ f ∷ []) ++ w.queue
    within-settled x =
        settled known ((had ++ f ∷ []) ++ w.queue) had (round_number cs S f) i.arrived.held within-fired
        (λ y m. elim (Memᴰ.append_cases (had ++ f ∷ []) m) [
          | inl k ↦ elim (Memᴰ.append_cases had k) [
            | inl j ↦ inl j
            | inr j ↦ inr (rw (Memᴰ.eq_of_singleton j) (omega arith))
          ]
          | inr k ↦ inr (within-after y k)
        ])
        (round_number cs S f) x (omega arith)

  -- The turn is over when no entry is left.
  pub within-done : {had : List ℕ} {f : ℕ} {w : Work} → Within cs S had f [] w → Sound cs S (had ++ f ∷ []) w
  within-done i = record {
    arrived = i.arrived;
    near = λ g rest e.
        let le = within-after i g (rw e (Memᴰ.head refl)) in
        omega (arith, i.near);
    lacking = λ k. i.lacking k ∙ rw (listed_out [] k Memᴰ.not-nil) (omega arith);
    fired = i.fired;
    crossings = omega (arith, i.crossings);
  }

  module _ {had ks : List ℕ} {f k : ℕ} {w : Work} (i : Within cs S had f (k ∷ ks) w) where
    -- what has arrived
    abbrev all : List ℕ
    all = (had ++ f ∷ []) ++ w.queue

    -- The clause is there.
    entry-clause : (k < length cs) × (clause_at cs k ∈ cs)
    entry-clause = let (l, b) = i.entries k (Memᴰ.head refl) in (l, clause_in cs k l)

    -- It lacks the fact, and what it lacks besides.
    entry-lacking : w.lacking k ≡ suc (lack cs (had ++ f ∷ []) k)
    entry-lacking =
        let lacking = rw (listed_in (k ∷ ks) k (Memᴰ.head refl)) at (i.lacking k) in
        omega arith

    -- An entry is a clause's number, the clause lacks a place, and the round has a number.
    pub within-entry : (k < length cs) × (1 ≤ w.lacking k) × (w.number f ≤ 4096)
    within-entry =
        (entry-clause.0, omega (arith, entry-lacking), arrived-few known i.arrived f (within_in i))

    -- There is room for the clause's head.
    pub within-room : w.number (clause_at cs k).head ≡ 65535 → length ((had ++ f ∷ []) ++ w.queue) < 4096
    within-room = arrived-room known i.arrived _ (known.heads (clause_at cs k) entry-clause.1)

    -- The head of a clause that lacks no more arrives in the round after the fact's, if it has not arrived.
    entry-head : w.lacking k ≡ 1 → ((clause_at cs k).head ∈ all → ⊥)
        → T (closure cs S (clause_at cs k).head) × (round_number cs S (clause_at cs k).head ≡ suc (round_number cs S f))
    unfolding round
    entry-head e n =
        let r = round_number cs S f in
        let h = (clause_at cs k).head in
        let body = (lack-none cs (had ++ f ∷ []) k).0 (omega (arith, entry-lacking)) in
        let stands : T (round cs S (suc r) h) =
        next-fires cs (round cs S r) (clause_at cs k) entry-clause.1
        (λ b m.
        let j = i.arrived.inside b (Memᴰ.append_left w.queue (body b m)) in
        round_mono cs S (round_number cs S b) r (within-before i b (body b m)) b ((round_number-is cs S b).stands j))
        in
        (round_closes cs S (suc r) h stands, number-first cs S r h stands (λ t. n (within-settled i h t)))

    -- A place is crossed, and the head of a clause that lacks no more is there.
    entry-crossed : {v : Work} → v.lacking ≡ put k (w.lacking k - 1) w.lacking → v.crossings ≡ suc w.crossings
        → Arrived cs S ((had ++ f ∷ []) ++ v.queue) v → v.latest ≤ suc (round_number cs S f)
        → ((x : ℕ) → x ∈ all → x ∈ (had ++ f ∷ []) ++ v.queue)
        → (w.lacking k ≡ 1 → (clause_at cs k).head ∈ (had ++ f ∷ []) ++ v.queue) → Within cs S had f ks v
    unfolding put listed any
    entry-crossed {v} lacks more a l keeps brings =
        let (n, u) = once_cons.0 i.distinct in
        record {
          arrived = a;
          near = l;
          lacking = λ j. rw lacks (
              by-test (eqb j k)
              (λ e. let same : j ≡ k = eqb→eq j k (passes e) in
              rw (e, same, listed_out ks k n) (omega (arith, entry-lacking)))
              (λ e. rw e (rw e at (i.lacking j)))
              );
          fired = λ j l z.
              let z' = rw lacks at z in
              by-test (eqb j k)
              (λ e. let same : j ≡ k = eqb→eq j k (passes e) in
              rw same (brings (omega (arith, entry-lacking, rw e at z'))))
              (λ e. keeps _ (i.fired j l (rw e at z')));
          distinct = u;
          entries = λ j m. i.entries j (Memᴰ.tail m);
          crossings = omega (arith, i.crossings);
        }

    -- Crossing a place of the fact, in its round, keeps what holds in the midst of its turn.
    pub cross_keeps : (r : ℕ) → r ≡ suc (w.number f) → Within cs S had f ks (cross cs r k w)
    unfolding cross
    cross_keeps r e =
        let after : r ≡ suc (round_number cs S f) = e ∙ ap suc (within-number i) in
        let old : Arrived cs S all (crossed k w) = arrived-same refl refl i.arrived in
        by-test (eqb (w.lacking k) 1)
        (λ one.
        let last : w.lacking k ≡ 1 = eqb→eq _ 1 (passes one) in
        let near : w.latest ≤ r = omega (arith, i.near) in
        let b = arrives known (had ++ f ∷ []) old (clause_at cs k).head r near (rw after (entry-head last)) in
        let near : (arrive (clause_at cs k).head r (crossed k w)).latest ≤ suc (round_number cs S f) =
        omega (arith, b.latest)
        in
        rw one (entry-crossed b.lacking b.crossings b.arrived near b.keeps (λ _. b.brings)))
        (λ one. rw one (entry-crossed refl refl old i.near (λ x m. m) (λ z. absurd (fails one (rw z (eqb_refl 1))))))

  -- All the places that are left are crossed.
  crossed-all : {had : List ℕ} {f : ℕ} (r : ℕ) → r ≡ suc (round_number cs S f) → (ks : List ℕ) (w : Work)
      → Within cs S had f ks w → Within cs S had f [] (cross_all_lem cs r ks w)
  unfolding cross_all_lem
  crossed-all r e [] w i = i
  crossed-all r e (k ∷ ks) w i =
      crossed-all r e ks (cross cs r k w) (cross_keeps i r (e ∙ ap suc (sym (within-number i))))

  -- A turn crosses all places of the fact.
  pub taken-within : {had rest : List ℕ} {f : ℕ} {w : Work} → Sound cs S had w → w.queue ≡ f ∷ rest
      → Within cs S had f [] (taken cs f rest w)
  unfolding taken
  taken-within {f = f} s e =
      let i = take-first s e in
      crossed-all _ (ap suc (within-number i)) (entries_from_lem 0 cs f) _ i

  -- So it leads from one moment between turns to the next.
  pub taken-sound : {had rest : List ℕ} {f : ℕ} {w : Work} → Sound cs S had w → w.queue ≡ f ∷ rest
      → Sound cs S (had ++ f ∷ []) (taken cs f rest w)
  taken-sound s e = within-done (taken-within s e)

  -- After enough turns none waits.
  drained-done : (turns : ℕ) (had : List ℕ) (w : Work) → Sound cs S had w → 4096 ≤ length had + turns
      → Sound cs S (had ++ takes turns cs w) (drained turns cs w) × ((drained turns cs w).queue ≡ [])
  drained-done zero had w s l =
      by-list w.queue (λ e. let (d, t) = turns_none cs 0 w e in rw (d, t, append-nil) (s, e))
      (λ f rest e. absurd (omega (arith, (first_below s e).1)))
  drained-done (suc turns) had w s l =
      by-list w.queue (λ e. let (d, t) = turns_none cs (suc turns) w e in rw (d, t, append-nil) (s, e))
      (λ f rest e.
      let (d, t) = turns_more cs turns w f rest e in
      let next = taken cs f rest w in
      rw (d, t, ← append_assoc had (f ∷ []) (takes turns cs next))
      (drained-done turns (had ++ f ∷ []) next (taken-sound s e) (omega (arith, length-append had (f ∷ [])))))

  -- So it is with the turns that the worklist has.
  pub worked_rests : Sound cs S (takes 4096 cs (begun cs S)) (worked cs S) × ((worked cs S).queue ≡ [])
  unfolding worked
  worked_rests = drained-done 4096 [] (begun cs S) (begun-sound known) (omega arith)

  -- ---- what it comes to

  module _ {all : List ℕ} {w : Work} (s : Sound cs S all w) (e : w.queue ≡ []) where
    -- What has arrived has been taken.
    pub rests_all : Arrived cs S all w
    rests_all = rw append-nil at (subst (λ q. Arrived cs S (all ++ q) w) e s.arrived)

    -- The facts taken are the closure.
    pub rests_closure : (f : ℕ) → listed all f ≡ closure cs S f
    rests_closure f =
        same_test (λ t. rests_all.inside f ((listed-is all f).0 t))
        (λ t. (listed-is all f).1 (closure-inside cs S (λ x. x ∈ all) rests_all.held (λ c m h.
        let (k, l, j) = clause-at cs c m in
        let none = (lack-none cs all k).1 (rw j h) in
        rw (j, e, append-nil) at (s.fired k l (s.lacking k ∙ none))) f t))

    -- Each fact's number is its round number, ..
    pub rests_number : (f : ℕ) → w.number f ≡ round_number cs S f
    rests_number f =
        by-test (closure cs S f)
        (λ t. rw (rests_closure f, t) at (rests_all.number f))
        (λ t. rw (rests_closure f, t) at (rests_all.number f) ∙ sym ((round_number-is cs S f).outside (fails t)))

    -- .. the latest one is the number of rounds, ..
    pub rests_latest : w.latest ≡ rounds cs S
    rests_latest =
        let early : (f : ℕ) → T (closure cs S f) → T (round cs S w.latest f) =
        λ f t. round_mono cs S (round_number cs S f) w.latest
        (rests_all.late f ((listed-is all f).0 (rw (rests_closure f) t))) f ((round_number-is cs S f).stands t)
        in
        let last : w.latest < rounds cs S → ⊥ =
        λ l. (rounds-is cs S).first w.latest l (λ f. same_test
        (λ t. early f (round_closes cs S (w.latest + 1) f t))
        (round_mono cs S w.latest (w.latest + 1) (omega arith) f))
        in
        omega (arith, s.arrived.latest)

    -- .. and the places crossed are those of the closure.
    pub rests_crossings : w.crossings ≡ places_in (closure cs S) cs
    rests_crossings = s.crossings ∙ ap (λ X. places_in X cs) (fun_ext rests_closure)
