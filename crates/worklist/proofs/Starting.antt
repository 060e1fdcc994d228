-- How the worklist begins: the facts of the state, then the heads of clauses with an empty body.
use Prim.Native.Nat.{ℕ, zero, suc, ◌+◌, ◌≤◌, ◌<◌}
use mathlib.Core.Path.{◌≡◌, refl, sym, ap, ◌∙◌, fun_ext, subst}
use mathlib.Core.Logic.{⊎_elim}
use mathlib.Core.Bool.{cond}
use mathlib.Core.List.{List, [], ◌∷◌, append-nil}
use native.Mathlib.Numerals.{add-one}
use native.Mathlib.Omega.{arith}
use lib.Dec.{T, eqb, ltb, eqb→eq}
use lib.ListN.{length, get_or, set, drop, length-set, drop_of_length-le, get_or-eq_default, take}
use lib.Seq.{take-set-le, take-suc-set, get_or-set_same, get_or-set_other, get_or-take, drop-cons, length-take-le}
use borrow.Author.Tests.{lt-ltb, le-ltb, eq-eqb, ne_eqb}
use Rattle.sets.specs.Sets.{Facts}
use Rattle.sets.proofs.Laws.{both, get_or_in, below_or_from}
use Rattle.meaning.specs.Model.{Clause}
use Rattle.meaning.specs.Worklist.{Work, stored, arrive, unasked, begun}
use Rattle.meaning.specs.Working.{Known, clause_at, Opening}
use Rattle.meaning.proofs.Places.{by-list, clause_in, stored_is}
use Rattle.meaning.proofs.Arriving.{opening, opening-head, opening-room}
use Rattle.worklist.specs.Working.{state_in, Begun}
use Rattle.worklist.specs.Arrays.{Arrays, arrays, number_in, latest_in, seen, Fits, Gathered, Lacking}
use Rattle.worklist.specs.Arrays.{Starts, Arrives}
use Rattle.worklist.proofs.Seeing.{number-low, arrive-seen, arrive-fits, arrive-keeps, arrive-state}

-- ---- the facts of the state

-- Those below f wait, in order.
pub record Gathering (table : List ℕ) (f n : ℕ) (queue : List ℕ) : Type 0 where
  pub some : f ≤ 4096
  pub few : n ≤ f
  pub sized : length queue ≡ 4096
  pub facts : take n queue ≡ stored f (state_in table)

pub gathering_start : (table queue : List ℕ) → length queue ≡ 4096 → Gathering table 0 0 queue
unfolding stored
gathering_start table queue sized = record { some = omega arith; few = omega arith; sized = sized; facts = refl }

module _ {table : List ℕ} {f n : ℕ} {queue : List ℕ} (g : Gathering table f n queue) (h : f < 4096) where
  -- One that is stored joins them; ..
  pub gathering_one : get_or table f 0 ≡ 0 → Gathering table (f + 1) (n + 1) (set queue n f)
  unfolding stored state_in
  gathering_one e = record {
    some = omega arith;
    few = omega (arith, g.few);
    sized = rw length-set g.sized;
    facts =
        rw (
          add-one,
          add-one,
          take-suc-set queue n f (omega (arith, g.few, g.sized)),
          g.facts,
          lt-ltb f 4096 h,
          eq-eqb (get_or table f 0) 0 e,
        );
  }

  -- .. another leaves no trace.
  pub gathering_none : (get_or table f 0 ≡ 0 → ⊥) → Gathering table (f + 1) n (set queue n f)
  unfolding stored state_in
  gathering_none e = record {
    some = omega arith;
    few = omega (arith, g.few);
    sized = rw length-set g.sized;
    facts =
        rw (
          add-one,
          take-set-le n queue n f (omega arith),
          g.facts,
          lt-ltb f 4096 h,
          ne_eqb (get_or table f 0) 0 e,
          append-nil,
        );
  }

pub gathering_end : {table : List ℕ} {f n : ℕ} {queue : List ℕ} → Gathering table f n queue → 4096 ≤ f
    → Gathered (state_in table) n queue
gathering_end {table} {f} g h =
    let same : f ≡ 4096 = omega (arith, g.some) in
    record { sized = g.sized; full = omega (arith, g.few); facts = rw same at g.facts }

-- ---- what clauses lack, and the heads of those with an empty body

-- what every clause lacks at first
abbrev whole : List Clause → ℕ → ℕ
whole cs k = length (clause_at cs k).body

-- the worklist that the arrays say, with that
abbrev pub opened : List Clause → Arrays → Work
opened cs a = seen (whole cs) a.table a.queue a.n 0 0

-- the worklist before them
abbrev first : List Clause → Facts → Work
first cs S = record {
  queue = stored 4096 S;
  lacking = whole cs;
  number = λ f. cond (S f) 0 65535;
  latest = 0;
  crossings = 0;
}

begun-is : (cs : List Clause) (S : Facts) → begun cs S ≡ unasked cs (first cs S)
unfolding begun
begun-is cs S = refl

-- The next clause's body is empty, or not.
module _ (c : Clause) (cs : List Clause) (w : Work) where
  unasked-head : c.body ≡ [] → unasked (c ∷ cs) w ≡ unasked cs (arrive c.head 1 w)
  unfolding unasked
  unasked-head e = ap (λ q. unasked cs (elim q as (λ _. Work) [ [] ↦ arrive c.head 1 w | b ∷ bs ↦ w ])) e

  unasked-body : {b : ℕ} {bs : List ℕ} → c.body ≡ b ∷ bs → unasked (c ∷ cs) w ≡ unasked cs w
  unfolding unasked
  unasked-body e = ap (λ q. unasked cs (elim q as (λ _. Work) [ [] ↦ arrive c.head 1 w | b ∷ bs ↦ w ])) e

-- The clauses before k have been passed.
pub record Opened (cs : List Clause) (S : Facts) (before : List ℕ) (k : ℕ) (a : Arrays) : Type 0 where
  pub some : k ≤ length cs
  pub opening : Opening cs S (opened cs a)
  pub left : unasked (drop k cs) (opened cs a) ≡ begun cs S
  pub state : state_in a.table ≡ S
  pub fits : Fits a
  pub as_long : length a.table ≡ length before
  pub beyond : drop 4096 a.table ≡ drop 4096 before

module _ {cs : List Clause} {table : List ℕ} (known : Known cs (state_in table)) (b : Begun table) {n : ℕ}
    {queue : List ℕ} (g : Gathered (state_in table) n queue) where
  -- What waits is stored.
  waits-stored : (i : ℕ) → i < n → (get_or queue i 0 < 4096) × T (state_in table (get_or queue i 0))
  waits-stored i h =
      let is : get_or (stored 4096 (state_in table)) i 0 ≡ get_or queue i 0 =
      ap (λ (l : List ℕ). get_or l i 0) (sym g.facts) ∙ get_or-take n queue i 0 h
      in
      let long : n ≡ length (stored 4096 (state_in table)) =
      sym (length-take-le n queue (omega (arith, g.full, g.sized))) ∙ ap length g.facts
      in
      rw is at
      ((stored_is 4096 (state_in table) (get_or (stored 4096 (state_in table)) i 0)).0
      (get_or_in (stored 4096 (state_in table)) i 0 (omega arith)))

  numbers : (f : ℕ) → number_in table f ≡ cond (state_in table f) 0 65535
  unfolding number_in state_in
  numbers f =
      ⊎_elim (λ l. number-low table f l ∙ b.entries f l) (λ l. rw (le-ltb f 4096 l)) (below_or_from f 4096)

  first-latest : latest_in table queue n ≡ 0
  unfolding latest_in state_in
  first-latest = go n waits-stored
    where
      go : (m : ℕ) → ((i : ℕ) → i < m → (get_or queue i 0 < 4096) × T (state_in table (get_or queue i 0)))
          → latest_in table queue m ≡ 0
      go zero w = refl
      go (suc m) w =
          let number = get_or table (get_or queue m 0) 0 in
          eqb→eq number 0 ((both (ltb (get_or queue m 0) 4096) (eqb number 0)).0 (w m (omega arith)).1).1

  -- The arrays say that the facts of the state wait.
  first-opened : (lacks : List ℕ) → opened cs (arrays lacks table queue n) ≡ first cs (state_in table)
  first-opened lacks = rw (g.facts, fun_ext numbers, first-latest) refl

  pub opened-start : (lacks : List ℕ) → length lacks ≡ 4096
      → Opened cs (state_in table) table 0 (arrays lacks table queue n)
  opened-start lacks sized = record {
    some = omega arith;
    opening = subst (Opening cs (state_in table)) (sym (first-opened lacks)) (opening known);
    left = ap (unasked cs) (first-opened lacks) ∙ sym (begun-is cs (state_in table));
    state = refl;
    fits = record {
      lacks = sized;
      table = b.room;
      queue = g.sized;
      full = g.full;
      low = λ i h. (waits-stored i h).0;
    };
    as_long = refl;
    beyond = refl;
  }

module _ {cs : List Clause} {S : Facts} (known : Known cs S) {before : List ℕ} {k : ℕ} {lacks table queue : List ℕ}
    {n : ℕ} (o : Opened cs S before k (arrays lacks table queue n)) where
  -- After the last clause the worklist has begun.
  pub opened-end : length cs ≤ k → {least : ℕ} → Lacking cs least lacks
      → Starts cs S before (arrays lacks table queue n)
  unfolding unasked
  opened-end h lacking =
      let none : [] ≡ drop k cs = sym (drop_of_length-le cs h) in
      record {
        says =
            ap (λ (lacking : ℕ → ℕ). seen lacking table queue n 0 0) (fun_ext lacking.bodies)
            ∙ ap (λ (ds : List Clause). unasked ds (opened cs (arrays lacks table queue n))) none
            ∙ o.left;
        state = o.state;
        fits = o.fits;
        as_long = o.as_long;
        beyond = o.beyond;
      }

  module _ (h : k < length cs) where
    -- There is room for the head of clause k.
    pub opened-room : get_or table (clause_at cs k).head 0 ≡ 65535 → n < 4096
    opened-room e =
        let inside = clause_in cs k h in
        let number = number-low table (clause_at cs k).head (known.heads (clause_at cs k) inside) ∙ e in
        let free = opening-room known o.opening (clause_at cs k) inside number in
        omega (arith, free, length-take-le n queue (omega (arith, o.fits.full, o.fits.queue)))

    -- what is left to do from clause k on
    next : unasked (clause_at cs k ∷ drop (suc k) cs) (opened cs (arrays lacks table queue n)) ≡ begun cs S
    next = rw (drop-cons cs k (clause_at [] 0) h) at o.left

    -- A body that is not empty asks for its facts; ..
    pub opened-body : (whole cs k ≡ 0 → ⊥) → Opened cs S before (k + 1) (arrays lacks table queue n)
    opened-body some =
        by-list (clause_at cs k).body (λ e. absurd (some (rw e refl)))
        (λ b bs e. record {
          some = omega arith;
          opening = o.opening;
          left = rw add-one (sym (unasked-body (clause_at cs k) (drop (suc k) cs) _ e) ∙ next);
          state = o.state;
          fits = o.fits;
          as_long = o.as_long;
          beyond = o.beyond;
        })

    -- .. with an empty one the head arrives in round 1.
    pub opened-head : whole cs k ≡ 0 → {table' queue' : List ℕ} {n' : ℕ}
        → Arrives (clause_at cs k).head 1 table queue n table' queue' n'
        → Opened cs S before (k + 1) (arrays lacks table' queue' n')
    opened-head none {table'} {queue'} {n'} a =
        by-list (clause_at cs k).body
        (λ e.
        let inside = clause_in cs k h in
        let low = known.heads (clause_at cs k) inside in
        let fits = o.fits in
        let arrives = arrive-seen low fits.table fits.queue opened-room a (whole cs) 0 0 (omega arith) in
        let (more, long, beyond) = arrive-keeps low fits.table fits.queue opened-room a in
        record {
          some = omega arith;
          opening = subst (Opening cs S) (sym arrives) (opening-head known o.opening (clause_at cs k) inside e);
          left =
              rw add-one
              (ap (unasked (drop (suc k) cs)) arrives
              ∙ sym (unasked-head (clause_at cs k) (drop (suc k) cs) _ e) ∙ next);
          state = arrive-state low fits.table fits.queue opened-room a (omega arith) ∙ o.state;
          fits = arrive-fits low fits.table fits.queue opened-room a lacks fits;
          as_long = long ∙ o.as_long;
          beyond = beyond ∙ o.beyond;
        })
        (λ b bs e. absurd (let none = rw e at none in omega arith))

-- Where no clause has an empty body, the worklist begins with the facts of the state alone.
pub opened-all : {cs : List Clause} {S : Facts} (known : Known cs S) {before : List ℕ} {lacks table queue : List ℕ}
    {n least : ℕ} → Lacking cs least lacks → (least ≡ 0 → ⊥) → Opened cs S before 0 (arrays lacks table queue n)
    → Starts cs S before (arrays lacks table queue n)
opened-all {cs} {S} known {before} {lacks} {table} {queue} {n} {least} lacking some o =
    go (length cs) 0 (omega arith) o
  where
    go : (turns k : ℕ) → length cs ≡ turns + k → Opened cs S before k (arrays lacks table queue n)
        → Starts cs S before (arrays lacks table queue n)
    go zero k e o = opened-end known o (omega arith) lacking
    go (suc turns) k e o =
        let inside : k < length cs = omega arith in
        go turns (k + 1) (omega arith)
        (opened-body known o inside (λ none. some (omega (arith, lacking.fewest k inside))))

-- ---- what clauses lack

-- It has been noted of the clauses before k.
pub record Noted (cs : List Clause) (k least : ℕ) (lacks : List ℕ) : Type 0 where
  pub some : k ≤ length cs
  pub sized : length lacks ≡ 4096
  pub counted : (j : ℕ) → j < k → get_or lacks j 0 ≡ whole cs j
  pub others : (j : ℕ) → k ≤ j → get_or lacks j 0 ≡ 0
  pub lesser : (j : ℕ) → j < k → least ≤ whole cs j

pub noted-start : (cs : List Clause) (least : ℕ) {lacks : List ℕ} → length lacks ≡ 4096
    → ((k : ℕ) → get_or lacks k 0 ≡ 0) → Noted cs 0 least lacks
noted-start cs least sized zeros = record {
  some = omega arith;
  sized = sized;
  counted = λ j h. absurd (omega arith);
  others = λ j h. zeros j;
  lesser = λ j h. absurd (omega arith);
}

module _ {cs : List Clause} {k least : ℕ} {lacks : List ℕ} (noted : Noted cs k least lacks) where
  -- It is noted of clause k; ..
  pub noted-next : k < length cs → k < 4096 → {m least' : ℕ} → m ≡ whole cs k → least' ≤ m → least' ≤ least
      → Noted cs (k + 1) least' (set lacks k m)
  noted-next h low {m} {least'} size here before = record {
    some = omega arith;
    sized = rw length-set noted.sized;
    counted =
        λ j l.
        ⊎_elim (λ i. get_or-set_other lacks k j m 0 (λ e. omega arith) ∙ noted.counted j i)
        (λ i.
        let same : j ≡ k = omega arith in
        rw same (get_or-set_same lacks k m 0 (omega (arith, noted.sized)) ∙ size)) (below_or_from j k);
    others = λ j l. get_or-set_other lacks k j m 0 (λ e. omega arith) ∙ noted.others j (omega arith);
    lesser =
        λ j l.
        ⊎_elim (λ i. omega (arith, noted.lesser j i))
        (λ i.
        let same : j ≡ k = omega arith in
        rw same (omega (arith, size))) (below_or_from j k);
  }

  -- .. and after the last it is of all.
  pub noted-end : length cs ≤ k → Lacking cs least lacks
  noted-end h = record {
    sized = noted.sized;
    bodies =
        λ j.
        ⊎_elim (λ l. noted.counted j l)
        (λ l.
        noted.others j l ∙ ap (λ (c : Clause). length c.body) (sym (get_or-eq_default cs _ (omega arith))))
        (below_or_from j k);
    fewest = λ j l. noted.lesser j (omega arith);
  }
