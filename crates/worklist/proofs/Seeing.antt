-- What the arrays say after an arrival and after a crossing is what the worklist does.
use Prim.Native.Nat.{ℕ, zero, suc, ◌-◌, ◌≤◌, ◌<◌}
use mathlib.Core.Path.{◌≡◌, refl, sym, ap, ◌∙◌, fun_ext}
use mathlib.Core.Logic.{⊎_elim}
use mathlib.Core.Bool.{Bool, true, false, cond}
use mathlib.Core.List.{List, [], ◌∷◌, ◌++◌}
use native.Mathlib.Numerals.{add-one}
use native.Mathlib.Omega.{arith}
use lib.Dec.{eqb, ltb}
use lib.ListN.{length, get_or, set, take, drop, length-set, length-take}
use lib.Seq.{get_or-set_same, get_or-set_other, get_or-take, take-suc-set, drop-append-le, drop-set-lt, length-take-le}
use Rattle.std.proofs.Common.{Some, None}
use Rattle.std.specs.Bool.{then_some}
use borrow.Author.Tests.{le-ltb, lt-ltb, eq-eqb, ne_eqb, eqb-true, eqb-false}
use Rattle.sets.proofs.Laws.{by-test, below_or_from}
use Rattle.meaning.specs.Model.{Clause}
use Rattle.meaning.specs.Worklist.{Work, put, arrive, crossed, cross, cross_all_lem}
use Rattle.meaning.specs.Working.{clause_at}
use Rattle.worklist.specs.Working.{state_in}
use Rattle.worklist.specs.Arrays.{Arrays, arrays, number_in, latest_in, seen, said, waits_for, Fits, Does, Arrives}
use Rattle.worklist.specs.Arrays.{Crossable}

-- ---- steps, one after the other

-- Nothing is done.
pub does-none : {a : Arrays} → Fits a → Does (λ w. w) a a
does-none fits = record { says = λ at c h. refl; grows = omega arith; fits = fits; as_long = refl; beyond = refl }

-- One step, then another.
pub does_then : {f g : Work → Work} {a b c : Arrays} → Does f a b → Does g b c → Does (λ w. g (f w)) a c
does_then {f} {g} {a} {b} {c} x y = record {
  says = λ at k h. rw (x.says at k h) at (y.says at (f (said a at k)).crossings (omega (arith, x.grows)));
  grows = omega (arith, x.grows, y.grows);
  fits = y.fits;
  as_long = y.as_long ∙ x.as_long;
  beyond = y.beyond ∙ x.beyond;
}

-- A step that does the same here.
pub does-same : {f g : Work → Work} {a b : Arrays} → ((at k : ℕ) → f (said a at k) ≡ g (said a at k)) → Does f a b
    → Does g a b
does-same same x = record {
  says = λ at k h. rw (same at k) at (x.says at k h);
  grows = x.grows;
  fits = x.fits;
  as_long = x.as_long;
  beyond = x.beyond;
}

-- ---- an array with one entry changed

pub put-entry : (xs : List ℕ) (i x : ℕ) → i < length xs → (j : ℕ) → get_or (set xs i x) j 0 ≡ put i x (λ k. get_or xs k 0) j
unfolding put
put-entry xs i x h j =
    by-test (eqb j i) (λ e. rw (e, eqb-true j i e) (get_or-set_same xs i x 0 h))
    (λ e. rw e (get_or-set_other xs i j x 0 (eqb-false j i e)))

-- the number of a fact below 4,096
pub number-low : (table : List ℕ) (f : ℕ) → f < 4096 → number_in table f ≡ get_or table f 0
unfolding number_in
number-low table f h = rw (lt-ltb f 4096 h)

-- and of any other
pub number-none : (table : List ℕ) (f : ℕ) → 4096 ≤ f → number_in table f ≡ 65535
unfolding number_in
number-none table f h = rw (le-ltb f 4096 h)

put-number : (table : List ℕ) (f r : ℕ) → f < 4096 → 4096 ≤ length table → (g : ℕ)
    → number_in (set table f r) g ≡ put f r (number_in table) g
unfolding number_in put
put-number table f r low room g =
    by-test (eqb g f)
    (λ e. rw (e, eqb-true g f e, lt-ltb f 4096 low) (get_or-set_same table f r 0 (omega arith)))
    (λ e. rw (e, get_or-set_other table f g r 0 (eqb-false g f e)))

-- ---- an arrival

module _ {f r : ℕ} {table queue table' queue' : List ℕ} {n n' : ℕ} (low : f < 4096) (room : 4096 ≤ length table)
    (sized : length queue ≡ 4096) (free : get_or table f 0 ≡ 65535 → n < 4096)
    (a : Arrives f r table queue n table' queue' n') where
  -- It is what the worklist does, whatever clauses lack.
  pub arrive-seen : (lacking : ℕ → ℕ) (at c : ℕ) → at ≤ n
      → seen lacking table' queue' n' at c ≡ arrive f r (seen lacking table queue n at c)
  unfolding arrive latest_in
  arrive-seen lacking at c h =
      let number = number-low table f low in
      by-test (eqb (get_or table f 0) 65535)
      (λ e.
      let new = eqb-true (get_or table f 0) 65535 e in
      let (t, q, m) = a.new new in
      let fits : n < length queue = omega (arith, free new) in
      let waits : drop at (take (suc n) (set queue n f)) ≡ drop at (take n queue) ++ f ∷ [] =
      ap (drop at) (take-suc-set queue n f fits)
      ∙ drop-append-le at (take n queue) (f ∷ []) (rw (length-take-le n queue (omega arith)) h)
      in
      let latest : get_or (set table f r) (get_or (set queue n f) n 0) 0 ≡ r =
      ap (λ (g : ℕ). get_or (set table f r) g 0) (get_or-set_same queue n f 0 fits)
      ∙ get_or-set_same table f r 0 (omega arith)
      in
      let numbers : number_in (set table f r) ≡ put f r (number_in table) = fun_ext (put-number table f r low room) in
      rw (number, e, t, q, m, add-one, waits, latest, numbers) refl)
      (λ e.
      let (t, q, m) = a.old (eqb-false (get_or table f 0) 65535 e) in
      rw (number, e, t, q, m) refl)

  -- The arrays have room after it, ..
  pub arrive-fits : (lacks : List ℕ) → Fits (arrays lacks table queue n) → Fits (arrays lacks table' queue' n')
  arrive-fits lacks fits =
      by-test (eqb (get_or table f 0) 65535)
      (λ e.
      let new = eqb-true (get_or table f 0) 65535 e in
      let (t, q, m) = a.new new in
      let last : n < length queue = omega (arith, free new) in
      rw (t, q, m)
      (record {
        lacks = fits.lacks;
        table = rw length-set room;
        queue = rw length-set sized;
        full = omega (arith, free new);
        low = λ i h.
            ⊎_elim
            (λ l. rw (get_or-set_other queue n i f 0 (λ e. omega arith)) (fits.low i l))
            (λ l. let same : i ≡ n = omega arith in rw (same, get_or-set_same queue n f 0 last) low) (below_or_from i n);
      }))
      (λ e. let (t, q, m) = a.old (eqb-false (get_or table f 0) 65535 e) in rw (t, q, m) fits)

  -- .. no fewer have arrived, and the table beyond its numbers is as it was.
  pub arrive-keeps : (n ≤ n') × (length table' ≡ length table) × (drop 4096 table' ≡ drop 4096 table)
  arrive-keeps =
      by-test (eqb (get_or table f 0) 65535)
      (λ e.
      let (t, q, m) = a.new (eqb-true (get_or table f 0) 65535 e) in
      rw (t, m) (omega arith, length-set table f r, drop-set-lt 4096 table f r low))
      (λ e.
      let (t, q, m) = a.old (eqb-false (get_or table f 0) 65535 e) in
      rw (t, m) (omega arith, refl, refl))

  -- In a round after the first the table still tells the state.
  pub arrive-state : 0 < r → state_in table' ≡ state_in table
  unfolding state_in
  arrive-state later =
      by-test (eqb (get_or table f 0) 65535)
      (λ e.
      let new = eqb-true (get_or table f 0) 65535 e in
      let (t, q, m) = a.new new in
      rw t
      (fun_ext
      (λ g.
      by-test (eqb g f)
      (λ i.
      let here : get_or (set table f r) f 0 ≡ r = get_or-set_same table f r 0 (omega arith) in
      rw (eqb-true g f i, here, new, ne_eqb r 0 (λ z. omega arith)) refl)
      (λ i. rw (get_or-set_other table f g r 0 (eqb-false g f i)) refl))))
      (λ e. let (t, q, m) = a.old (eqb-false (get_or table f 0) 65535 e) in rw t refl)

  pub arrive-does : (lacks : List ℕ) → Fits (arrays lacks table queue n)
      → Does (arrive f r) (arrays lacks table queue n) (arrays lacks table' queue' n')
  unfolding arrive
  arrive-does lacks fits =
      let (more, long, beyond) = arrive-keeps in
      record {
        says = λ at c h.
            let seen = arrive-seen (λ k. get_or lacks k 0) at c h in
            let count = ap (λ (w : Work). w.crossings) (sym seen) in
            rw count seen;
        grows = more;
        fits = arrive-fits lacks fits;
        as_long = long;
        beyond = beyond;
      }

-- ---- a crossing

module _ (cs : List Clause) (r k : ℕ) (lacks table queue : List ℕ) (n : ℕ)
    (can : Crossable cs k (arrays lacks table queue n)) where
  abbrev before : Arrays
  before = arrays lacks table queue n

  abbrev left : ℕ
  left = get_or lacks k 0 - 1

  abbrev between : Arrays
  between = arrays (set lacks k left) table queue n

  -- What the clause lacks is one less.
  one_less : Does (crossed k) before between
  one_less =
      let fits = can.fits in
      let lacking : (λ j. get_or (set lacks k left) j 0) ≡ put k left (λ j. get_or lacks j 0) =
      fun_ext (put-entry lacks k left (omega (arith, fits.lacks, can.low)))
      in
      record {
        says = λ at c h. rw lacking refl;
        grows = omega arith;
        fits = record {
          lacks = rw length-set fits.lacks;
          table = fits.table;
          queue = fits.queue;
          full = fits.full;
          low = fits.low;
        };
        as_long = refl;
        beyond = refl;
      }

  -- Where it lacks more, that is all.
  pub cross-more : (left ≡ 0 → ⊥) → Does (cross cs r k) before between
  unfolding cross
  cross-more more =
      let one : eqb (get_or lacks k 0) 1 ≡ false = ne_eqb (get_or lacks k 0) 1 (λ e. more (omega arith)) in
      does-same (λ at c. rw one refl) one_less

  -- Otherwise its head arrives.
  pub cross-last : left ≡ 0 → {table' queue' : List ℕ} {n' : ℕ}
      → Arrives (clause_at cs k).head r table queue n table' queue' n'
      → Does (cross cs r k) before (arrays (set lacks k left) table' queue' n')
  unfolding cross
  cross-last none a =
      let one : eqb (get_or lacks k 0) 1 ≡ true = eq-eqb (get_or lacks k 0) 1 (omega (arith, can.lacking)) in
      let fits = one_less.fits in
      does-same (λ at c. rw one refl)
      (does_then one_less
      (arrive-does can.head fits.table fits.queue can.room a (set lacks k left) fits))

-- One place after the others.
pub cross_all-more : (cs : List Clause) (r : ℕ) (ks : List ℕ) (k : ℕ) (w : Work)
    → cross_all_lem cs r (ks ++ k ∷ []) w ≡ cross cs r k (cross_all_lem cs r ks w)
unfolding cross_all_lem
cross_all-more cs r [] k w = refl
cross_all-more cs r (j ∷ ks) k w = cross_all-more cs r ks k (cross cs r j w)

-- ---- the fact that waits at a place of the queue

-- It is the queue's there.
pub waiting-fact : (queue : List ℕ) (n at f : ℕ)
    → (at < length (take n queue)) × ((d : ℕ) → f ≡ get_or (take n queue) at d)
    → (at < n) × (f ≡ get_or queue at 0)
waiting-fact queue n at f (h, is) =
    let some : at < n = omega (arith, length-take n queue) in
    (some, is 0 ∙ get_or-take n queue at 0 some)

module _ (g : ℕ) (table queue : List ℕ) (n at : ℕ) where
  -- Past them none waits; ..
  pub next-none : n ≤ length queue → length (take n queue) ≤ at
      → None ≡ cond (waits_for g table queue n at) (Some (get_or queue at 0)) None
  unfolding waits_for
  next-none sized h = rw (le-ltb at n (omega (arith, length-take-le n queue sized)))

  -- .. before, it is the one if it arose sooner.
  pub next-some : {f x : ℕ} → (at < n) × (f ≡ get_or queue at 0) → x ≡ number_in table g
      → then_some (ltb (get_or table f 0) x) f ≡ cond (waits_for g table queue n at) (Some (get_or queue at 0)) None
  unfolding waits_for
  next-some {f} {x} (some, is) e = rw (lt-ltb at n some, e, is) (chosen _ (get_or queue at 0))
    where
      chosen : (b : Bool) (y : ℕ) → then_some b y ≡ cond b (Some y) None
      chosen true y = refl
      chosen false y = refl

-- ---- the latest arrival

-- None has arrived, ..
pub latest-none : (table queue : List ℕ) (n : ℕ) → n ≤ length queue → length (take n queue) ≤ 0
    → 0 ≡ latest_in table queue n
unfolding latest_in
latest-none table queue n sized h = let none : n ≡ 0 = omega (arith, length-take-le n queue sized) in rw none

-- .. or the last one is that of the queue.
pub latest-last : (table queue : List ℕ) (n f : ℕ) → n ≤ length queue
    → (0 < length (take n queue)) × ((d : ℕ) → f ≡ get_or (take n queue) (length (take n queue) - 1) d)
    → get_or table f 0 ≡ latest_in table queue n
unfolding latest_in
latest-last table queue zero f sized (h, is) = absurd (omega (arith, length-take-le 0 queue sized))
latest-last table queue (suc n) f sized (h, is) =
    let last : length (take (suc n) queue) - 1 ≡ n = omega (arith, length-take-le (suc n) queue sized) in
    ap (λ (g : ℕ). get_or table g 0) (is 0 ∙ rw last (get_or-take (suc n) queue n 0 (omega arith)))
