-- The worklist's turns, as its arrays say them: a place can be crossed, a turn leads from one moment between turns to
-- the next, and what the arrays say at the end is what closing promises.
use Prim.Native.Nat.{ℕ, suc, ◌+◌, ◌-◌, ◌≤◌, ◌<◌}
use mathlib.Core.Path.{◌≡◌, refl, sym, ap, ◌∙◌, subst}
use mathlib.Core.Bool.{Bool, true, false, cond}
use mathlib.Core.Logic.{inl, inr}
use mathlib.Core.List.Memᴰ
use mathlib.Core.List.{List, [], ◌∷◌, ◌++◌}
use native.Mathlib.Numerals.{add-one}
use native.Mathlib.Omega.{arith}
use lib.ListN.{length, get_or, take, drop, length-append, length-drop, drop_of_length-le}
use lib.Seq.{length-take-le, drop-cons, take-suc, take_all, get_or-take}
use lib.Dec.{ltb}
use Rattle.std.proofs.Common.{Some, None, slice_range}
use borrow.Author.Tests.{lt-ltb, ltb-true, ltb-false}
use Rattle.sets.specs.Sets.{Facts, listed}
use Rattle.sets.proofs.Laws.{passes, is_true, both, below_or_from}
use Rattle.meaning.specs.Model.{Clause}
use Rattle.meaning.specs.Worklist.{Work, body_places, entries_from_lem, places_in, cross, cross_all_lem, taken}
use Rattle.meaning.specs.Early.{shown, rounds_for}
use Rattle.meaning.specs.Working.{Known, clause_at, sooner, Within, Toward}
use Rattle.meaning.proofs.Places.{clause_in, places_le}
use Rattle.meaning.proofs.Arriving.{arrived-few}
use Rattle.meaning.proofs.Worklist.{take-first, within-number, within-entry, within-room, cross_keeps}
use Rattle.meaning.proofs.Early.{Stopped, toward-start, toward-next, stopped-empty, stopped-waiting}
use Rattle.worklist.specs.Arrays.{Arrays, number_in, latest_in, said, Fits, Does, Starts, Crossable, Amid, Between}
use Rattle.worklist.specs.Arrays.{waits_for}
use Rattle.worklist.specs.Working.{Listed}
use Rattle.worklist.proofs.Entries.{entries_at}
use Rattle.worklist.proofs.Seeing.{does-none, does_then, does-same, number-low, cross_all-more}

-- so many facts wait
waiting-length : {a : Arrays} → Fits a → (at : ℕ) → length (drop at (take a.n a.queue)) ≡ a.n - at
waiting-length {a} fits at =
    length-drop at (take a.n a.queue)
    ∙ ap (λ (m : ℕ). m - at) (length-take-le a.n a.queue (omega (arith, fits.full, fits.queue)))

-- ---- in the midst of a turn

module _ {cs : List Clause} {r k : ℕ} {ks : List ℕ} {a : Arrays} (m : Amid cs r (k ∷ ks) a) where
  -- The next place can be crossed, ..
  pub amid_crossable : Crossable cs k a
  amid_crossable =
      let (number, lacking, few) = within-entry m.known m.within in
      let head = m.known.heads (clause_at cs k) (clause_in cs k number) in
      record {
        number = number;
        low = omega (arith, m.known.count);
        head = head;
        lacking = lacking;
        room = λ e.
            let free = within-room m.known m.within (number-low a.table _ head ∙ e) in
            let waits = waiting-length m.fits m.at in
            let taken = length-append m.had (m.f ∷ []) in
            let all = length-append (m.had ++ m.f ∷ []) (drop m.at (take a.n a.queue)) in
            omega (arith, m.here, m.some);
        fits = m.fits;
      }

  -- .. and then the others are still to be crossed.
  pub amid-next : {b : Arrays} → Does (cross cs r k) a b → Amid cs r ks b
  amid-next {b} d =
      let w = said a m.at m.crossings in
      let keeps = cross_keeps m.known m.within r m.round in
      let within : Within cs m.S m.had m.f ks (said b m.at (cross cs r k w).crossings) =
      subst (λ (v : Work). Within cs m.S m.had m.f ks v) (sym (d.says m.at m.crossings m.some))
      keeps
      in
      record {
        S = m.S;
        known = m.known;
        had = m.had;
        f = m.f;
        at = m.at;
        crossings = (cross cs r k w).crossings;
        here = m.here;
        some = omega (arith, m.some, d.grows);
        round =
            m.round ∙ ap suc (within-number m.known m.within ∙ sym (within-number m.known within));
        within = within;
        fits = d.fits;
      }

-- The entries before i have been crossed.
pub record Crossing (cs : List Clause) (r : ℕ) (entries : List ℕ) (i : ℕ) (a b : Arrays) : Type 0 where
  pub some : i ≤ length entries
  pub amid : Amid cs r (drop i entries) b
  pub does : Does (cross_all_lem cs r (take i entries)) a b

pub crossing_start : {cs : List Clause} {r : ℕ} {entries : List ℕ} {a : Arrays} → Amid cs r entries a
    → Crossing cs r entries 0 a a
unfolding cross_all_lem
crossing_start m = record { some = omega arith; amid = m; does = does-none m.fits }

module _ {cs : List Clause} {r : ℕ} {entries : List ℕ} {i : ℕ} {a b : Arrays} (x : Crossing cs r entries i a b) where
  pub crossing_end : length entries ≤ i → Does (cross_all_lem cs r entries) a b
  crossing_end h = rw (take_all i entries h) at x.does

  module _ (h : i < length entries) where
    next : Amid cs r (get_or entries i 0 ∷ drop (suc i) entries) b
    next = rw (drop-cons entries i 0 h) at x.amid

    pub crossing_can : Crossable cs (get_or entries i 0) b
    crossing_can = amid_crossable next

    pub crossing_next : {c : Arrays} → Does (cross cs r (get_or entries i 0)) b c → Crossing cs r entries (i + 1) a c
    crossing_next d = rw add-one (record {
      some = omega arith;
      amid = amid-next next d;
      does =
          rw (take-suc entries i 0 h)
          (does-same (λ at k. sym (cross_all-more cs r (take i entries) (get_or entries i 0) _)) (does_then x.does d));
    })

-- ---- a turn

-- Whether there is one: a fact waits, and its number is smaller than that of the fact asked for.
module _ (g : ℕ) (table queue : List ℕ) (n at : ℕ) where
  pub waits-more : {f : ℕ} → Some f ≡ cond (waits_for g table queue n at) (Some (get_or queue at 0)) None
      → (at < n) × (f ≡ get_or queue at 0) × (get_or table f 0 < number_in table g)
  unfolding waits_for
  waits-more {f} e =
      let (waits, is) = chosen _ _ e in
      let sooner = ltb (get_or table (get_or queue at 0) 0) (number_in table g) in
      let (some, less) = (both (ltb at n) sooner).0 (passes waits) in
      (ltb-true _ _ (is_true some), is, rw is (ltb-true _ _ (is_true less)))
    where
      chosen : (b : Bool) (x : ℕ) → Some f ≡ cond b (Some x) None → (b ≡ true) × (f ≡ x)
      chosen true x e = (refl, cc)
      chosen false x e = cc

  pub waits_none : None ≡ cond (waits_for g table queue n at) (Some (get_or queue at 0)) None
      → waits_for g table queue n at ≡ false
  waits_none e = chosen _ _ e
    where
      chosen : (b : Bool) (x : ℕ) → None ≡ cond b (Some x) None → b ≡ false
      chosen true x e = cc
      chosen false x e = refl

-- Before the first one.
pub between_start : {cs : List Clause} {S : Facts} → Known cs S → {g : ℕ} → S g ≡ false → {before : List ℕ} {a : Arrays}
    → Starts cs S before a → Between cs S g 0 0 a
between_start {cs} {S} known {g} e s = record {
  had = [];
  here = refl;
  some = omega arith;
  toward = subst (λ (w : Work). Toward cs S g [] w) (sym s.says) (toward-start known e);
  fits = s.fits;
}

module _ {cs : List Clause} {S : Facts} (known : Known cs S) {g at c : ℕ} {a : Arrays} (b : Between cs S g at c a) where
  module _ (h : at < a.n) where
    abbrev f : ℕ
    f = get_or a.queue at 0

    abbrev rest : List ℕ
    rest = drop (suc at) (take a.n a.queue)

    -- The first fact that waits.
    first-waits : drop at (take a.n a.queue) ≡ f ∷ rest
    first-waits =
        let long = length-take-le a.n a.queue (omega (arith, b.fits.full, b.fits.queue)) in
        drop-cons (take a.n a.queue) at 0 (omega arith)
        ∙ ap (λ (g : ℕ). g ∷ rest) (get_or-take a.n a.queue at 0 h)

    within : Within cs S b.had f (entries_from_lem 0 cs f) (said a (suc at) c)
    within = take-first known b.toward.sound first-waits

    pub first-low : f < 4096
    first-low = b.fits.low at h

    -- Its number fits.
    pub first-few : get_or a.table f 0 ≤ 4096
    first-few =
        let few = arrived-few known b.toward.sound.arrived f
        (Memᴰ.append_right b.had (rw first-waits (Memᴰ.head refl))) in
        omega (arith, few, number-low a.table f first-low)

    module _ {entries : List ℕ} (these : entries ≡ entries_from_lem 0 cs f) where
      -- No more places are crossed than there are.
      count : c + length entries ≤ body_places cs
      count = omega (arith, ap length these, within.crossings, places_le (listed (b.had ++ f ∷ [])) cs)

      later : get_or a.table f 0 + 1 ≡ suc (number_in a.table f)
      later = rw (number-low a.table f first-low, add-one)

      -- It is taken: its places are to be crossed, ..
      amid : Amid cs (get_or a.table f 0 + 1) entries a
      amid =
          rw these
          (record {
            S = S;
            known = known;
            had = b.had;
            f = f;
            at = suc at;
            crossings = c;
            here = omega (arith, b.here);
            some = h;
            round = later;
            within = within;
            fits = b.fits;
          })

      -- .. and that leads to the next moment between turns.
      after : get_or a.table f 0 < number_in a.table g → {d : Arrays}
          → Does (cross_all_lem cs (get_or a.table f 0 + 1) entries) a d
          → Between cs S g (at + 1) (c + length entries) d
      unfolding taken
      after l {d} does =
          let x : Does (cross_all_lem cs (suc (number_in a.table f)) (entries_from_lem 0 cs f)) a d =
          rw (later, these) at does
          in
          let less : number_in a.table f < number_in a.table g = rw (number-low a.table f first-low) l in
          let done = toward-next known b.toward first-waits less in
          let after = cross_all_lem cs (suc (number_in a.table f)) (entries_from_lem 0 cs f) (said a (suc at) c) in
          let count : after.crossings ≡ c + length entries =
          omega (arith, done.sound.crossings, within.crossings, ap length these)
          in
          rw (add-one, ← count)
          (record {
            had = b.had ++ f ∷ [];
            here = omega (arith, length-append b.had (f ∷ []), b.here);
            some = omega (arith, x.grows);
            toward = subst (λ (w : Work). Toward cs S g (b.had ++ f ∷ []) w) (sym (x.says (suc at) c h)) done;
            fits = x.fits;
          })

  -- The same of the fact that is found.
  module _ {f : ℕ} (e : Some f ≡ cond (waits_for g a.table a.queue a.n at) (Some (get_or a.queue at 0)) None) where
    waiting : (at < a.n) × (f ≡ get_or a.queue at 0) × (get_or a.table f 0 < number_in a.table g)
    waiting = waits-more g a.table a.queue a.n at e

    pub turn-low : f < 4096
    turn-low = rw waiting.1 (first-low waiting.0)

    pub turn-few : (at < 4096) × (get_or a.table f 0 ≤ 4096)
    turn-few = (omega (arith, waiting.0, b.fits.full), rw waiting.1 (first-few waiting.0))

    module _ {index ends entries : List ℕ} (listed : Listed cs index ends)
        (part : entries ≡ slice_range index (get_or ends f 0) (get_or ends (f + 1) 0)) where
      these : entries ≡ entries_from_lem 0 cs (get_or a.queue at 0)
      these = rw waiting.1 at (part ∙ (entries_at listed f turn-low).these)

      pub turn-count : c + length entries ≤ body_places cs
      turn-count = count waiting.0 these

      pub turn-amid : Amid cs (get_or a.table f 0 + 1) entries a
      turn-amid = rw waiting.1 (amid waiting.0 these)

      pub turn-next : {d : Arrays} → Does (cross_all_lem cs (get_or a.table f 0 + 1) entries) a d
          → Between cs S g (at + 1) (c + length entries) d
      turn-next does = after waiting.0 these (rw waiting.1 at waiting.2) (rw waiting.1 at does)

  -- At the end none waits that arose sooner than g: none at all, ..
  none-waits : a.n ≤ at → drop at (take a.n a.queue) ≡ []
  none-waits h =
      let long = length-take-le a.n a.queue (omega (arith, b.fits.full, b.fits.queue)) in
      let past : length (take a.n a.queue) ≤ at = omega arith in
      drop_of_length-le (take a.n a.queue) past

  -- .. or none before g.
  pub stopped : waits_for g a.table a.queue a.n at ≡ false → Stopped cs S g (said a at c)
  unfolding waits_for
  stopped e = elim (below_or_from at a.n) [
    | inl h ↦
        let l = ltb-false _ _ (rw (lt-ltb at a.n h) at e) in
        stopped-waiting known b.toward (first-waits h) (rw (number-low a.table _ (first-low h)) l)
    | inr h ↦ stopped-empty known b.toward (none-waits h)
  ]

  -- So it is with what closing promises.
  module _ (e : waits_for g a.table a.queue a.n at ≡ false) where
    pub end-number : (f : ℕ) → f < 4096 → get_or a.table f 0 ≡ shown cs S (rounds_for cs S g) f
    end-number f l = sym (number-low a.table f l) ∙ (stopped e).number f

    pub end-latest : latest_in a.table a.queue a.n ≡ rounds_for cs S g
    end-latest = (stopped e).latest

    pub end-crossings : c ≡ places_in (sooner cs S g) cs
    end-crossings = (stopped e).crossings
