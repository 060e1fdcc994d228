-- A sweep, one clause at a time: what the clauses that are left would still do to the table as it is now is what all of
-- them do to the table as it was.
use Prim.Native.Nat.{ℕ, ◌+◌, ◌<◌}
use mathlib.Core.Path.{◌≡◌, refl, sym, ap, ap₂, ◌∙◌, fun_ext}
use mathlib.Core.Bool.{Bool, true, false, ◌&&◌, ◌||◌, cond, and-false, or-true, or-false}
use mathlib.Core.List.{List, [], ◌∷◌}
use native.Mathlib.Omega.{arith}
use lib.Dec.{leb, eqb}
use lib.ListN.{length, get_or, drop, set, length-set}
use lib.Seq.{get_or-set_same, get_or-set_other, drop-set-lt}
use borrow.Author.Tests.{lt-leb, eq-eqb, ne_eqb, eqb-true, eqb-false}
use Rattle.sets.specs.Sets.{Facts, any}
use Rattle.meaning.specs.Model.{Clause}
use Rattle.meaning.specs.Rounds.{stands}
use Rattle.closing.specs.Closing.{Written}
use Rattle.closing.specs.Sweep.{up_to, outside, swept, adds}

-- After some clauses: these clauses are left, the table is this one, and a head was added or not.
pub record Sweeping (cs : List Clause) (r : ℕ) (before : List ℕ)
    (rest : List Clause) (table : List ℕ) (added : Bool) : Type 0 where
  pub as_long : length table ≡ length before
  pub beyond : drop 4096 table ≡ drop 4096 before
  pub numbers : (f : ℕ) → swept rest r table f ≡ swept cs r before f
  pub answer : (added || adds rest r table) ≡ adds cs r before

-- After the last clause the table has the numbers.
pub sweep-end : {cs : List Clause} {r : ℕ} {before table : List ℕ} {added : Bool} → Sweeping cs r before [] table added
    → (added ≡ adds cs r before) × Written (swept cs r before) before table
unfolding swept adds any
sweep-end {r = r} {table = table} {added} s = (
  sym (or-false added) ∙ s.answer,
  record {
    as_long = s.as_long;
    entries =
        λ f l. ap (λ (t : Bool). cond t (r + 1) (get_or table f 0)) (sym (and-false (outside table f))) ∙ s.numbers f;
    beyond = s.beyond;
  },
)

-- The number of a fact after a sweep, by the set that stands, the round, and the number that the fact has.
abbrev number : Facts → ℕ → List Clause → ℕ → ℕ → ℕ
number X n cs f g = cond (eqb g 65535 && any (λ c. eqb c.head f && stands X c) cs) n g

-- A test that fails adds nothing to a sum of tests.
skip : (o s later : Bool) → (o && s) ≡ false → (o && (s || later)) ≡ (o && later)
skip false s later h = refl
skip true s later h = rw h

same-either : (b : Bool) (n : ℕ) → cond b n n ≡ n
same-either true n = refl
same-either false n = refl

-- A fact that has the number keeps it.
number-kept : (X : Facts) (n : ℕ) (cs : List Clause) (f : ℕ) → number X n cs f n ≡ n
number-kept X n cs f = same-either (eqb n 65535 && any (λ c. eqb c.head f && stands X c) cs) n

module _ (X : Facts) (n : ℕ) (c : Clause) (rest : List Clause) (f g : ℕ) where
  -- Another clause's head does nothing to the fact.
  number-other : (c.head ≡ f → ⊥) → number X n (c ∷ rest) f g ≡ number X n rest f g
  unfolding any
  number-other h = rw (ne_eqb c.head f h)

  -- Nor does a clause to its head, if that has a number or the body doesn't stand.
  number-pass : c.head ≡ f → (eqb g 65535 && stands X c) ≡ false → number X n (c ∷ rest) f g ≡ number X n rest f g
  unfolding any
  number-pass e h = rw (eq-eqb c.head f e) (ap (λ (t : Bool). cond t n g) (skip (eqb g 65535) (stands X c) _ h))

  -- A clause that fires gives its head the number.
  number-fire : c.head ≡ f → g ≡ 65535 → stands X c ≡ true → number X n (c ∷ rest) f g ≡ n
  unfolding any
  number-fire e h t = rw (eq-eqb c.head f e, eq-eqb g 65535 h, t)

module _ {cs : List Clause} {r : ℕ} {before : List ℕ} (c : Clause) {rest : List Clause} {table : List ℕ} {added : Bool}
    (s : Sweeping cs r before (c ∷ rest) table added) where
  sweep-pass : (outside table c.head && stands (up_to table r) c) ≡ false → Sweeping cs r before rest table added
  unfolding swept adds any outside
  sweep-pass h =
      record {
        as_long = s.as_long;
        beyond = s.beyond;
        numbers = λ f. sym (same f (eqb c.head f) refl) ∙ s.numbers f;
        answer = ap (λ (t : Bool). added || (t || adds rest r table)) (sym h) ∙ s.answer;
      }
    where
      same : (f : ℕ) (b : Bool) → eqb c.head f ≡ b → swept (c ∷ rest) r table f ≡ swept rest r table f
      same f true e =
          let i = eqb-true c.head f e in
          number-pass (up_to table r) (r + 1) c rest f (get_or table f 0) i (rw i at h)
      same f false e = number-other (up_to table r) (r + 1) c rest f (get_or table f 0) (eqb-false c.head f e)

  -- A clause whose head has a number does nothing.
  pub sweep-skip : (head : ℕ) → head ≡ c.head → (get_or table head 0 ≡ 65535 → ⊥) → Sweeping cs r before rest table added
  unfolding outside
  sweep-skip head e h =
      sweep-pass (ap (λ (t : Bool). t && stands (up_to table r) c) (ne_eqb (get_or table c.head 0) 65535 (rw e at h)))

  -- A clause whose body doesn't stand does nothing.
  pub sweep_fail : stands (up_to table r) c ≡ false → Sweeping cs r before rest table added
  sweep_fail h = sweep-pass (ap (λ (t : Bool). outside table c.head && t) h ∙ and-false (outside table c.head))

  module _ (low : c.head < length table) (early : c.head < 4096) (fits : r < 65535)
      (out : get_or table c.head 0 ≡ 65535) (body : stands (up_to table r) c ≡ true) where
    abbrev table' : List ℕ
    table' = set table c.head (r + 1)

    -- The head that gets r + 1 stood in round r neither before nor after.
    same_set : up_to table' r ≡ up_to table r
    unfolding up_to
    same_set = fun_ext (λ f. at f (eqb f c.head) refl)
      where
        at : (f : ℕ) (b : Bool) → eqb f c.head ≡ b → leb (get_or table' f 0) r ≡ leb (get_or table f 0) r
        at f true e =
            rw (
              eqb-true f c.head e,
              get_or-set_same table c.head (r + 1) 0 low,
              out,
              lt-leb (r + 1) r (omega arith),
              lt-leb 65535 r fits,
            )
        at f false e = rw (get_or-set_other table c.head f (r + 1) 0 (eqb-false f c.head e))

    fire : Sweeping cs r before rest table' true
    unfolding swept adds any outside
    fire =
        record {
          as_long = length-set table c.head (r + 1) ∙ s.as_long;
          beyond = drop-set-lt 4096 table c.head (r + 1) early ∙ s.beyond;
          numbers = λ f. same f (eqb f c.head) refl ∙ s.numbers f;
          answer = sym (ap (λ (t : Bool). added || t) fires ∙ or-true added) ∙ s.answer;
        }
      where
        fires : adds (c ∷ rest) r table ≡ true
        fires = rw (eq-eqb (get_or table c.head 0) 65535 out, body)

        same : (f : ℕ) (b : Bool) → eqb f c.head ≡ b → swept rest r table' f ≡ swept (c ∷ rest) r table f
        same f true e =
            let i = eqb-true f c.head e in
            let stored : get_or table' f 0 ≡ r + 1 = rw i (get_or-set_same table c.head (r + 1) 0 low) in
            ap (number (up_to table' r) (r + 1) rest f) stored ∙ number-kept (up_to table' r) (r + 1) rest f
            ∙ sym (number-fire (up_to table r) (r + 1) c rest f (get_or table f 0) (sym i) (rw i out) body)
        same f false e =
            let n = eqb-false f c.head e in
            ap₂ (λ (X : Facts) (g : ℕ). number X (r + 1) rest f g) same_set
            (get_or-set_other table c.head f (r + 1) 0 n)
            ∙ sym (number-other (up_to table r) (r + 1) c rest f (get_or table f 0) (λ q. n (sym q)))

  -- A clause whose head has no number, and whose body stands, gives its head the number r + 1.
  pub sweep-fire : (head : ℕ) → head ≡ c.head → head < length table → head < 4096 → r < 65535
      → get_or table head 0 ≡ 65535
      → stands (up_to table r) c ≡ true → Sweeping cs r before rest (set table head (r + 1)) true
  sweep-fire head e low early fits out body = rw e (fire (rw e at low) (rw e at early) fits (rw e at out) body)
