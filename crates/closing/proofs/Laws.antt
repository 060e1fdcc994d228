-- What closing's promise gives, whatever closing does to keep it: from the filled table and the number answered alone.
use Prim.Native.Nat.{ℕ, ◌-◌, ◌≤◌, ◌<◌}
use mathlib.Core.Path.{◌≡◌, refl, sym, ap, ◌∙◌, fun_ext, subst}
use mathlib.Core.Logic.{◌↔◌, ⊎_elim}
use mathlib.Core.Bool.{Bool, true, false, not, ◌&&◌}
use mathlib.Core.List.{List}
use native.Mathlib.Nat.{add-sub_of_le}
use native.Mathlib.Omega.{arith}
use lib.Dec.{T, ltb, eqb}
use lib.ListN.{length, get_or}
use lib.Seq.{ext_get_or, get_or-drop}
use borrow.Author.Tests.{lt-ltb, le-ltb, eq-eqb, ne_eqb}
use Rattle.sets.specs.Sets.{Facts}
use Rattle.meaning.specs.Model.{Clause}
use Rattle.meaning.specs.Rounds.{round, rounds, closure, missing_heads}
use Rattle.meaning.specs.Published.{HC}
use Rattle.meaning.specs.Promises.{IsRounds, IsRoundNumber}
use Rattle.sets.proofs.Laws.{is_false, passes, fails, below_or_from}
use Rattle.meaning.proofs.Theorems.{closure-is-HC, closure-inside, round_number-is, round_number-outside, round_number_le}
use Rattle.meaning.proofs.Theorems.{rounds-is, rounds-bound}
use Rattle.facts.specs.Facts.{members}
use Rattle.facts.proofs.Laws.{beyond}
use Rattle.closing.specs.Closing.{Written, Filled, Bounded, ClosesUnder, numbered}

-- Two tables that closing can leave of one table are the same.
pub filled_unique : {number : ℕ → ℕ} {before a b : List ℕ} → Written number before a → Written number before b → a ≡ b
filled_unique {a = a} {b = b} p q =
    ext_get_or 0 a b (p.as_long ∙ sym q.as_long) (λ f _. ⊎_elim (near f) (far f) (below_or_from f 4096))
  where
    near : (f : ℕ) → f < 4096 → get_or a f 0 ≡ get_or b f 0
    near f l = p.entries f l ∙ sym (q.entries f l)

    far : (f : ℕ) → 4096 ≤ f → get_or a f 0 ≡ get_or b f 0
    far f l =
        subst (λ (k : ℕ). get_or a k 0 ≡ get_or b k 0) (add-sub_of_le l)
        (sym (get_or-drop 4096 a (f - 4096) 0) ∙ ap (λ (t : List ℕ). get_or t (f - 4096) 0) (p.beyond ∙ sym q.beyond)
        ∙ get_or-drop 4096 b (f - 4096) 0)

-- Two results of closing under a judged model's clauses are equal, the number and every entry.
pub closes_under_unique : {cs : List Clause} {state before a b : List ℕ} {n k : ℕ}
    → ClosesUnder cs state before a n → ClosesUnder cs state before b k → (n ≡ k) × (a ≡ b)
closes_under_unique x y = (x.number ∙ sym y.number, filled_unique x.filled y.filled)

module _ (cs : List Clause) (S : Facts) {before after : List ℕ} (filled : Filled cs S before after) where
  -- Each of the first 4,096 entries is the fact's round number.
  pub filled-number : (f : ℕ) → f < 4096 → IsRoundNumber cs S f (get_or after f 0)
  filled-number f l = rw (filled.entries f l) (round_number-is cs S f)

  module _ (few : length cs ≤ 4096) (f : ℕ) (l : f < 4096) where
    -- An entry is 65,535 exactly if its fact is outside the closure.
    pub filled-closure : (get_or after f 0 ≡ 65535) ↔ (T (closure cs S f) → ⊥)
    filled-closure = rw (filled.entries f l) (round_number-outside cs S f (omega arith))

    -- A fact with another entry is in the closure.
    pub filled-inside : (get_or after f 0 ≡ 65535 → ⊥) → T (closure cs S f)
    filled-inside n = go (closure cs S f) refl
      where
        go : (b : Bool) → closure cs S f ≡ b → T (closure cs S f)
        go true e = passes e
        go false e = absurd (n (filled-closure.1 (fails e)))

    -- Such an entry is the first round that its fact stands in.
    pub filled-first : (get_or after f 0 ≡ 65535 → ⊥)
        → T (round cs S (get_or after f 0) f) × ((r : ℕ) → r < get_or after f 0 → T (round cs S r f) → ⊥)
    filled-first n = ((filled-number f l).stands (filled-inside n), (filled-number f l).first (filled-inside n))

    -- It is at most the number answered.
    pub filled_within : (answered : ℕ) → answered ≡ rounds cs S → (get_or after f 0 ≡ 65535 → ⊥)
        → get_or after f 0 ≤ answered
    filled_within answered e n = rw (e, filled.entries f l) (round_number_le cs S f (filled-inside n))

  -- Where no stored fact and no head is 4,096 or more, the facts that have a number in the table are the closure.
  pub filled-numbered : Bounded cs → ((f : ℕ) → 4096 ≤ f → S f ≡ false) → (f : ℕ) → numbered after f ≡ closure cs S f
  unfolding numbered
  filled-numbered b low f = ⊎_elim near far (below_or_from f 4096)
    where
      inside : (g : ℕ) → T (closure cs S g) → g < 4096
      inside =
          closure-inside cs S (λ g. g < 4096)
          (λ g t. ⊎_elim (λ l. l) (λ h. absurd (fails (low g h) t)) (below_or_from g 4096)) (λ c m _. b.heads c m)

      near : f < 4096 → (ltb f 4096 && not (eqb (get_or after f 0) 65535)) ≡ closure cs S f
      near l = rw (lt-ltb f 4096 l) (go (closure cs S f) refl)
        where
          go : (t : Bool) → closure cs S f ≡ t → not (eqb (get_or after f 0) 65535) ≡ closure cs S f
          go true e = rw (e, ne_eqb (get_or after f 0) 65535 (λ q. (filled-closure b.count f l).0 q (passes e)))
          go false e = rw (e, eq-eqb (get_or after f 0) 65535 ((filled-closure b.count f l).1 (fails e)))

      far : 4096 ≤ f → (ltb f 4096 && not (eqb (get_or after f 0) 65535)) ≡ closure cs S f
      far h = rw (le-ltb f 4096 h) (sym (is_false (λ t. omega (arith, inside f t))))

-- The facts that have a number in the table are the smallest set that holds the state and obeys the clauses.
pub filled-smallest : (cs : List Clause) {before after : List ℕ} (state : List ℕ)
    → Filled cs (members state) before after → Bounded cs → HC cs (members state) (numbered after)
filled-smallest cs state filled b =
    let same = fun_ext (filled-numbered cs (members state) filled b (beyond 512 state)) in
    rw same (closure-is-HC cs (members state))

module _ (cs : List Clause) (S : Facts) (answered : ℕ) (e : answered ≡ rounds cs S) where
  -- The number answered is the number of the first round that equals every later one.
  pub answered_rounds : IsRounds cs S answered
  answered_rounds = rw e (rounds-is cs S)

  -- It is at most the number of different clause heads missing from the start.
  pub answered_bound : answered ≤ missing_heads cs S
  answered_bound = rw e (rounds-bound cs S)
