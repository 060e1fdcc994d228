-- The numbers after r rounds: those of the start, what a sweep makes of them, and that those after the last round are
-- the round numbers.
use Prim.Native.Nat.{ℕ, suc, ◌≤◌, ◌<◌}
use mathlib.Core.Path.{◌≡◌, refl, sym, ap, ap₂, ◌∙◌}
use mathlib.Core.Logic.{inl, inr}
use mathlib.Core.Bool.{Bool, true, false, true≢false, not, ◌&&◌, ◌||◌, cond}
use mathlib.Core.List.Memᴰ
use mathlib.Core.List.{List, [], ◌∷◌}
use native.Mathlib.Nat.{le_refl, eq-or-lt_of_le}
use native.Mathlib.Numerals.{add-one}
use native.Mathlib.Omega.{arith}
use lib.Dec.{leb, eqb}
use lib.ListN.{get_or}
use borrow.Author.Tests.{le-leb, lt-leb, ne_eqb, not-true, not-false}
use Rattle.sets.specs.Sets.{Facts, every, any, first, ◌∈◌}
use Rattle.meaning.specs.Model.{Clause}
use Rattle.meaning.specs.Rounds.{stands, next, round, obeys, rounds, closure, round_number}
use Rattle.sets.proofs.Laws.{is_false, fails, first_le, first-before, first_passes, first-is}
use Rattle.meaning.proofs.Closing.{next-obeys, round_mono, rounds-before, rounds-bound}
use Rattle.meaning.proofs.Closing.{missing_heads-bound, closure-obeys}
use Rattle.closing.specs.Closing.{Bounded, Written}
use Rattle.closing.specs.Sweep.{stored, up_to, outside, swept, adds}

-- ---- tests on lists that agree

module _ {A : Type 0} (p q : A → Bool) where
  every-same : (xs : List A) → ((x : A) → x ∈ xs → p x ≡ q x) → every p xs ≡ every q xs
  unfolding every
  every-same [] h = refl
  every-same (x ∷ xs) h = ap₂ ◌&&◌ (h x (Memᴰ.head refl)) (every-same xs (λ y m. h y (Memᴰ.tail m)))

  any_same : (xs : List A) → ((x : A) → x ∈ xs → p x ≡ q x) → any p xs ≡ any q xs
  unfolding any
  any_same [] h = refl
  any_same (x ∷ xs) h = ap₂ ◌||◌ (h x (Memᴰ.head refl)) (any_same xs (λ y m. h y (Memᴰ.tail m)))

  -- Some entry fails exactly if not every one passes.
  any-fails : (xs : List A) → ((x : A) → x ∈ xs → p x ≡ not (q x)) → any p xs ≡ not (every q xs)
  unfolding any every
  any-fails [] h = refl
  any-fails (x ∷ xs) h =
      ap₂ ◌||◌ (h x (Memᴰ.head refl)) (any-fails xs (λ y m. h y (Memᴰ.tail m))) ∙ both (q x)
    where
      both : (b : Bool) → (not b || not (every q xs)) ≡ not (b && every q xs)
      both true = refl
      both false = refl

-- ---- the numbers

-- A fact's number after r rounds: "the first round it stands in", or 65,535 if it stands in none of them.
unfoldable pub number_after : List Clause → Facts → ℕ → ℕ → ℕ
unfolding round first
number_after cs S r f = cond (round cs S r f) (first (λ q. round cs S q f) r) 65535

module _ (cs : List Clause) (S : Facts) where
  -- At the start they are those of round 0.
  pub number-start : (f : ℕ) → stored S f ≡ number_after cs S 0 f
  unfolding stored number_after
  number-start f = refl

  -- After the last round they are the round numbers.
  pub number-last : (f : ℕ) → number_after cs S (rounds cs S) f ≡ round_number cs S f
  unfolding number_after round_number
  number-last f = refl

  module _ (r : ℕ) (f : ℕ) where
    abbrev stood : ℕ → Bool
    stood q = round cs S q f

    -- A fact that stands has its first round already.
    first_more : stood r ≡ true → first stood (suc r) ≡ first stood r
    first_more e =
        first-is stood (suc r) (first stood r) (first_passes stood r e) (first-before stood r)
        (omega (arith, first_le stood r))

    -- A fact that stands in round r + 1 and not in round r has that as its first.
    first-new : stood r ≡ false → stood (suc r) ≡ true → first stood (suc r) ≡ suc r
    first-new e n =
        first-is stood (suc r) (suc r) n (λ q l. is_false (λ t. fails e (round_mono cs S q r (omega arith) f t)))
        (le_refl (suc r))

    -- Where round r + 1 is round r, so are the numbers.
    pub number-still : stood (suc r) ≡ stood r → number_after cs S (suc r) f ≡ number_after cs S r f
    unfolding number_after
    number-still e = go (stood r) refl
      where
        go : (b : Bool) → stood r ≡ b
            → cond (stood (suc r)) (first stood (suc r)) 65535 ≡ cond (stood r) (first stood r) 65535
        go true i = rw (e, i) (first_more i)
        go false i = rw (e, i)

    abbrev given : Bool
    given = any (λ c. eqb c.head f && stands (round cs S r) c) cs

    -- A fact without a number that is the head of a clause whose body stands gets the next one.
    number-next : cond (not (stood r) && given) (suc r) (number_after cs S r f) ≡ number_after cs S (suc r) f
    unfolding number_after round next
    number-next = go (stood r) given refl refl
      where
        go : (b g : Bool) → stood r ≡ b → given ≡ g
            → cond (not (stood r) && given) (suc r) (cond (stood r) (first stood r) 65535)
            ≡ cond (stood r || given) (first stood (suc r)) 65535
        go true g i j = rw i (sym (first_more i))
        go false true i j = rw (i, j) (sym (first-new i (rw (i, j))))
        go false false i j = rw (i, j)

    module _ (fits : r < 65535) where
      -- The number is at most r exactly if the fact stands in round r.
      number_up_to : leb (number_after cs S r f) r ≡ stood r
      unfolding number_after
      number_up_to = go (stood r) refl
        where
          go : (b : Bool) → stood r ≡ b → leb (cond (stood r) (first stood r) 65535) r ≡ stood r
          go true i = rw i (le-leb (first stood r) r (first_le stood r))
          go false i = rw i (lt-leb 65535 r fits)

      -- There is none exactly if it doesn't.
      number-outside : eqb (number_after cs S r f) 65535 ≡ not (stood r)
      unfolding number_after
      number-outside = go (stood r) refl
        where
          go : (b : Bool) → stood r ≡ b → eqb (cond (stood r) (first stood r) 65535) 65535 ≡ not (stood r)
          go true i = rw i (ne_eqb (first stood r) 65535 (λ e. omega (arith, first_le stood r)))
          go false i = rw i

-- ---- a table that holds them

module _ (cs : List Clause) (S : Facts) (b : Bounded cs) (r : ℕ) (fits : r < 65535) (table : List ℕ)
    (holds : (f : ℕ) → f < 4096 → get_or table f 0 ≡ number_after cs S r f) where
  up_to_is : (f : ℕ) → f < 4096 → up_to table r f ≡ round cs S r f
  unfolding up_to
  up_to_is f l = rw (holds f l) (number_up_to cs S r f fits)

  outside-is : (f : ℕ) → f < 4096 → outside table f ≡ not (round cs S r f)
  unfolding outside
  outside-is f l = rw (holds f l) (number-outside cs S r f fits)

  stands-is : (c : Clause) → c ∈ cs → stands (up_to table r) c ≡ stands (round cs S r) c
  unfolding stands
  stands-is c m = every-same (up_to table r) (round cs S r) c.body (λ x i. up_to_is x (b.bodies c m x i))

  -- After a sweep it holds those of the next round.
  pub swept-is : (f : ℕ) → f < 4096 → swept cs r table f ≡ number_after cs S (suc r) f
  unfolding swept
  swept-is f l =
      rw (outside-is f l, holds f l, add-one)
      (ap (λ (g : Bool). cond (not (round cs S r f) && g) (suc r) (number_after cs S r f))
      (any_same _ _ cs (λ c m. ap (λ (t : Bool). eqb c.head f && t) (stands-is c m)))
      ∙ number-next cs S r f)

  -- The sweep adds a head exactly if round r doesn't obey the clauses.
  pub adds-is : adds cs r table ≡ not (obeys cs (round cs S r))
  unfolding adds obeys
  adds-is =
      any-fails _ _ cs
      (λ c m. ap₂ ◌&&◌ (outside-is c.head (b.heads c m)) (stands-is c m)
      ∙ turned (round cs S r c.head) (stands (round cs S r) c))
    where
      turned : (x s : Bool) → (not x && s) ≡ not (not s || x)
      turned true true = refl
      turned true false = refl
      turned false true = refl
      turned false false = refl

-- ---- the last round

module _ (cs : List Clause) (S : Facts) (r : ℕ) (within : r ≤ rounds cs S) where
  -- A round that doesn't obey the clauses is not the last one.
  pub not_last : obeys cs (round cs S r) ≡ false → r < rounds cs S
  unfolding closure
  not_last e =
      elim (eq-or-lt_of_le within) [ inl i ↦ absurd (true≢false (sym (closure-obeys cs S) ∙ rw (← i) e)) | inr l ↦ l ]

  -- A round that obeys them is.
  pub is_last : obeys cs (round cs S r) ≡ true → r ≡ rounds cs S
  is_last e = elim (eq-or-lt_of_le within) [ inl i ↦ i | inr l ↦ absurd (true≢false (sym e ∙ rounds-before cs S r l)) ]

  -- The numbers that one more sweep then leaves are the round numbers.
  pub number-end : obeys cs (round cs S r) ≡ true → (f : ℕ) → number_after cs S (suc r) f ≡ round_number cs S f
  unfolding round
  number-end e f =
      number-still cs S r f ((next-obeys cs (round cs S r)).0 e f) ∙ ap (λ (q : ℕ). number_after cs S q f) (is_last e)
      ∙ number-last cs S f

-- No round has a number that the table can't hold.
rounds-fit : (cs : List Clause) (S : Facts) → Bounded cs → rounds cs S ≤ 4096
rounds-fit cs S b = omega (arith, rounds-bound cs S, missing_heads-bound cs S, b.count)

-- ---- a sweep of a table that holds round r's numbers

-- Before the first sweep it holds round 0's.
pub start-numbers : (cs : List Clause) (S : Facts) {before table : List ℕ} → Written (stored S) before table
    → Written (number_after cs S 0) before table
start-numbers cs S w =
    record { as_long = w.as_long; entries = λ f l. w.entries f l ∙ number-start cs S f; beyond = w.beyond }

module _ (cs : List Clause) (S : Facts) (b : Bounded cs) (r : ℕ) {before table : List ℕ} (within : r ≤ rounds cs S)
    (holds : Written (number_after cs S r) before table) where
  pub round_small : r ≤ 4096
  round_small = omega (arith, rounds-fit cs S b)

  module _ {added : Bool} (is : added ≡ adds cs r table) where
    answered : added ≡ not (obeys cs (round cs S r))
    answered = is ∙ adds-is cs S b r (omega (arith, round_small)) table holds.entries

    -- Where it adds a head there are more rounds; ..
    pub more_rounds : added ≡ true → r < rounds cs S
    more_rounds e = not_last cs S r within (not-true _ (sym answered ∙ e))

    -- .. where it adds none this is the last, and the next round's numbers are the round numbers.
    obeyed : added ≡ false → obeys cs (round cs S r) ≡ true
    obeyed e = not-false _ (sym answered ∙ e)

    pub no-more_rounds : added ≡ false → r ≡ rounds cs S
    no-more_rounds e = is_last cs S r within (obeyed e)

    pub last-numbers : added ≡ false → {after : List ℕ} → Written (number_after cs S (suc r)) before after
        → Written (round_number cs S) before after
    last-numbers e w = record {
      as_long = w.as_long;
      entries = λ f l. w.entries f l ∙ number-end cs S r within (obeyed e) f;
      beyond = w.beyond;
    }

  -- After it the table holds the next round's.
  pub next-numbers : {after : List ℕ} → Written (swept cs r table) table after
      → Written (number_after cs S (suc r)) before after
  next-numbers w = record {
    as_long = w.as_long ∙ holds.as_long;
    entries = λ f l. w.entries f l ∙ swept-is cs S b r (omega (arith, round_small)) table holds.entries f l;
    beyond = w.beyond ∙ holds.beyond;
  }
