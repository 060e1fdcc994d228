-- Laws on a verdict's number by what decides it.
use Prim.Native.Nat.{ℕ, ◌≤◌}
use mathlib.Core.Path.{◌≡◌, refl, sym, ap, ◌∙◌, subst}
use mathlib.Core.Logic.{◌↔◌, ◌⊎◌, inl, inr}
use mathlib.Core.Bool.{true, false, true≢false}
use mathlib.Core.List.{List}
use mathlib.Core.Option.{none, some, none-ne-some, some-injective}
use native.Mathlib.Omega.{arith}
use Rattle.meaning.specs.Run.{Condition, Ending}
use Rattle.meaning.specs.Run.Condition.{positive, negative, unused}
use Rattle.meaning.specs.Run.Ending.{attack, blocked, not_met, upheld}
use Rattle.files.specs.Files.{Blamed, pair_fault}
use Rattle.files.specs.Answers.{blamed_number}
use Rattle.causes.proofs.Exact.{number_exactly}
use Rattle.stepping.specs.Conditions.{stop_number, fact_in}
use Rattle.reaching.specs.Reaching.{Lent}
use Rattle.checking.specs.Verdict.{no_space_lem}
use Rattle.running.specs.Outcomes.{number_of, outcome}
use Rattle.checking.specs.Promises.{Stopping, end_number, Given}
use Rattle.causes.specs.Causes.{Refusing}

-- the numbers of faults and of steps that can't fire, for sums and orders
abbrev Apart : ℕ → Type 0
Apart k = (k ≡ 10 → ⊥) × (k ≡ 11 → ⊥) × (k ≡ 13 → ⊥)

apart : (k : ℕ) → (k ≤ 9) ⊎ (k ≡ 12) ⊎ (k ≡ 17) → Apart k
apart k (inl h) = (λ e. omega arith, λ e. omega arith, λ e. omega arith)
apart k (inr (inl h)) = (λ e. omega arith, λ e. omega arith, λ e. omega arith)
apart k (inr (inr h)) = (λ e. omega arith, λ e. omega arith, λ e. omega arith)

pub refusing_is : {k : ℕ} → Refusing k → (2 ≤ k) × Apart k
refusing_is {k} (inl r) = (omega arith, apart k (inl r.1))
refusing_is {k} (inr (inl r)) = (omega arith, apart k (inr (inl r)))
refusing_is {k} (inr (inr r)) = (omega arith, apart k (inr (inr r)))

pub stopping_is : {k : ℕ} → Stopping k → (10 ≤ k) × (k ≤ 13) × (k ≡ 11 → ⊥) × (k ≡ 12 → ⊥)
stopping_is (inl r) = (omega arith, omega arith, λ e. omega arith, λ e. omega arith)
stopping_is (inr r) = (omega arith, omega arith, λ e. omega arith, λ e. omega arith)

pub refused-is : {k : ℕ} → (k ≡ 1) ⊎ Refusing k → (1 ≤ k) × Apart k
refused-is {k} (inl e) = (omega arith, apart k (inl (omega arith)))
refused-is (inr r) = let (low, others) = refusing_is r in (omega arith, others)

-- A step that can't fire is 10 or 13.
pub stop_range : (c : Condition) → Stopping (stop_number c)
unfolding stop_number
stop_range (positive f) = inl refl
stop_range (negative f) = inl refl
stop_range (unused n) = inr refl

-- 13 is that of a used name alone.
pub stop_used : (c : Condition) → stop_number c ≡ 13 → c ≡ unused (fact_in c)
unfolding stop_number fact_in
stop_used (positive f) e = absurd (omega arith)
stop_used (negative f) e = absurd (omega arith)
stop_used (unused n) e = refl

-- An ending's number is 0, 11, or that of such a step.
pub end_range : (e : Ending) → (number_of e ≡ 0) ⊎ (number_of e ≡ 11) ⊎ Stopping (number_of e)
unfolding number_of
end_range attack = inl refl
end_range (blocked c) = inr (inr (stop_range c))
end_range (not_met c) = inr (inl refl)
end_range upheld = inr (inl refl)

-- It is 0 for an attack alone.
pub end-attack : (e : Ending) → (number_of e ≡ 0) ↔ (e ≡ attack)
unfolding number_of
end-attack attack = (λ _. refl, λ _. refl)
end-attack (blocked c) = (
  λ h. absurd (omega (arith, stopping_is (stop_range c))),
  λ h. let z : ◌≡◌ {A = ℕ} 0 1 = cc in absurd (omega arith),
)
end-attack (not_met c) = (λ h. absurd (omega arith), λ h. let z : ◌≡◌ {A = ℕ} 0 1 = cc in absurd (omega arith))
end-attack upheld = (λ h. absurd (omega arith), λ h. let z : ◌≡◌ {A = ℕ} 0 1 = cc in absurd (omega arith))

-- The numbers of a run are neither 1 nor those of the files' faults.
pub ended-apart : {k : ℕ} → (k ≡ 0) ⊎ (k ≡ 11) ⊎ Stopping k → (k ≡ 1 → ⊥) × (Refusing k → ⊥)
ended-apart (inl z) = (λ e. omega arith, λ r. omega (arith, refusing_is r))
ended-apart (inr (inl z)) = (λ e. omega arith, λ r. omega (arith, refusing_is r))
ended-apart (inr (inr s)) =
    (λ e. omega (arith, stopping_is s), λ r. omega (arith, stopping_is s, refusing_is r))

module _ (m t : List ℕ) (l : Lent) where
  -- Without room 1 is given, and nothing else.
  pub given-room : no_space_lem l ≡ true → Given m t l 1
  given-room e = record {
    room = (λ _. e, λ _. refl);
    fault = λ k r. (λ q. absurd (omega (arith, refusing_is r)), λ c. absurd (true≢false (sym e ∙ c.0)));
    ran = λ k one r. (λ q. absurd (one (sym q)), λ c. absurd (true≢false (sym e ∙ c.0.room)));
  }

  module _ (room : no_space_lem l ≡ false) where
    -- With a fault its number is.
    pub given-fault : (b : Blamed) → pair_fault m t ≡ some b → Refusing (blamed_number b) → Given m t l (blamed_number b)
    given-fault b e r = record {
      room = (λ q. absurd (omega (arith, refusing_is r)), λ q. absurd (true≢false (sym q ∙ room)));
      fault = λ k _. (
        λ q. (room, (number_exactly m t k).0 (b, e, q)),
        λ (_, c).
            let (other, is, number) = (number_exactly m t k).1 c in
            ap blamed_number (some-injective b other (sym e ∙ is)) ∙ number,
      );
      ran = λ k _ not. (
        λ q. absurd (not (subst Refusing q r)),
        λ c. absurd (none-ne-some b (sym c.0.fine ∙ e)),
      );
    }

    -- With neither the ending's is.
    pub given-run : pair_fault m t ≡ none → Given m t l (end_number m t)
    given-run e = let (not-one, not-fault) = ended-apart (end_range (outcome m t).ending) in record {
      room = (λ q. absurd (not-one q), λ q. absurd (true≢false (sym q ∙ room)));
      fault = λ k h. (
        λ q. absurd (not-fault (subst Refusing (sym q) h)),
        λ (_, c). let (b, is, _) = (number_exactly m t k).1 c in absurd (none-ne-some b (sym e ∙ is)),
      );
      ran = λ k _ _. (λ q. (record { room = room; fine = e }, q), λ c. c.1);
    }
