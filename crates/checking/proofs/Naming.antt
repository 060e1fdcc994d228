-- Laws on the kind and the round of a verdict: those of the first unmet condition.
use Prim.Native.Nat.{ℕ}
use mathlib.Core.Path.{◌≡◌, refl, sym, ◌∙◌, fun_ext, subst}
use mathlib.Core.Logic.{inl, inr}
use mathlib.Core.List.Memᴰ
use mathlib.Core.List.{List, []}
use mathlib.Core.Option.{Option, some}
use native.Mathlib.Omega.{arith}
use Rattle.sets.specs.Sets.{Facts, ◌∈◌}
use Rattle.meaning.specs.Model.{Clause}
use Rattle.meaning.specs.Rounds.{closure}
use Rattle.meaning.specs.Run.{Condition}
use Rattle.meaning.specs.Run.Condition.{positive, negative, unused}
use Rattle.meaning.specs.Published.{HC}
use Rattle.meaning.specs.Promises.{FirstUnmet}
use Rattle.meaning.proofs.Meeting.{unmet-some, first_used}
use Rattle.meaning.proofs.Theorems.{closure-is-HC, HC_unique}
use Rattle.stepping.specs.Conditions.{stop_number, fact_in, kind_in, round_in}
use Rattle.checking.specs.Promises.{Named}
use Rattle.running.specs.declared.Verdict.{Verdict}

-- There is one first unmet condition.
first_one : {X used : Facts} {P N names : List ℕ} {c d : Condition} → FirstUnmet X used P N names c
    → FirstUnmet X used P N names d → c ≡ d
first_one {X} {used} {P} {N} {names} {c} {d} x y =
    let is = unmet-some X used P N names in
    let same : ◌≡◌ {A = Option Condition} (some c) (some d) = sym ((is c).1 x) ∙ (is d).1 y in
    cc

-- what was judged in HC was judged in the closure
pub in_closure : {cs : List Clause} {S X used : Facts} {P N names : List ℕ} {c : Condition} → HC cs S X
    → FirstUnmet X used P N names c → FirstUnmet (closure cs S) used P N names c
in_closure {cs} {S} {used = used} {P} {N} {names} {c} hc u =
    subst (λ (Y : Facts). FirstUnmet Y used P N names c) (fun_ext (HC_unique hc (closure-is-HC cs S))) u

-- The first unmet condition of an attack state is no name.
pub no_name : {X used : Facts} {P N : List ℕ} {n : ℕ} → FirstUnmet X used P N [] (unused n) → ⊥
no_name {X} {used} {P} {N} {n} u =
    let (_, before, _, e, _, _) = first_used X used P N [] u in
    let there : n ∈ [] = rw e (Memᴰ.append_right before (Memᴰ.head refl)) in
    Memᴰ.not-nil there

-- A step that is not 10 has no kind and no round.
pub no_kind : (number : ℕ → ℕ) (c : Condition) → (stop_number c ≡ 10 → ⊥)
    → (kind_in c ≡ 0) × (round_in number c ≡ 65535)
unfolding stop_number kind_in round_in
no_kind number (positive f) h = absurd (h refl)
no_kind number (negative f) h = absurd (h refl)
no_kind number (unused n) h = (refl, refl)

module _ {X used : Facts} {P N names : List ℕ} (number : ℕ → ℕ) (v : Verdict) where
  -- A verdict with the fact, the kind and the round of that condition of P or N names it.
  pub named : (c : Condition) → ((n : ℕ) → c ≡ unused n → ⊥) → FirstUnmet X used P N names c → v.fact ≡ fact_in c
      → v.kind ≡ kind_in c → v.round ≡ round_in number c → Named X used P N names number v
  unfolding fact_in kind_in round_in
  named (unused n) other u fact kind round = absurd (other n refl)
  named (positive f) other u fact kind round = record {
    positive-is = (λ _. rw fact u, λ _. kind);
    negative-is = (λ e. absurd (omega arith), λ w. absurd (apart (first_one u w)));
    one-is = inl kind;
    positive-round = λ _. round;
    negative-round = λ e. absurd (omega arith);
  }
    where
      apart : {g : ℕ} → positive f ≡ negative g → ⊥
      apart e = let z : ◌≡◌ {A = ℕ} 0 1 = cc in omega arith
  named (negative f) other u fact kind round = record {
    positive-is = (λ e. absurd (omega arith), λ w. absurd (apart (first_one u w)));
    negative-is = (λ _. rw fact u, λ _. kind);
    one-is = inr kind;
    positive-round = λ e. absurd (omega arith);
    negative-round = λ _. rw fact round;
  }
    where
      apart : {g : ℕ} → negative f ≡ positive g → ⊥
      apart e = let z : ◌≡◌ {A = ℕ} 0 1 = cc in omega arith
