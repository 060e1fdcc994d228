-- What is known of an answer that is given: of the fault, if there is one, and of what was asked for.
use mathlib.Core.Path.{◌≡◌, refl, sym, ap, ◌∙◌}
use mathlib.Core.Bool.{cond}
use mathlib.Core.Option.{Option, none, some}
use native.Mathlib.Omega.{arith}
use Prim.Native.Nat.{ℕ}
use lib.Dec.{eqb}
use Rattle.std.specs.Prelude.{Result, Ok, Err}
use Rattle.records.specs.Refusals.{Fault, refusal_number, fault_of, numbered, told, answer_or}
use Rattle.records.specs.declared.Refusal.{Refusal}
use Rattle.records.specs.declared.Refusal.TheVariants as named
use Rattle.records.specs.declared.Fault.{Fault as NamedFault}

-- without a fault it is what was asked for
pub told_ok : {A : Type 0} (fault : Option Fault) (x y : A) → told (Ok y) ≡ answer_or fault x → (fault ≡ none) × (y ≡ x)
told_ok none x y e = (refl, cc)
told_ok (some f) x y e = let z : ◌≡◌ {A = ℕ} 0 1 = cc in absurd (omega arith)

-- and else the fault
pub told_err : {A : Type 0} (fault : Option Fault) (x : A) (f : NamedFault) → told (Err f) ≡ answer_or fault x
    → fault ≡ some (fault_of f)
told_err none x f e = let z : ◌≡◌ {A = ℕ} 0 1 = cc in absurd (omega arith)
told_err (some g) x f e = cc

-- ---- one answer

-- the name of a number
abbrev name_of : ℕ → Refusal
name_of n =
    cond (eqb n 1) named.Room
    (cond (eqb n 2) named.Long
    (cond (eqb n 3) named.Version
    (cond (eqb n 4) named.Shape
    (cond (eqb n 5) named.Count
    (cond (eqb n 6) named.Fact
    (cond (eqb n 7) named.Order
    (cond (eqb n 9) named.Name
    (cond (eqb n 10) named.Blocked
    (cond (eqb n 11) named.NoAttack
    (cond (eqb n 12) named.BadName (cond (eqb n 13) named.Used named.Formula)))))))))))

name_back : (r : Refusal) → name_of (refusal_number r) ≡ r
name_back named.Room = refl
name_back named.Long = refl
name_back named.Version = refl
name_back named.Shape = refl
name_back named.Count = refl
name_back named.Fact = refl
name_back named.Order = refl
name_back named.Name = refl
name_back named.Blocked = refl
name_back named.NoAttack = refl
name_back named.BadName = refl
name_back named.Used = refl
name_back named.Formula = refl

-- No two refusals have one number.
pub refusal_same : (a b : Refusal) → refusal_number a ≡ refusal_number b → a ≡ b
refusal_same a b e = sym (name_back a) ∙ ap name_of e ∙ name_back b

-- No two faults say the same,
pub fault_same : (f g : NamedFault) → fault_of f ≡ fault_of g → f ≡ g
fault_same f g e =
    let number : refusal_number f.refusal ≡ refusal_number g.refusal = ap (λ (x : Fault). x.number) e in
    let refusal = refusal_same f.refusal g.refusal number in
    let start = ap (λ (x : Fault). x.start) e in
    let size = ap (λ (x : Fault). x.size) e in
    λ i. record { refusal = refusal i; start = start i; size = size i }

-- and no two answers.
pub told_same : {A : Type 0} (x y : Result A NamedFault) → told x ≡ told y → x ≡ y
told_same (Ok a) (Ok b) e = cc
told_same (Ok a) (Err g) e = let z : ◌≡◌ {A = ℕ} 0 1 = cc in absurd (omega arith)
told_same (Err f) (Ok b) e = let z : ◌≡◌ {A = ℕ} 0 1 = cc in absurd (omega arith)
told_same (Err f) (Err g) e = let same : fault_of f ≡ fault_of g = cc in ap Err (fault_same f g same)

-- The same of answers with a refusal alone.
pub numbered_same : {A : Type 0} (x y : Result A Refusal) → numbered x ≡ numbered y → x ≡ y
numbered_same (Ok a) (Ok b) e = cc
numbered_same (Ok a) (Err g) e = let z : ◌≡◌ {A = ℕ} 0 1 = cc in absurd (omega arith)
numbered_same (Err f) (Ok b) e = let z : ◌≡◌ {A = ℕ} 0 1 = cc in absurd (omega arith)
numbered_same (Err f) (Err g) e =
    let same : refusal_number f ≡ refusal_number g = cc in ap Err (refusal_same f g same)
