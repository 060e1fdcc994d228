-- No two answers of the readers say the same in numbers, so that a contract which says what an answer is in numbers
-- says which it is. For answers with a fault or a refusal alone: `told_same`, `numbered_same` in
-- Rattle.records.proofs.Laws.
use Prim.Native.Nat.{ℕ}
use mathlib.Core.Path.{◌≡◌, refl, ap}
use mathlib.Core.Option.{Option, none, some}
use native.Mathlib.Omega.{arith}
use Rattle.std.specs.Prelude.{Result, Ok, Err}
use Rattle.records.specs.Refusals.{Fault, refusal_number, refused_by, fault_of, fault_in}
use Rattle.records.specs.declared.Fault.{Fault as NamedFault}
use Rattle.records.specs.declared.Refusal.{Refusal}
use Rattle.records.proofs.Laws.{refusal_same, fault_same}
use Rattle.files.specs.Answers.{refused_as, blame_in, blamed}
use Rattle.files.specs.declared.Part.{Part}
use Rattle.files.specs.declared.Refused.{Refused}

-- whether bytes are refused, and why
pub refused_same : (x y : Result (Unit {0}) Refusal) → refused_by x ≡ refused_by y → x ≡ y
refused_same (Ok a) (Ok b) e = refl
refused_same (Ok a) (Err g) e = let z : ◌≡◌ {A = ℕ} 0 1 = cc in absurd (omega arith)
refused_same (Err f) (Ok b) e = let z : ◌≡◌ {A = ℕ} 0 1 = cc in absurd (omega arith)
refused_same (Err f) (Err g) e =
    let same : refusal_number f ≡ refusal_number g = cc in ap Err (refusal_same f g same)

-- a file's size and version
pub fault_in_same : (x y : Result (Unit {0}) NamedFault) → fault_in x ≡ fault_in y → x ≡ y
fault_in_same (Ok a) (Ok b) e = refl
fault_in_same (Ok a) (Err g) e = let z : ◌≡◌ {A = ℕ} 0 1 = cc in absurd (omega arith)
fault_in_same (Err f) (Ok b) e = let z : ◌≡◌ {A = ℕ} 0 1 = cc in absurd (omega arith)
fault_in_same (Err f) (Err g) e = let same : fault_of f ≡ fault_of g = cc in ap Err (fault_same f g same)

-- a pair's refusal
pub blames_same : (r s : Refused) → refused_as r ≡ refused_as s → r ≡ s
blames_same r s e =
    let number : refusal_number r.refusal ≡ refusal_number s.refusal = ap (λ (p : ℕ × Part). p.0) e in
    let refusal = refusal_same r.refusal s.refusal number in
    let part = ap (λ (p : ℕ × Part). p.1) e in
    λ i. record { refusal = refusal i; part = part i }

-- two files' heads
pub blame_same : (x y : Result (Unit {0}) Refused) → blame_in x ≡ blame_in y → x ≡ y
blame_same (Ok a) (Ok b) e = refl
blame_same (Ok a) (Err g) e = let z : ◌≡◌ {A = ℕ} 0 1 = cc in absurd (omega arith)
blame_same (Err f) (Ok b) e = let z : ◌≡◌ {A = ℕ} 0 1 = cc in absurd (omega arith)
blame_same (Err f) (Err g) e = let same : refused_as f ≡ refused_as g = cc in ap Err (blames_same f g same)

-- a pair
pub blamed_same : {A : Type 0} (x y : Result A Refused) → blamed x ≡ blamed y → x ≡ y
blamed_same (Ok a) (Ok b) e = cc
blamed_same (Ok a) (Err g) e = let z : ◌≡◌ {A = ℕ} 0 1 = cc in absurd (omega arith)
blamed_same (Err f) (Ok b) e = let z : ◌≡◌ {A = ℕ} 0 1 = cc in absurd (omega arith)
blamed_same (Err f) (Err g) e = let same : refused_as f ≡ refused_as g = cc in ap Err (blames_same f g same)
