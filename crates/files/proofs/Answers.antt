-- Laws on answers: what an answer for a pair says of the fault.
use Prim.Native.Nat.{ℕ}
use mathlib.Core.Path.{◌≡◌, refl, ap}
use mathlib.Core.List.{List}
use mathlib.Core.Option.{Option, none, some, map, none-ne-some}
use native.Mathlib.Omega.{arith}
use Rattle.std.specs.Prelude.{Ok, Err}
use Rattle.records.specs.Refusals.{refusal_number, answer_or}
use lib.ListN.{length}
use Rattle.meaning.specs.Model.{aims}
use Rattle.records.specs.Records.{◌or_else◌}
use Rattle.files.specs.Files.{Blamed, model_of_lem, files_fault, steps_fault, pair_fault}
use Rattle.files.specs.Answers.{counts_of, blamed_number, blamed_part, blamed_as, refused_as, blamed}
use Rattle.files.specs.declared.Counts.{Counts}
use Rattle.files.specs.declared.Part.{Part}
use Rattle.files.specs.declared.Refused.{Refused}

-- ---- a pair

-- An answer that is no refusal says that nothing is at fault, and what was asked for.
pub blamed_ok : {A : Type 0} (fault : Option Blamed) (x y : A) → blamed (Ok y) ≡ answer_or (map blamed_as fault) x
    → (fault ≡ none) × (y ≡ x)
blamed_ok none x y e = (refl, cc)
blamed_ok (some b) x y e = let z : ◌≡◌ {A = ℕ} 0 1 = cc in absurd (omega arith)

-- A refusal says which fault it is.
pub blamed_err : {A : Type 0} (fault : Option Blamed) (x : A) (r : Refused)
    → blamed (Err r) ≡ answer_or (map blamed_as fault) x → map blamed_as fault ≡ some (refused_as r)
blamed_err none x r e = let z : ◌≡◌ {A = ℕ} 0 1 = cc in absurd (omega arith)
blamed_err (some b) x r e = cc

-- a fault with this number and this part
pub record Blames (fault : Option Blamed) (number : ℕ) (part : Part) : Type 0 where
  pub whose : Blamed
  pub is : fault ≡ some whose
  pub number_is : number ≡ blamed_number whose
  pub part-is : part ≡ blamed_part whose

pub blames_err : {A : Type 0} (fault : Option Blamed) (x : A) (r : Refused)
    → blamed (Err r) ≡ answer_or (map blamed_as fault) x → Blames fault (refusal_number r.refusal) r.part
blames_err none x r e = let z : ◌≡◌ {A = ℕ} 0 1 = cc in absurd (omega arith)
blames_err (some b) x r e =
    let same : refused_as r ≡ blamed_as b = cc in
    record {
      whose = b;
      is = refl;
      number_is = ap (λ (p : ℕ × Part). p.0) same;
      part-is = ap (λ (p : ℕ × Part). p.1) same;
    }

-- Without a first fault the second one is the pair's.
pub blamed_next : (x y : Option Blamed) → none ≡ map blamed_as x → (x or_else y) ≡ y
unfolding ◌or_else◌
blamed_next none y e = refl
blamed_next (some b) y e = absurd (none-ne-some _ e)

-- With one it is that.
pub blamed_first : (x y : Option Blamed) (r : ℕ × Part) → map blamed_as x ≡ some r → map blamed_as (x or_else y) ≡ some r
unfolding ◌or_else◌
blamed_first none y r e = absurd (none-ne-some _ e)
blamed_first (some b) y r e = e

-- ---- the stages

-- A trace that is judged by a model's counts is judged by its goals and rules.
pub steps-counted : (m t : List ℕ) (n : Counts) → counts_of m ≡ n
    → answer_or (map blamed_as (steps_fault n.goals n.rules t)) n
    ≡ answer_or (map blamed_as (steps_fault (length (aims (model_of_lem m))) (length (model_of_lem m).rules) t)) (counts_of m)
unfolding counts_of
steps-counted m t n counts = rw (← counts)

-- Where what comes before the trace is fine, the trace's own fault is the pair's.
pub steps-after : (m t : List ℕ) (n : Counts) → files_fault m t ≡ none → counts_of m ≡ n
    → answer_or (map blamed_as (steps_fault n.goals n.rules t)) n
    ≡ answer_or (map blamed_as (pair_fault m t)) (counts_of m)
unfolding pair_fault ◌or_else◌
steps-after m t n fine counts = rw fine (steps-counted m t n counts)
