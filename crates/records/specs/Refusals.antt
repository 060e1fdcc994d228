-- Document 01's numbers (the table of "Verdict numbers and the order") for the refusals that the code names, with those
-- of document 02, and what answers that may be a refusal or a fault say in these numbers.
use Rattle.std.specs.Prelude.{ℕ}
use Rattle.std.proofs.Math.Option.{Option, none, some}
use Rattle.std.specs.Prelude.{Result, Ok, Err}
use Rattle.records.specs.declared.Fault.{Fault as NamedFault}
use Rattle.records.specs.declared.Refusal.{Refusal}
use Rattle.records.specs.declared.Refusal.TheVariants as named

-- "1 ROOM .. 11 NOATTACK"; 12 BADNAME and 13 USED (document 02, wish 9), 17 FORMULA (wish 11)
abbrev pub refusal_number : Refusal → ℕ
refusal_number named.Room = 1
refusal_number named.Long = 2
refusal_number named.Version = 3
refusal_number named.Shape = 4
refusal_number named.Count = 5
refusal_number named.Fact = 6
refusal_number named.Order = 7
refusal_number named.Name = 9
refusal_number named.Blocked = 10
refusal_number named.NoAttack = 11
refusal_number named.BadName = 12
refusal_number named.Used = 13
refusal_number named.Formula = 17

-- a fault: one of these numbers, and the bytes at fault by their place and length
pub record Fault : Type 0 where
  pub number : ℕ
  pub start : ℕ
  pub size : ℕ

-- a fault of the code's, which has the refusal's name, as one
abbrev pub fault_of : NamedFault → Fault
fault_of f = record { number = refusal_number f.refusal; start = f.start; size = f.size }

-- the number of what refuses, where something does
abbrev pub refused_by : {A : Type 0} → Result A Refusal → Option ℕ
refused_by (Ok x) = none
refused_by (Err e) = some (refusal_number e)

-- an answer with the refusal's number in the place of its name
abbrev pub numbered : {A : Type 0} → Result A Refusal → Result A ℕ
numbered (Ok x) = Ok x
numbered (Err e) = Err (refusal_number e)

-- what is answered: what refuses it, else what was asked for
abbrev pub answer_or : {A E : Type 0} → Option E → A → Result A E
answer_or none x = Ok x
answer_or (some e) x = Err e

-- an answer that may be a fault, in these numbers
abbrev pub told : {A : Type 0} → Result A NamedFault → Result A Fault
told (Ok x) = Ok x
told (Err f) = Err (fault_of f)

-- a refusal's number as a byte, 0 where there is none
abbrev pub code : Option ℕ → ℕ
code none = 0
code (some k) = k

-- the fault, where there is one
abbrev pub fault_in : {A : Type 0} → Result A NamedFault → Option Fault
fault_in (Ok x) = none
fault_in (Err f) = some (fault_of f)
