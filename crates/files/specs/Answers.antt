-- What the answers of this crate's functions are, in document 01's numbers and values, and the bytes that a part is.
use Rattle.std.specs.Prelude.{ℕ, zero, suc, ◌+◌, ◌-◌, ◌*◌, cond, List, [], ◌∷◌, ltb, length, take, drop, get_or}
use Rattle.std.proofs.Math.Option.{Option, none, some}
use Rattle.meaning.specs.Model.{aims}
use Rattle.records.specs.Records.{records, place_of}
use Rattle.records.specs.Refusals.{refusal_number}
use Rattle.std.specs.Prelude.{Result, Ok, Err}
use Rattle.sections.specs.Sections.{end_at, section_at, payload, entries}
use Rattle.sections.specs.declared.Role.{Role}
use Rattle.sections.specs.declared.Role.TheVariants.{Sizes, Initial, Persistent, Names, Clauses, Rules, Goals}
use Rattle.sections.specs.declared.Role.TheVariants.{Formulas}
use Rattle.files.specs.Files.{Blamed, place_of_role, section_of, model_of_lem}
use Rattle.files.specs.Files.Blamed.{model, trace}
use Rattle.files.specs.declared.Counts.{Counts}
use Rattle.files.specs.declared.Part.{Part}
use Rattle.files.specs.declared.Refused.{Refused}

-- ---- what was judged

-- "3. clauses; 4. rules; 5. attack states: records": how many of each a model has, attack states and formulas together:
-- "Goal numbers run on from the attack states." (document 02, wish 11)
unfoldable pub counts_of : List ℕ → Counts
unfolding model_of_lem aims
counts_of file = record {
  clauses = length (model_of_lem file).clauses;
  rules = length (model_of_lem file).rules;
  goals = length (aims (model_of_lem file));
}

-- "handed back as a part of the model or of the trace itself, with a mark saying which": mark 0 is the model, 1 the
-- trace
unfoldable pub blamed_part : Blamed → Part
blamed_part (model f) = record { mark = 0; start = f.start; size = f.size }
blamed_part (trace f) = record { mark = 1; start = f.start; size = f.size }

unfoldable pub blamed_number : Blamed → ℕ
blamed_number (model f) = f.number
blamed_number (trace f) = f.number

-- both of a fault
abbrev pub blamed_as : Blamed → ℕ × Part
blamed_as b = (blamed_number b, blamed_part b)

-- a refusal of the code's, which has its name, as a number and a part
abbrev pub refused_as : Refused → ℕ × Part
refused_as r = (refusal_number r.refusal, r.part)

-- what an answer says of it: its number and part, where there is one
abbrev pub blame_in : {A : Type 0} → Result A Refused → Option (ℕ × Part)
blame_in (Ok x) = none
blame_in (Err r) = some (refused_as r)

-- an answer with the number in the place of the name
abbrev pub blamed : {A : Type 0} → Result A Refused → Result A (ℕ × Part)
blamed (Ok x) = Ok x
blamed (Err r) = Err (refused_as r)

-- ---- parts

-- the bytes of a place in the file marked, as far as the file has them; for any other mark none
unfoldable pub bytes_at : List ℕ → List ℕ → ℕ → ℕ → ℕ → List ℕ
bytes_at m t zero start size = take size (drop start m)
bytes_at m t (suc zero) start size = take size (drop start t)
bytes_at m t (suc (suc mark)) start size = []

unfoldable pub part_of : List ℕ → List ℕ → Part → List ℕ
unfolding bytes_at
part_of m t p = bytes_at m t p.mark p.start p.size

-- "the two bytes in the trace": those of entry i
unfoldable pub entry_part_lem : List ℕ → ℕ → Part
unfolding section_at
entry_part_lem t i = record { mark = 1; start = section_at t 0 + 4 + 2 * i; size = 2 }

-- "the record with its length": that of record k of the section of a role
unfoldable pub record_part_lem : List ℕ → Role → ℕ → Part
unfolding place_of_role section_of records place_of
record_part_lem m r k = record {
  mark = 0;
  start = place_of_role m r + 4 + place_of k (records (section_of m r));
  size = length (get_or (records (section_of m r)) k []);
}

-- "the attack state's record"; for a formula "its part is the formula's record" (document 02, wish 11): that of goal g,
-- where "goal numbers run on from the attack states"
unfoldable pub goal_part_lem : List ℕ → ℕ → Part
unfolding model_of_lem record_part_lem
goal_part_lem m g =
    let states = length (model_of_lem m).goals in
    cond (ltb g states) (record_part_lem m Goals g) (record_part_lem m Formulas (g - states))

-- ---- between functions: counting records while sections are judged. No promise to the outside rests on this.

-- the counts with those of one section more
unfoldable pub noted : Counts → Role → ℕ → Counts
noted n Sizes k = n
noted n Initial k = n
noted n Persistent k = n
noted n Names k = n
noted n Clauses k = record { clauses = k; rules = n.rules; goals = n.goals }
noted n Rules k = record { clauses = n.clauses; rules = k; goals = n.goals }
noted n Goals k = record { clauses = n.clauses; rules = n.rules; goals = k }
noted n Formulas k = record { clauses = n.clauses; rules = n.rules; goals = n.goals + k }

-- the counts with those of sections of these roles from a place on
unfoldable pub noted_from : List Role → List ℕ → ℕ → Counts → Counts
unfolding end_at entries payload noted
noted_from [] file at n = n
noted_from (r ∷ rs) file at n = noted_from rs file (end_at file at) (noted n r (entries r (payload file at)))
