-- Models and traces as files: the lists that a file is, and the first fault of a model, of a trace and of a pair
-- (document 01, "File layouts", "Bounds", "Verdict numbers and the order").
use Rattle.std.specs.Prelude.{ℕ, zero, suc, ◌+◌, ◌*◌, ◌<◌, Bool, ◌||◌, cond, List, [], ◌∷◌, ◌++◌, map, leb, ltb, eqb, length, drop, get_or}
use Rattle.std.proofs.Math.Option
use Rattle.std.proofs.Math.Option.{Option}
use Rattle.sets.specs.Sets.{first}
use Rattle.meaning.specs.Model.{Clause, Rule, Goal, Model, Trace, aims}
use Rattle.meaning.specs.Past.{Formula}
use Rattle.records.specs.Words.{word, words, odd}
use Rattle.records.specs.Records.{given, ◌or_else◌, records, list_of, codes_in}
use Rattle.records.specs.Refusals.{Fault}
use Rattle.records.specs.declared.Kind.TheVariants as kind
use Rattle.formulas.specs.Codes.{formula_of}
use Rattle.sections.specs.Sections.{end_at, in_section, left_over, all_of, payload, section_at, reader}
use Rattle.sections.specs.Sections.{rule_kind_lem, too_long, wrong_version}
use Rattle.sections.specs.declared.Role.{Role}
use Rattle.sections.specs.declared.Role.TheVariants.{Sizes, Initial, Persistent, Names, Clauses, Rules, Goals}
use Rattle.sections.specs.declared.Role.TheVariants.{Formulas}

-- ---- the sections of a model

-- a role that models have from a version on
unfoldable pub since : ℕ → Role → ℕ → List Role
since first r version = cond (leb first version) (r ∷ []) []

-- "Model sections, in order: 1. sizes .. 2. initial facts .. 3. clauses; 4. rules; 5. attack states"; "Model version 2
-- has one more section after the initial facts: the persistent facts" (document 02, wish 2); "Model version 3 is
-- version 2 with a section of names in use at the start, after the persistent facts" (wish 9); "Model version 4 is
-- version 3 with a last section of at most 64 formulas, one record each" (wish 11)
unfoldable pub roles : ℕ → List Role
unfolding since
roles version =
    Sizes ∷ Initial ∷ since 2 Persistent version ++ since 3 Names version ++ Clauses ∷ Rules ∷ Goals
    ∷ since 4 Formulas version

-- "A file starts with a version byte": the sections that the file of a model has
unfoldable pub roles_of : List ℕ → List Role
unfolding roles
roles_of file = roles (get_or file 0 0)

-- a role's place in the order of the documents, over all versions
unfoldable pub tag : Role → ℕ
tag Sizes = 0
tag Initial = 1
tag Persistent = 2
tag Names = 3
tag Clauses = 4
tag Rules = 5
tag Goals = 6
tag Formulas = 7

-- how many sections stand before that of a role
unfoldable pub index_of : Role → List Role → ℕ
unfolding tag
index_of r [] = 0
index_of r (x ∷ xs) = cond (eqb (tag r) (tag x)) 0 (suc (index_of r xs))

-- the model's version has a section of the role, said and as a test
abbrev pub There : List ℕ → Role → Type 0
There file r = index_of r (roles_of file) < length (roles_of file)

unfoldable pub has : List ℕ → Role → Bool
unfolding index_of roles_of
has file r = ltb (index_of r (roles_of file)) (length (roles_of file))

-- where the length of the section of a role stands
unfoldable pub place_of_role : List ℕ → Role → ℕ
unfolding section_at index_of roles_of
place_of_role file r = section_at file (index_of r (roles_of file))

-- "that section's bytes and no others": what the section of a role holds; nothing where the model's version has none
unfoldable pub section_of : List ℕ → Role → List ℕ
unfolding has payload place_of_role
section_of file r = cond (has file r) (payload file (place_of_role file r)) []

-- ---- the lists that a file is

-- "F 0 to 4,096": the number in the sizes
unfoldable pub fact_count : List ℕ → ℕ
unfolding word section_of
fact_count file = word (section_of file Sizes)

-- "A clause is its head and then the body facts, 2 bytes each.", behind the record's length
unfoldable pub clause_of : List ℕ → Clause
unfolding word words
clause_of r = record { head = word (drop 2 r); body = words (drop 4 r) }

-- the clauses of a section
unfoldable pub clauses_in : List ℕ → List Clause
unfolding records clause_of
clauses_in section = map clause_of (records section)

-- "A rule is three lists P, N, A"; in version 3 "and a fourth list in each rule, the names it makes" (document 02, wish
-- 9): the rule that a record is, in a model of a version
unfoldable pub rule_in : ℕ → List ℕ → Rule
unfolding rule_kind_lem list_of
rule_in version r =
    let K = rule_kind_lem version in
    record { P = list_of K r 0; N = list_of K r 1; A = list_of K r 2; names = list_of K r 3 }

-- "an attack state two, P and N"
unfoldable pub goal_in : List ℕ → Goal
unfolding list_of
goal_in r = record { P = list_of kind.Goal r 0; N = list_of kind.Goal r 1 }

-- "a last section of at most 64 formulas, one record each" (document 02, wish 11): the one that a record's codes are
unfoldable pub formula_in : List ℕ → Formula
unfolding codes_in formula_of
formula_in r = formula_of (codes_in r)

-- the model that a file is
unfoldable pub model_of_lem : List ℕ → Model
unfolding fact_count words section_of records clauses_in rule_in goal_in formula_in
model_of_lem file = record {
  F = fact_count file;
  initial = words (section_of file Initial);
  persistent = words (section_of file Persistent);
  names = words (section_of file Names);
  clauses = clauses_in (section_of file Clauses);
  rules = map (rule_in (get_or file 0 0)) (records (section_of file Rules));
  goals = map goal_in (records (section_of file Goals));
  formulas = map formula_in (records (section_of file Formulas));
}

-- "The trace has one section": its bytes
unfoldable pub entries_of : List ℕ → List ℕ
unfolding payload section_at
entries_of file = payload file (section_at file 0)

-- "an attack state number and then rule numbers, 2 bytes each"
unfoldable pub trace_of : List ℕ → Trace
unfolding words word entries_of
trace_of file = record { goal = word (entries_of file); steps = words (drop 2 (entries_of file)) }

-- ---- the model's faults, in order

-- "at the first fault in file order, section lengths being judged when they are reached .. Bytes after the last section
-- come last.": sections of these roles, in a model of F facts, from a place on
unfoldable pub fault_from : List Role → ℕ → List ℕ → ℕ → Option Fault
unfolding ◌or_else◌ in_section reader left_over end_at
fault_from [] F file at = left_over file at
fault_from (r ∷ rs) F file at =
    in_section (reader (get_or file 0 0) r F) file at or_else fault_from rs F file (end_at file at)

-- "then 4 to 7 for the model"
unfoldable pub shape_fault : List ℕ → Option Fault
unfolding fault_from roles_of fact_count section_at
shape_fault file = fault_from (roles_of file) (fact_count file) file (section_at file 0)

-- "Model 65,536 bytes, trace 4,096."
abbrev pub model_bytes : ℕ
model_bytes = 65536

abbrev pub trace_bytes : ℕ
trace_bytes = 4096

-- "A file starts with a version byte, 1."; a model's may be 2, 3 or 4 (document 02, wishes 2, 9 and 11)
abbrev pub model_version : ℕ
model_version = 4

abbrev pub trace_version : ℕ
trace_version = 1

-- 2 to 7 in the order, for a model by itself
unfoldable pub model_fault : List ℕ → Option Fault
unfolding ◌or_else◌ too_long wrong_version shape_fault
model_fault file = too_long model_bytes file or_else wrong_version model_version file or_else shape_fault file

-- ---- the trace's faults, in order

-- "an attack state number and then rule numbers, 2 bytes each. No steps is legal": two bytes at least, and none left
-- over
unfoldable pub trace_shape : List ℕ → Option Fault
unfolding given all_of odd
trace_shape bytes = all_of (given (odd bytes || ltb (length bytes) 2) 4) bytes

-- "Steps 1,024.": an attack state number and at most as many rule numbers
unfoldable pub trace_count : List ℕ → Option Fault
unfolding given all_of words
trace_count bytes = all_of (given (ltb (1 + 1024) (length (words bytes))) 5) bytes

-- entry i of the trace names what the model lacks: the goal for entry 0, else a rule
unfoldable pub lacks : ℕ → ℕ → List ℕ → ℕ → Bool
lacks goals rules entries zero = leb goals (get_or entries 0 0)
lacks goals rules entries (suc i) = leb rules (get_or entries (suc i) 0)

-- "9 (goal first, then steps in order)": "the two bytes in the trace"
unfoldable pub trace_names : ℕ → ℕ → List ℕ → Option Fault
unfolding given words first lacks
trace_names goals rules bytes =
    let i = first (lacks goals rules (words bytes)) (length (words bytes)) in
    given (ltb i (length (words bytes))) (record { number = 9; start = 2 * i; size = 2 })

-- "Then 4 for the trace (its section first, then bytes after it), then 5, then 9"
unfoldable pub trace_fault : ℕ → ℕ → List ℕ → Option Fault
unfolding ◌or_else◌ in_section left_over section_at trace_shape trace_count trace_names
trace_fault goals rules file =
    in_section trace_shape file (section_at file 0)
    or_else left_over file (section_at file 1)
    or_else in_section trace_count file (section_at file 0)
    or_else in_section (trace_names goals rules) file (section_at file 0)

-- ---- the pair's first fault, in stages

-- "with a mark saying which": a fault of the model or of the trace
pub data Blamed : Type 0 where
  model : Fault → Blamed
  trace : Fault → Blamed

-- "2 (model, then trace); 3 (model, then trace)"
unfoldable pub heads_fault : List ℕ → List ℕ → Option Blamed
unfolding ◌or_else◌ too_long wrong_version
heads_fault m t =
    Option.map model (too_long model_bytes m)
    or_else Option.map trace (too_long trace_bytes t)
    or_else Option.map model (wrong_version model_version m)
    or_else Option.map trace (wrong_version trace_version t)

-- what comes before the trace's own numbers: "then 4 to 7 for the model". A refusal of a tool that hangs on the model
-- comes after it.
unfoldable pub files_fault : List ℕ → List ℕ → Option Blamed
unfolding ◌or_else◌ heads_fault shape_fault
files_fault m t = heads_fault m t or_else Option.map model (shape_fault m)

-- "Then 4 for the trace .. then 5, then 9", for a model of so many goals and rules
abbrev pub steps_fault : ℕ → ℕ → List ℕ → Option Blamed
steps_fault goals rules t = Option.map trace (trace_fault goals rules t)

-- ".., all before any step is run."; "Goal numbers run on from the attack states." (document 02, wish 11), so that 9
-- for a goal means as many as both together, or more
unfoldable pub pair_fault : List ℕ → List ℕ → Option Blamed
unfolding ◌or_else◌ files_fault trace_fault model_of_lem aims
pair_fault m t = files_fault m t or_else steps_fault (length (aims (model_of_lem m))) (length (model_of_lem m).rules) t
