-- Sections of a file: where each stands, what it holds, and its first fault; a file's size and version (document 01,
-- "File layouts", "Bounds" and "the bytes at fault").
use Rattle.std.specs.Prelude.{ℕ, zero, suc, ◌+◌, ◌-◌, ◌*◌, Bool, true, false, not, ◌||◌, cond, List, leb, ltb, eqb, length, take, drop, get_or}
use Rattle.std.proofs.Math.Option.{Option, none, some, map}
use Rattle.records.specs.Words.{word}
use Rattle.records.specs.Records.{given, ◌or_else◌, records, bare, judge, first_fault_lem}
use Rattle.records.specs.Refusals.{Fault}
use Rattle.records.specs.declared.Kind.{Kind}
use Rattle.records.specs.declared.Kind.TheVariants as kind
use Rattle.sections.specs.declared.Role.{Role}
use Rattle.sections.specs.declared.Role.TheVariants.{Sizes, Initial, Persistent, Names, Clauses, Rules}
use Rattle.sections.specs.declared.Role.TheVariants.{Goals, Formulas}

-- "All numbers are big-endian .. a 4-byte length": the number that the first four bytes are
unfoldable pub long : List ℕ → ℕ
long bytes = ((get_or bytes 0 0 * 256 + get_or bytes 1 0) * 256 + get_or bytes 2 0) * 256 + get_or bytes 3 0

-- "each a 4-byte length and then that many bytes": where the section whose length stands at `at` ends
unfoldable pub end_at : List ℕ → ℕ → ℕ
unfolding long
end_at file at = at + (4 + long (drop at file))

-- "A file starts with a version byte, 1. Sections follow": where section i's length stands
unfoldable pub section_at : List ℕ → ℕ → ℕ
unfolding end_at
section_at file zero = 1
section_at file (suc i) = end_at file (section_at file i)

-- the section's length is there and fits
unfoldable pub fits : List ℕ → ℕ → Bool
unfolding long
fits file at = leb (4 + long (drop at file)) (length (drop at file))

-- "The reader of one section is handed that section's bytes and no others."
unfoldable pub payload : List ℕ → ℕ → List ℕ
unfolding long
payload file at = take (long (drop at file)) (drop (at + 4) file)

-- "the rest of the file, from that length on": a fault from a place of the file on to its end
unfoldable pub rest_fault_lem : List ℕ → ℕ → Fault
rest_fault_lem file at = record { number = 4; start = at; size = length file - at }

-- a fault's place in the file, where it was found in a part of the file from `by` on
unfoldable pub moved : ℕ → Fault → Fault
moved by f = record { number = f.number; start = by + f.start; size = f.size }

-- "section lengths being judged when they are reached": the section's fault, the rest of the file where its length
-- doesn't fit, else what its reader finds
unfoldable pub in_section : (List ℕ → Option Fault) → List ℕ → ℕ → Option Fault
unfolding fits payload rest_fault_lem moved
in_section reader file at =
    cond (fits file at) (map (moved (at + 4)) (reader (payload file at))) (some (rest_fault_lem file at))

-- "After the last section: those bytes."
unfoldable pub left_over : List ℕ → ℕ → Option Fault
unfolding given rest_fault_lem
left_over file at = given (ltb at (length file)) (rest_fault_lem file at)

-- "for sizes, initial facts and the trace, the section's bytes": a number for the whole of these bytes
unfoldable pub all_of : Option ℕ → List ℕ → Option Fault
all_of none bytes = none
all_of (some k) bytes = some (record { number = k; start = 0; size = length bytes })

-- ---- the readers of the sections

-- "sizes: exactly 2 bytes, F" and "F 0 to 4,096"
unfoldable pub sizes : List ℕ → Option ℕ
unfolding given ◌or_else◌ word
sizes bytes = given (not (eqb (length bytes) 2)) 4 or_else given (ltb 4096 (word bytes)) 5

-- "Model version 3 is version 2 with .. a fourth list in each rule, the names it makes" (document 02, wish 9): what the
-- rules of a version are
unfoldable pub rule_kind_lem : ℕ → Kind
rule_kind_lem version = cond (leb 3 version) kind.Maker kind.Rule

-- "4 to 7 for the model": what a section of each role is judged for, in a model of a version and of F facts; the
-- persistent facts are "judged like the initial facts" (document 02, wish 2), the names like these but for "a name over
-- 1,023" (wish 9); formulas, "one record each" (wish 11), have numbers of their own
unfoldable pub reader : ℕ → Role → ℕ → List ℕ → Option Fault
unfolding all_of sizes bare first_fault_lem judge rule_kind_lem
reader version Sizes F bytes = all_of (sizes bytes) bytes
reader version Initial F bytes = all_of (bare false F bytes) bytes
reader version Persistent F bytes = all_of (bare false F bytes) bytes
reader version Names F bytes = all_of (bare true 1024 bytes) bytes
reader version Clauses F bytes = first_fault_lem (judge kind.Clause F) bytes
reader version Rules F bytes = first_fault_lem (judge (rule_kind_lem version) F) bytes
reader version Goals F bytes = first_fault_lem (judge kind.Goal F) bytes
reader version Formulas F bytes = first_fault_lem (judge kind.Formula F) bytes

-- "Records are numbered from 0.": how many a section of the role has; sizes and bare numbers "count as one record each"
-- and have none
unfoldable pub entries : Role → List ℕ → ℕ
unfolding records
entries Sizes bytes = 0
entries Initial bytes = 0
entries Persistent bytes = 0
entries Names bytes = 0
entries Clauses bytes = length (records bytes)
entries Rules bytes = length (records bytes)
entries Goals bytes = length (records bytes)
entries Formulas bytes = length (records bytes)

-- ---- a file's size and version

-- 2: "a file over its size": "the whole file"
unfoldable pub too_long : ℕ → List ℕ → Option Fault
unfolding given
too_long most file = given (ltb most (length file)) (record { number = 2; start = 0; size = length file })

-- 3: "a file empty, or first byte not 1", for a model none of those of document 02 either: no version from 1 to the
-- latest; "the first byte, or the empty part of an empty file"
unfoldable pub wrong_version : ℕ → List ℕ → Option Fault
unfolding given
wrong_version latest file =
    let version = get_or file 0 0 in
    given (ltb version 1 || ltb latest version) (record { number = 3; start = 0; size = length (take 1 file) })
