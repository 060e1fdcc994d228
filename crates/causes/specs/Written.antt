-- The bytes of a file, written out from the lists that it is (document 01, "File layouts"): the layouts a second
-- time, beside the reader's own definitions.
use Rattle.std.specs.Prelude.{ℕ, ◌/◌, ◌%◌, cond, leb, length}
use mathlib.Core.List.{List, [], ◌∷◌, ◌++◌, flat_map}
use Rattle.meaning.specs.Model.{Clause, Rule, Goal, Model, Trace}
use Rattle.meaning.specs.Past.{Formula}
use Rattle.formulas.specs.Codes.{codes_of}

-- "All numbers are big-endian.": a number's two bytes
unfoldable pub two_bytes : ℕ → List ℕ
two_bytes n = n / 256 ∷ n % 256 ∷ []

-- "2 bytes each": facts, names or codes
unfoldable pub fact_bytes : List ℕ → List ℕ
unfolding flat_map two_bytes
fact_bytes = flat_map two_bytes

-- "A list is a 2-byte count and that many facts."
unfoldable pub list_bytes : List ℕ → List ℕ
unfolding two_bytes fact_bytes
list_bytes fs = two_bytes (length fs) ++ fact_bytes fs

-- "A record is a 2-byte length and that many bytes."
unfoldable pub record_bytes : List ℕ → List ℕ
unfolding two_bytes
record_bytes bytes = two_bytes (length bytes) ++ bytes

-- "A clause is its head and then the body facts, 2 bytes each."
unfoldable pub clause_bytes : Clause → List ℕ
unfolding record_bytes fact_bytes
clause_bytes c = record_bytes (fact_bytes (c.head ∷ c.body))

-- "A rule is three lists P, N, A"
unfoldable pub rule_bytes : Rule → List ℕ
unfolding record_bytes list_bytes
rule_bytes r = record_bytes (list_bytes r.P ++ list_bytes r.N ++ list_bytes r.A)

-- "and a fourth list in each rule, the names it makes, .. 2 bytes a name" (document 02, wish 9)
unfoldable pub maker_bytes : Rule → List ℕ
unfolding record_bytes list_bytes
maker_bytes r = record_bytes (list_bytes r.P ++ list_bytes r.N ++ list_bytes r.A ++ list_bytes r.names)

-- a rule of a model of a version
unfoldable pub rule_bytes_in : ℕ → Rule → List ℕ
unfolding maker_bytes rule_bytes
rule_bytes_in version r = cond (leb 3 version) (maker_bytes r) (rule_bytes r)

-- "an attack state two, P and N"
unfoldable pub goal_bytes : Goal → List ℕ
unfolding record_bytes list_bytes
goal_bytes g = record_bytes (list_bytes g.P ++ list_bytes g.N)

-- "one record each .. A code is 2 bytes" (document 02, wish 11)
unfoldable pub formula_bytes : Formula → List ℕ
unfolding record_bytes fact_bytes codes_of
formula_bytes φ = record_bytes (fact_bytes (codes_of φ))

-- "each a 4-byte length and then that many bytes"
unfoldable pub section_bytes : List ℕ → List ℕ
unfolding two_bytes
section_bytes bytes = two_bytes (length bytes / 65536) ++ two_bytes (length bytes % 65536) ++ bytes

-- "Model version 2 has one more section" (document 02, wish 2), version 3 "a section of names in use at the start,
-- after the persistent facts" (wish 9): the sections after the initial facts that version 1 lacks
unfoldable pub later_sections : ℕ → Model → List ℕ
unfolding section_bytes fact_bytes
later_sections version m =
    cond (leb 2 version) (section_bytes (fact_bytes m.persistent)) []
    ++ cond (leb 3 version) (section_bytes (fact_bytes m.names)) []

-- "Model version 4 is version 3 with a last section of at most 64 formulas" (document 02, wish 11)
unfoldable pub last_section : ℕ → Model → List ℕ
unfolding section_bytes flat_map formula_bytes
last_section version m = cond (leb 4 version) (section_bytes (flat_map formula_bytes m.formulas)) []

-- "A file starts with a version byte", "Model sections, in order: 1. sizes .. 2. initial facts .. 3. clauses; 4. rules;
-- 5. attack states: records."
unfoldable pub written_model : ℕ → Model → List ℕ
unfolding section_bytes two_bytes fact_bytes flat_map later_sections clause_bytes rule_bytes_in goal_bytes last_section
written_model version m =
    version
    ∷ section_bytes (two_bytes m.F)
    ++ section_bytes (fact_bytes m.initial)
    ++ later_sections version m
    ++ section_bytes (flat_map clause_bytes m.clauses)
    ++ section_bytes (flat_map (rule_bytes_in version) m.rules)
    ++ section_bytes (flat_map goal_bytes m.goals)
    ++ last_section version m

-- "The trace has one section: an attack state number and then rule numbers, 2 bytes each."
unfoldable pub written_trace : Trace → List ℕ
unfolding section_bytes fact_bytes
written_trace t = 1 ∷ section_bytes (fact_bytes (t.goal ∷ t.steps))
