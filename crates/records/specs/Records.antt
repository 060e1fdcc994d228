-- Records, the lists in them, and the first fault of a section of records (document 01, "File layouts", "Bounds" and
-- "the order").
use Rattle.std.specs.Prelude.{ℕ, zero, suc, ◌+◌, ◌*◌, Bool, true, false, not, ◌&&◌, ◌||◌, cond, List, [], ◌∷◌, leb, ltb, eqb, length, take, drop, get_or}
use Rattle.std.proofs.Math.Option
use Rattle.std.proofs.Math.Option.{Option, none, some, map, or_else as first_of}
use Rattle.sets.specs.Sets.{any}
use Rattle.records.specs.Words.{word, words, odd, ascending}
use Rattle.records.specs.Codes.{is_formula_lem}
use Rattle.records.specs.Refusals.{Fault}
use Rattle.records.specs.declared.Kind.{Kind}
use Rattle.records.specs.declared.Kind.TheVariants.{Clause, Rule, Maker, Goal, Formula}
use Rattle.records.specs.declared.Row.{Row}

infixr 25 ◌or_else◌
-- ---- the first of several faults

-- x where the test holds
unfoldable pub given {ℓ} : {A : Type ℓ} → Bool → A → Option A
given true x = some x
given false x = none

-- the first where there is one, otherwise the second
unfoldable pub ◌or_else◌ {ℓ} : {A : Type ℓ} → Option A → Option A → Option A
unfolding first_of
x or_else y = first_of x y

-- ---- records

-- "A record is a 2-byte length and that many bytes.": the one at the start of these bytes, with its length; "Where a
-- record's length doesn't fit: the rest of the section, from that length on."
unfoldable pub record_of_lem : List ℕ → List ℕ
unfolding word
record_of_lem bytes = cond (leb (2 + word bytes) (length bytes)) (take (2 + word bytes) bytes) bytes

-- the record is whole: its length fitted
unfoldable pub whole : List ℕ → Bool
unfolding word
whole r = eqb (length r) (2 + word r)

-- the records of a section, in order; each takes a byte at least, so the section's length is enough turns
unfoldable pub records_in : ℕ → List ℕ → List (List ℕ)
unfolding record_of_lem
records_in zero bytes = []
records_in (suc turns) [] = []
records_in (suc turns) (b ∷ bytes) =
    record_of_lem (b ∷ bytes) ∷ records_in turns (drop (length (record_of_lem (b ∷ bytes))) (b ∷ bytes))

-- "Records are numbered from 0.": all of a section, by their place in this list
unfoldable pub records : List ℕ → List (List ℕ)
unfolding records_in
records section = records_in (length section) section

-- where record n of these starts: after the n before it
unfoldable pub place_of : ℕ → List (List ℕ) → ℕ
place_of zero rs = 0
place_of (suc n) [] = 0
place_of (suc n) (r ∷ rs) = length r + place_of n rs

-- ---- the lists of a record

-- at most so many facts, each below F
abbrev pub fact_row : ℕ → ℕ → Row
fact_row longest F = record { longest = longest; limit = F; names = false }

-- at most 32 names: "Names are 0 to 1,023." (document 02, wish 9)
abbrev pub name_row : Row
name_row = record { longest = 32; limit = 1024; names = true }

-- "A clause is its head and then the body facts .. A rule is three lists P, N, A; an attack state two, P and N.": a row
-- for each list of a record, in order; the head is a list by itself. "body facts 16 .. each list 32". In version 3 "a
-- fourth list in each rule, the names it makes" (document 02, wish 9): such a rule is a maker
unfoldable pub rows : Kind → ℕ → List Row
rows Clause F = fact_row 1 F ∷ fact_row 16 F ∷ []
rows Rule F = fact_row 32 F ∷ fact_row 32 F ∷ fact_row 32 F ∷ []
rows Maker F = fact_row 32 F ∷ fact_row 32 F ∷ fact_row 32 F ∷ name_row ∷ []
rows Goal F = fact_row 32 F ∷ fact_row 32 F ∷ []
rows Formula F = []

-- how many lists with a count a record of the kind has: a clause's have none, and a formula has no lists
unfoldable pub list_count_lem : Kind → ℕ
unfolding rows
list_count_lem Clause = 0
list_count_lem Rule = length (rows Rule 0)
list_count_lem Maker = length (rows Maker 0)
list_count_lem Goal = length (rows Goal 0)
list_count_lem Formula = 0

-- "A list is a 2-byte count and that many facts. Lists fill the record exactly.": the k lists that these bytes are, if
-- they are
unfoldable pub cut_lists : ℕ → List ℕ → Option (List (List ℕ))
unfolding word words
cut_lists zero [] = some []
cut_lists zero (b ∷ bytes) = none
cut_lists (suc k) bytes =
    cond (leb (2 + 2 * word bytes) (length bytes))
    (map (λ rest. words (take (2 * word bytes) (drop 2 bytes)) ∷ rest)
    (cut_lists k (drop (2 + 2 * word bytes) bytes)))
    none

-- "A clause is its head and then the body facts, 2 bytes each.": the head as a list by itself, and the body
unfoldable pub cut_clause : List ℕ → Option (List (List ℕ))
unfolding word words odd
cut_clause bytes =
    cond (odd bytes || ltb (length bytes) 2) none (some ((word bytes ∷ []) ∷ words (drop 2 bytes) ∷ []))

-- the lists that the bytes after a record's length are, if they are; a formula's are codes, in twos, and no lists
unfoldable pub cut : Kind → List ℕ → Option (List (List ℕ))
unfolding cut_clause cut_lists list_count_lem odd
cut Clause = cut_clause
cut Rule = cut_lists (list_count_lem Rule)
cut Maker = cut_lists (list_count_lem Maker)
cut Goal = cut_lists (list_count_lem Goal)
cut Formula = λ bytes. cond (odd bytes) none (some [])

-- the lists of a record, if its length fits and they fill it
unfoldable pub lists_of : Kind → List ℕ → Option (List (List ℕ))
unfolding whole cut
lists_of K r = cond (whole r) (cut K (drop 2 r)) none

-- a record's list number j; empty where there is none
unfoldable pub list_of : Kind → List ℕ → ℕ → List ℕ
unfolding lists_of
list_of K r j = get_or (Option.get_or (lists_of K r) []) j []

-- ---- judging

-- "Clauses 4,096 .. Rules 2,048, attack states 64"; "at most 64 formulas" (document 02, wish 11)
unfoldable pub most : Kind → ℕ
most Clause = 4096
most Rule = 2048
most Maker = 2048
most Goal = 64
most Formula = 64

-- a list longer than its row allows
abbrev pub over_long : Row → List ℕ → Bool
over_long row l = ltb row.longest (length l)

-- a list with a number that its row doesn't allow: a fact, or a name
abbrev pub wrong_fact : Row → List ℕ → Bool
wrong_fact row l = not row.names && any (leb row.limit) l

abbrev pub wrong_name : Row → List ℕ → Bool
wrong_name row l = row.names && any (leb row.limit) l

-- some list fails by its row's test; one without a row fails by any
unfoldable pub any_list : (Row → List ℕ → Bool) → List Row → List (List ℕ) → Bool
any_list fails all [] = false
any_list fails [] (l ∷ lists) = true
any_list fails (row ∷ others) (l ∷ lists) = fails row l || any_list fails others lists

-- "Within a record 4 comes before 5, 5 before 6, 6 before 7; a record beyond the section's bound is judged for 4 and
-- then is 5."; "a name over 1,023 is 12 BADNAME, right after FACT within a record" (document 02, wish 9): record n of
-- its section, in a model of F facts
unfoldable pub judge_lists : Kind → ℕ → ℕ → List ℕ → Option ℕ
unfolding lists_of given ◌or_else◌ most rows any_list any ascending
judge_lists K F n r =
    elim (lists_of K r) [
      | none ↦ some 4
      | some lists ↦
          given (leb (most K) n || any_list over_long (rows K F) lists) 5
          or_else given (any_list wrong_fact (rows K F) lists) 6
          or_else given (any_list wrong_name (rows K F) lists) 12
          or_else given (any (λ l. not (ascending l)) lists) 7
    ]

-- "A code is 2 bytes" (document 02, wish 11): the codes behind a record's length
unfoldable pub codes_in : List ℕ → List ℕ
unfolding words
codes_in r = words (drop 2 r)

-- "an odd record is SHAPE, a formula or code too many COUNT, a fact code of F or more FACT; last within a record, 17
-- FORMULA" (document 02, wish 11): "at most 64 formulas, one record each, at most 255 codes", "below 32,768 a fact"
unfoldable pub judge_formula : ℕ → ℕ → List ℕ → Option ℕ
unfolding whole odd given ◌or_else◌ most codes_in any
judge_formula F n r =
    given (not (whole r) || odd (drop 2 r)) 4
    or_else given (leb (most Formula) n || ltb 255 (length (codes_in r))) 5
    or_else given (any (λ c. leb F c && ltb c 32768) (codes_in r)) 6
    or_else given (not (is_formula_lem (codes_in r))) 17

-- record n of its section, by its kind
unfoldable pub judge : Kind → ℕ → ℕ → List ℕ → Option ℕ
unfolding judge_lists judge_formula
judge Clause = judge_lists Clause
judge Rule = judge_lists Rule
judge Maker = judge_lists Maker
judge Goal = judge_lists Goal
judge Formula = judge_formula

-- "The initial facts, each clause body and each list are strictly ascending.": bare numbers, names or facts, which fill
-- the bytes and are below a limit, however many
unfoldable pub bare : Bool → ℕ → List ℕ → Option ℕ
unfolding given ◌or_else◌ odd any words ascending
bare names limit bytes =
    given (odd bytes) 4
    or_else given (not names && any (leb limit) (words bytes)) 6
    or_else given (names && any (leb limit) (words bytes)) 12
    or_else given (not (ascending (words bytes))) 7

-- the first record, in file order, that a judge refuses: record n stands at place `at`
unfoldable pub first_from : (ℕ → List ℕ → Option ℕ) → ℕ → ℕ → List (List ℕ) → Option Fault
first_from refuses n at [] = none
first_from refuses n at (r ∷ rs) =
    elim (refuses n r) [
      | some k ↦ some (record { number = k; start = at; size = length r })
      | none ↦ first_from refuses (suc n) (at + length r) rs
    ]

-- the first fault of a section of records
unfoldable pub first_fault_lem : (ℕ → List ℕ → Option ℕ) → List ℕ → Option Fault
unfolding first_from records
first_fault_lem refuses section = first_from refuses 0 0 (records section)
