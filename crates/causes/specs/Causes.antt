-- The causes of 2 to 9, 12 and 17 in the words of document 01's table, each with its bytes at fault and with nothing
-- there that comes before it in the order ("Verdict numbers and the order", "the bytes at fault"). How a fault is
-- looked for is another definition, `pair_fault`; proofs/Causes.antt shows that what it finds has its cause here.
use Rattle.std.specs.Prelude.{ℕ, suc, ◌+◌, ◌%◌, ◌≤◌, ◌<◌, ◌≡◌, ◌⊎◌, List, [], ◌∷◌, length, take, drop, get_or, eqb}
use Rattle.std.proofs.Math.Option.{none, some}
use Rattle.sets.specs.Sets.{first, ◌∈◌}
use Rattle.meaning.specs.Model.{aims}
use Rattle.meaning.specs.Past.{Formula}
use Rattle.records.specs.Words.{word, words}
use Rattle.records.specs.Records.{records, lists_of, codes_in}
use Rattle.records.specs.declared.Kind.{Kind}
use Rattle.records.specs.declared.Kind.TheVariants as kind
use Rattle.formulas.specs.Codes.{Writes}
use Rattle.sections.specs.Sections.{long, end_at, section_at}
use Rattle.sections.specs.declared.Role.{Role}
use Rattle.sections.specs.declared.Role.TheVariants.{Sizes, Initial, Persistent, Names, Clauses, Rules, Goals}
use Rattle.sections.specs.declared.Role.TheVariants.{Formulas}
use Rattle.files.specs.Files.{roles_of, tag, There, place_of_role, section_of, fact_count, entries_of, model_of_lem, trace_of}

-- ---- what can be wrong with a record, by number

-- "a list not strictly ascending": an entry is followed by one that isn't larger
unfoldable pub Unordered : List ℕ → Type 0
Unordered l = (i : ℕ) × (suc i < length l) × (get_or l (suc i) 0 ≤ get_or l i 0)

-- "sizes: exactly 2 bytes, F", "F 0 to 4,096"
pub data WrongSizes (bytes : List ℕ) : ℕ → Type 0 where
  shape : (length bytes ≡ 2 → ⊥) → WrongSizes bytes 4
  count : 4096 < word bytes → WrongSizes bytes 5

-- "initial facts: 2 bytes each", "strictly ascending", and none of them the limit or more, which has a number of its
-- own
pub data WrongNumbers (number limit : ℕ) (bytes : List ℕ) : ℕ → Type 0 where
  shape : length bytes % 2 ≡ 1 → WrongNumbers number limit bytes 4
  large : (n : ℕ) → n ∈ words bytes → limit ≤ n → WrongNumbers number limit bytes number
  order : Unordered (words bytes) → WrongNumbers number limit bytes 7

-- "a fact number of F or more"; persistent facts are "judged like the initial facts" (document 02, wish 2)
abbrev pub WrongFacts : ℕ → List ℕ → ℕ → Type 0
WrongFacts F = WrongNumbers 6 F

-- "a name over 1,023 is 12 BADNAME" (wish 9)
abbrev pub WrongNames : List ℕ → ℕ → Type 0
WrongNames = WrongNumbers 12 1024

-- "a length or count that doesn't fit .. bytes left over": the record isn't its lists, written (proofs/Written.antt has
-- that: `rule-shape`, `maker-shape`, `goal-shape`, `clause-shape`); "a bound above passed" by its number or by one of
-- its lists; "a fact number of F or more" in one of the first three; "a name over 1,023" in a fourth (document 02, wish
-- 9); "a list not strictly ascending"
pub data WrongRecord (K : Kind) (most longest F n : ℕ) (r : List ℕ) : ℕ → Type 0 where
  shape : lists_of K r ≡ none → WrongRecord K most longest F n r 4
  count : most ≤ n → WrongRecord K most longest F n r 5
  longer : {lists : List (List ℕ)} → lists_of K r ≡ some lists → (l : List ℕ) → l ∈ lists → longest < length l
      → WrongRecord K most longest F n r 5
  fact : {lists : List (List ℕ)} → lists_of K r ≡ some lists → (l : List ℕ) → l ∈ take 3 lists
      → (f : ℕ) → f ∈ l → F ≤ f → WrongRecord K most longest F n r 6
  name : {lists : List (List ℕ)} → lists_of K r ≡ some lists → (l : List ℕ) → l ∈ drop 3 lists
      → (a : ℕ) → a ∈ l → 1024 ≤ a → WrongRecord K most longest F n r 12
  order : {lists : List (List ℕ)} → lists_of K r ≡ some lists → (l : List ℕ) → l ∈ lists → Unordered l
      → WrongRecord K most longest F n r 7

-- "an odd record is SHAPE, a formula or code too many COUNT, a fact code of F or more FACT" (document 02, wish 11), and
-- so is a length that doesn't fit; "at most 64 formulas, one record each, at most 255 codes", "below 32,768 a fact";
-- "17 FORMULA for a code over 32,775, an unfinished formula, codes after its end, or one too deep": there is no formula
-- that the codes are, written out (proofs/Written.antt has what else such a record is: `formula-shape`)
pub data WrongFormula (F n : ℕ) (r : List ℕ) : ℕ → Type 0 where
  unfit : (length r ≡ 2 + word r → ⊥) → WrongFormula F n r 4
  shape : length r % 2 ≡ 1 → WrongFormula F n r 4
  count : 64 ≤ n → WrongFormula F n r 5
  longer : 255 < length (codes_in r) → WrongFormula F n r 5
  fact : (c : ℕ) → c ∈ codes_in r → c < 32768 → F ≤ c → WrongFormula F n r 6
  formula : ((φ : Formula) → Writes (codes_in r) φ → ⊥) → WrongFormula F n r 17

-- the kinds of rules: from version 3 on they have a fourth list (document 02, wish 9)
pub data RuleKind (version : ℕ) : Kind → Type 0 where
  three : version < 3 → RuleKind version kind.Rule
  four : 3 ≤ version → RuleKind version kind.Maker

-- record n of a section of a role, in a model of a version and of F facts: "Clauses 4,096, body facts 16. Rules 2,048,
-- attack states 64, each list 32."
abbrev pub Wrong : ℕ → Role → ℕ → ℕ → List ℕ → ℕ → Type 0
Wrong version Sizes F n r k = WrongSizes r k
Wrong version Initial F n r k = WrongFacts F r k
Wrong version Persistent F n r k = WrongFacts F r k
Wrong version Names F n r k = WrongNames r k
Wrong version Clauses F n r k = WrongRecord kind.Clause 4096 16 F n r k
Wrong version Rules F n r k = (K : Kind) × RuleKind version K × WrongRecord K 2048 32 F n r k
Wrong version Goals F n r k = WrongRecord kind.Goal 64 32 F n r k
Wrong version Formulas F n r k = WrongFormula F n r k

-- "Within a record 4 comes before 5, 5 before 6, 6 before 7"; 12 comes "right after FACT within a record" (document 02,
-- wish 9); "last within a record, 17 FORMULA" (wish 11)
unfoldable pub passes : List ℕ
passes = 4 ∷ 5 ∷ 6 ∷ 12 ∷ 7 ∷ 17 ∷ []

-- the turn of a number among them
unfoldable pub turn : ℕ → ℕ
unfolding passes first
turn k = first (λ i. eqb (get_or passes i 0) k) (length passes)

-- ---- the model, in file order

-- "Sizes and initial facts count as one record each, whose bytes are the section's."; so do persistent facts and names
unfoldable pub judged_records : Role → List ℕ → List (List ℕ)
unfolding records
judged_records Sizes bytes = bytes ∷ []
judged_records Initial bytes = bytes ∷ []
judged_records Persistent bytes = bytes ∷ []
judged_records Names bytes = bytes ∷ []
judged_records Clauses bytes = records bytes
judged_records Rules bytes = records bytes
judged_records Goals bytes = records bytes
judged_records Formulas bytes = records bytes

-- record n of the model's section of a role
abbrev pub record_in : List ℕ → Role → ℕ → List ℕ
record_in m r n = get_or (judged_records r (section_of m r)) n []

-- this is wrong with it
abbrev pub WrongIn : List ℕ → Role → ℕ → ℕ → Type 0
WrongIn m r n k = Wrong (get_or m 0 0) r (fact_count m) n (record_in m r n) k

-- the section whose length stands at a place ends within the file
unfoldable pub Fits : List ℕ → ℕ → Type 0
unfolding long
Fits file at = at + 4 + long (drop at file) ≤ length file

-- the section's length fits, and nothing is wrong with any of its records
pub record RightSection (m : List ℕ) (r : Role) : Type 0 where
  pub fits : Fits m (place_of_role m r)
  pub records : (n : ℕ) → n < length (judged_records r (section_of m r)) → (k : ℕ) → WrongIn m r n k → ⊥

-- every section of the model that comes before that of the role in the order of the documents is right
abbrev pub RightBefore : List ℕ → Role → Type 0
RightBefore m r = (q : Role) → There m q → tag q < tag r → RightSection m q

-- where the last section of a model ends
abbrev pub model_end : List ℕ → ℕ
model_end m = section_at m (length (roles_of m))

-- 4 to 7, 12 and 17 for the model, "at the first fault in file order", with the bytes at fault: "where a section's
-- length doesn't fit: the rest of the file, from that length on"; otherwise the record, of whose faults the one whose
-- turn is first is given; "after the last section: those bytes". A record whose length doesn't fit is the rest of its
-- section (`record_or_rest` in proofs/Found.antt).
pub data ModelCause (m : List ℕ) : ℕ → List ℕ → Type 0 where
  unfit : (r : Role) → There m r → RightBefore m r → (Fits m (place_of_role m r) → ⊥)
      → ModelCause m 4 (drop (place_of_role m r) m)
  wrong : {k : ℕ} (r : Role) → There m r → RightBefore m r → Fits m (place_of_role m r)
      → (n : ℕ) → n < length (judged_records r (section_of m r)) → ((i j : ℕ) → i < n → WrongIn m r i j → ⊥)
      → WrongIn m r n k → ((j : ℕ) → turn j < turn k → WrongIn m r n j → ⊥) → ModelCause m k (record_in m r n)
  after : ((q : Role) → There m q → RightSection m q) → model_end m < length m → ModelCause m 4 (drop (model_end m) m)

-- none of them is there
pub record RightModel (m : List ℕ) : Type 0 where
  pub sections : (q : Role) → There m q → RightSection m q
  pub ends : length m ≤ model_end m

-- ---- the trace

-- not "an attack state number and then rule numbers, 2 bytes each"
unfoldable pub Ragged : List ℕ → Type 0
Ragged bytes = (length bytes < 2) ⊎ (length bytes % 2 ≡ 1)

-- the trace is one section of such numbers
pub record RightTrace (t : List ℕ) : Type 0 where
  pub fits : Fits t 1
  pub shape : Ragged (entries_of t) → ⊥
  pub ends : length t ≤ end_at t 1

-- "4 for the trace (its section first, then bytes after it), then 5, then 9 (goal first, then steps in order)"; for 9
-- "the two bytes in the trace" are the number that names what the model lacks. "Goal numbers run on from the attack
-- states." (document 02, wish 11)
pub data TraceCause (m t : List ℕ) : ℕ → List ℕ → Type 0 where
  unfit : (Fits t 1 → ⊥) → TraceCause m t 4 (drop 1 t)
  ragged : Fits t 1 → Ragged (entries_of t) → TraceCause m t 4 (entries_of t)
  after : Fits t 1 → (Ragged (entries_of t) → ⊥) → end_at t 1 < length t → TraceCause m t 4 (drop (end_at t 1) t)
  count : RightTrace t → 1024 < length (trace_of t).steps → TraceCause m t 5 (entries_of t)
  goal : {bytes : List ℕ} → RightTrace t → length (trace_of t).steps ≤ 1024
      → length (aims (model_of_lem m)) ≤ (trace_of t).goal
      → length bytes ≡ 2 → word bytes ≡ (trace_of t).goal → TraceCause m t 9 bytes
  step : {bytes : List ℕ} → RightTrace t → length (trace_of t).steps ≤ 1024
      → (trace_of t).goal < length (aims (model_of_lem m))
      → (i : ℕ) → i < length (trace_of t).steps
      → ((j : ℕ) → j < i → get_or (trace_of t).steps j 0 < length (model_of_lem m).rules)
      → length (model_of_lem m).rules ≤ get_or (trace_of t).steps i 0
      → length bytes ≡ 2 → word bytes ≡ get_or (trace_of t).steps i 0 → TraceCause m t 9 bytes

-- ---- the pair

-- "a file empty, or first byte not 1", for a model nor 2 nor 3 nor 4 (document 02, wishes 2, 9 and 11): otherwise it
-- starts with one of the versions
unfoldable pub Starts : List ℕ → List ℕ → Type 0
Starts versions file = (v : ℕ) × (v ∈ versions) × (rest : List ℕ) × (file ≡ v ∷ rest)

-- the versions of a model, and those of a trace
abbrev pub ModelStarts : List ℕ → Type 0
ModelStarts = Starts (1 ∷ 2 ∷ 3 ∷ 4 ∷ [])

abbrev pub TraceStarts : List ℕ → Type 0
TraceStarts = Starts (1 ∷ [])

-- neither file is over its size
pub record RightSizes (m t : List ℕ) : Type 0 where
  pub model : length m ≤ 65536
  pub trace : length t ≤ 4096

-- and both are of a known version
pub record RightHeads (m t : List ℕ) : Type 0 where
  pub sizes : RightSizes m t
  pub model : ModelStarts m
  pub trace : TraceStarts t

-- the cause of a refusal: the mark of the file at fault (0 the model, 1 the trace), the number and the bytes. "2
-- (model, then trace); 3 (model, then trace); then 4 to 7 for the model .. Then 4 for the trace .., then 5, then 9",
-- and 12 and 17 with the model's (document 02, wishes 9 and 11); for 2 "the whole file", for 3 "the first byte, or the
-- empty part of an empty file"
pub data Cause (m t : List ℕ) : ℕ → ℕ → List ℕ → Type 0 where
  long-model : 65536 < length m → Cause m t 0 2 m
  long-trace : length m ≤ 65536 → 4096 < length t → Cause m t 1 2 t
  version-model : RightSizes m t → (ModelStarts m → ⊥) → Cause m t 0 3 (take 1 m)
  version-trace : RightSizes m t → ModelStarts m → (TraceStarts t → ⊥) → Cause m t 1 3 (take 1 t)
  in_model_lem : {k : ℕ} {bytes : List ℕ} → RightHeads m t → ModelCause m k bytes → Cause m t 0 k bytes
  in_trace_lem : {k : ℕ} {bytes : List ℕ} → RightHeads m t → RightModel m → TraceCause m t k bytes → Cause m t 1 k bytes

-- ---- none of these

-- well_formed, in the same words: nothing that is judged before the first step is wrong
pub record RightPair (m t : List ℕ) : Type 0 where
  pub heads : RightHeads m t
  pub model : RightModel m
  pub trace : RightTrace t
  pub count : length (trace_of t).steps ≤ 1024
  pub goal : (trace_of t).goal < length (aims (model_of_lem m))
  pub rules : (i : ℕ) → i < length (trace_of t).steps → get_or (trace_of t).steps i 0 < length (model_of_lem m).rules

-- the numbers that refuse a pair of files: "2 .. 9" of document 01's table, 12 and 17 (document 02, wishes 9 and 11)
abbrev pub Refusing : ℕ → Type 0
Refusing k = ((2 ≤ k) × (k ≤ 9)) ⊎ (k ≡ 12) ⊎ (k ≡ 17)
