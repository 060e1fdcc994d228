-- What demands 1 to 3 promise of a verdict, as statements about the definitions beside this file.
-- proofs/Theorems.antt proves each of them.
use Rattle.std.specs.Prelude.{ℕ, ◌+◌, ◌-◌, ◌≤◌, ◌<◌, ◌≡◌, ◌↔◌, ◌⊎◌, Bool, true, false, List, [], ◌∷◌, length, get_or, take}
use Rattle.std.proofs.Math.Option.{none}
use Rattle.sets.specs.Sets.{Facts, ◌∈◌}
use Rattle.meaning.specs.Past.{Formula, truth}
use Rattle.meaning.specs.Model.{Goal, Model, State, rule_of, aim_of, start}
use Rattle.meaning.specs.Model.Aim.{state, formula}
use Rattle.meaning.specs.Rounds.{closure, round_number}
use Rattle.meaning.specs.Worklist.{body_places}
use Rattle.meaning.specs.Run.Condition.{positive, negative, unused}
use Rattle.meaning.specs.Published.{Path, earlier}
use Rattle.meaning.specs.Promises.{FirstUnmet, FirstUnmetOf, Makes}
use Rattle.records.specs.Words.{word}
use Rattle.records.specs.Records.{records}
use Rattle.sections.specs.declared.Role.TheVariants.{Goals, Formulas}
use Rattle.files.specs.Files.{section_of, model_of_lem, trace_of, pair_fault}
use Rattle.files.specs.Answers.{part_of}
use Rattle.causes.specs.Causes.{RightModel, RightHeads, Cause, Refusing}
use Rattle.files.specs.declared.Part.{Part}
use Rattle.reaching.specs.Reaching.{Lent}
use Rattle.checking.specs.Verdict.{no_space_lem, refusal, verdict_of_lem}
use Rattle.running.specs.Outcomes.{outcome, number_of}
use Rattle.running.specs.declared.Verdict.{Verdict}

-- the verdict on a pair, for what is lent
abbrev pub verdict : List ℕ → List ℕ → Lent → Verdict
verdict m t l = verdict_of_lem m t (refusal m t l)

-- "A model or pair is well_formed when nothing judged before the first step refuses it", with enough room
pub record WellFormed (m t : List ℕ) (l : Lent) : Type 0 where
  pub room : no_space_lem l ≡ false
  pub fine : pair_fault m t ≡ none

-- what the program prints of a verdict: number, step, fact, rounds, held, kind, round
pub record Line : Type 0 where
  pub number : ℕ
  pub step : ℕ
  pub fact : ℕ
  pub rounds : ℕ
  pub held : ℕ
  pub kind : ℕ
  pub round : ℕ

abbrev pub shown : Verdict → Line
shown v = record {
  number = v.number;
  step = v.step;
  fact = v.fact;
  rounds = v.rounds;
  held = v.held;
  kind = v.kind;
  round = v.round;
}

-- ---- numbers

-- the cause of this number is there, in one of the files and with some bytes at fault
abbrev pub CauseOf : List ℕ → List ℕ → ℕ → Type 0
CauseOf m t k = (mark : ℕ) × (bytes : List ℕ) × Cause m t mark k bytes

-- the numbers of a step that can't fire: 10, and 13, which is "all else as for BLOCKED"
abbrev pub Stopping : ℕ → Type 0
Stopping k = (k ≡ 10) ⊎ (k ≡ 13)

-- the number of a run's ending
abbrev pub end_number : List ℕ → List ℕ → ℕ
end_number m t = number_of (outcome m t).ending

-- "None is given in any other case.": each number exactly when its cause is there, 1 for no room, 2 to 9, 12 and 17 for
-- what document 01's table and order say of the two files, any other for the outcome of a well_formed pair
pub record Given (m t : List ℕ) (l : Lent) (number : ℕ) : Type 0 where
  pub room : (number ≡ 1) ↔ (no_space_lem l ≡ true)
  pub fault : (k : ℕ) → Refusing k → (number ≡ k) ↔ ((no_space_lem l ≡ false) × CauseOf m t k)
  pub ran : (k : ℕ) → (k ≡ 1 → ⊥) → (Refusing k → ⊥) → (number ≡ k) ↔ (WellFormed m t l × (end_number m t ≡ k))

-- ---- numbers with an index lent (document 02, wish 5)

-- "ROOM, right after NEGATED, if the lent index has fewer entries than the model has body places": there is room for
-- all else, and sizes, versions and the model are right, whatever the trace's own numbers would be
pub record IndexShort (m t : List ℕ) (l : Lent) (index : List ℕ) : Type 0 where
  pub room : no_space_lem l ≡ false
  pub heads : RightHeads m t
  pub model : RightModel m
  pub places : length index < body_places (model_of_lem m).clauses

-- 1 for no room or a short index, and otherwise each number exactly as without an index
pub record GivenIndexed (m t : List ℕ) (l : Lent) (index : List ℕ) (number : ℕ) : Type 0 where
  pub room : (number ≡ 1) ↔ ((no_space_lem l ≡ true) ⊎ IndexShort m t l index)
  pub other : (IndexShort m t l index → ⊥) → Given m t l number

-- ---- the bytes at fault

-- "For 0 and 1: the empty part at the model's start."; for 2 to 9, 12 and 17 the number's cause in the words of 01's
-- table, with those bytes (`Cause`); for 10 and 13 "the two bytes in the trace", which are the blocked step's rule
-- number; for 11 "the attack state's record", and of a formula "its part is the formula's record" (document 02, wish
-- 11), where "goal numbers run on from the attack states"
pub record AtFault (m t : List ℕ) (v : Verdict) : Type 0 where
  pub empty : v.number ≤ 1 → v.part ≡ record { mark = 0; start = 0; size = 0 }
  pub cause : Refusing v.number → Cause m t v.part.mark v.number (part_of m t v.part)
  pub entry : Stopping v.number → (v.part.mark ≡ 1) × (length (part_of m t v.part) ≡ 2)
      × (word (part_of m t v.part) ≡ get_or (trace_of t).steps v.step 0)
  pub state : v.number ≡ 11 → (trace_of t).goal < length (model_of_lem m).goals → (v.part.mark ≡ 0)
      × (part_of m t v.part ≡ get_or (records (section_of m Goals)) (trace_of t).goal [])
  pub formula : v.number ≡ 11 → length (model_of_lem m).goals ≤ (trace_of t).goal → (v.part.mark ≡ 0)
      × (part_of m t v.part
      ≡ get_or (records (section_of m Formulas)) ((trace_of t).goal - length (model_of_lem m).goals) [])

-- ---- step, fact, rounds, held

-- "step: for 10 the number of the blocked step from 0; for 0 and 11 the count of steps; otherwise 0", "fact: ..
-- otherwise 65,535", "rounds .. 0 for 1 to 9", "held .. 0 for 1 to 9"; 12 and 17 are as these, 13 "all else as for
-- BLOCKED"
pub record Values (t : List ℕ) (v : Verdict) : Type 0 where
  pub refused : (v.number ≡ 1) ⊎ Refusing v.number → (v.step ≡ 0) × (v.rounds ≡ 0) × (v.held ≡ 0)
  pub ended : (v.number ≡ 0) ⊎ (v.number ≡ 11) → v.step ≡ length (trace_of t).steps
  pub blocked : Stopping v.number → v.step < length (trace_of t).steps
  pub no_fact : (Stopping v.number → ⊥) → (v.number ≡ 11 → ⊥) → v.fact ≡ 65535

-- ---- the unmet condition (document 02, wish 7)

-- "whether the unmet one was positive or negative and, if negative, the round in which its fact arose": positive
-- exactly if the fact named is the first of P outside X, all of P before it being inside; negative exactly if all of P
-- is inside and the fact is the first of N that is
pub record Named (X used : Facts) (P N names : List ℕ) (number : ℕ → ℕ) (v : Verdict) : Type 0 where
  pub positive-is : (v.kind ≡ 1) ↔ FirstUnmet X used P N names (positive v.fact)
  pub negative-is : (v.kind ≡ 2) ↔ FirstUnmet X used P N names (negative v.fact)
  pub one-is : (v.kind ≡ 1) ⊎ (v.kind ≡ 2)
  pub positive-round : v.kind ≡ 1 → v.round ≡ 65535
  pub negative-round : v.kind ≡ 2 → v.round ≡ number v.fact

-- "Verdict and line show both .. (`none` where there is no value)": for 10 of the blocked step's rule, for 11 of the
-- attack state, in the closure of the last state reached; for every other number none. For 13 "the verdict's fact being
-- the first used name", P and N being met (wish 9). Where the goal is a formula, 11 says that it is true over the
-- closures of all states reached, and "NOATTACK then has no fact" (wish 11)
pub record Kinds (m t : List ℕ) (v : Verdict) : Type 0 where
  pub no_kind : (v.number ≡ 10 → ⊥) → (v.number ≡ 11 → ⊥) → (v.kind ≡ 0) × (v.round ≡ 65535)
  pub of_rule : v.number ≡ 10
      → let M = model_of_lem m in
      let S = (outcome m t).state in
      let r = rule_of M (get_or (trace_of t).steps v.step 0) in
      Named (closure M.clauses S.facts) S.names r.P r.N r.names
      (round_number M.clauses S.facts) v
  pub of_goal : v.number ≡ 11 → (G : Goal) → aim_of (model_of_lem m) (trace_of t).goal ≡ state G
      → let M = model_of_lem m in
      let S = (outcome m t).state in
      Named (closure M.clauses S.facts) S.names G.P G.N [] (round_number M.clauses S.facts) v
  pub of_formula : v.number ≡ 11 → (p : Formula) → aim_of (model_of_lem m) (trace_of t).goal ≡ formula p
      → (v.fact ≡ 65535) × (v.kind ≡ 0) × (v.round ≡ 65535)
      × (truth p (closure (model_of_lem m).clauses (outcome m t).state.facts ∷ (outcome m t).past) ≡ true)
  pub of_name : v.number ≡ 13
      → let M = model_of_lem m in
      let S = (outcome m t).state in
      let r = rule_of M (get_or (trace_of t).steps v.step 0) in
      FirstUnmetOf (closure M.clauses S.facts) S r (unused v.fact)

-- ---- names (document 02, wish 9)

-- "firing uses them, and nothing frees them.": no two of these steps make the same name, and none makes one that is in
-- use at the start
pub record FreshSteps (m : Model) (ks : List ℕ) : Type 0 where
  pub once : (n i j : ℕ) → Makes m ks i n → Makes m ks j n → i ≡ j
  pub start : (n i : ℕ) → n ∈ m.names → Makes m ks i n → ⊥

-- step i is the first that can't fire: those before it lead to a state in which n is the first used name of its rule,
-- all of P being in the closure and none of N
pub record UsedAt (m t : List ℕ) (i n : ℕ) : Type 0 where
  pub there : i < length (trace_of t).steps
  pub state : State
  pub path : Path (model_of_lem m) (start (model_of_lem m)) (take i (trace_of t).steps) state
  pub first : FirstUnmetOf (closure (model_of_lem m).clauses state.facts) state
      (rule_of (model_of_lem m) (get_or (trace_of t).steps i 0)) (unused n)

-- ---- formulas (document 02, wish 11)

-- every step is a transition, and this is the formula's value in the last state: over the closures of all states
-- reached, its own first
pub record FormulaEnds (m t : List ℕ) (p : Formula) (value : Bool) : Type 0 where
  pub last : State
  pub path : Path (model_of_lem m) (start (model_of_lem m)) (trace_of t).steps last
  pub is : truth p (closure (model_of_lem m).clauses last.facts ∷ earlier path) ≡ value

-- the part lies in the file marked
pub data InFile (m t : List ℕ) (p : Part) : Type 0 where
  in_model : p.mark ≡ 0 → p.start + p.size ≤ length m → InFile m t p
  in_trace : p.mark ≡ 1 → p.start + p.size ≤ length t → InFile m t p

-- ---- versions (document 02, wishes 2, 9 and 11)

-- "Versions 1 and 2 have none.": a model of version 1 or 2, and one without names in use at the start and without
-- formulas, the same lists. "a persistent set, empty for version 1": then both have no persistent facts.
pub record SameLists (one two : List ℕ) : Type 0 where
  pub version : get_or one 0 0 < 3
  pub none-names : (model_of_lem two).names ≡ []
  pub none-formulas : (model_of_lem two).formulas ≡ []
  pub F : (model_of_lem one).F ≡ (model_of_lem two).F
  pub initial : (model_of_lem one).initial ≡ (model_of_lem two).initial
  pub persistent : (model_of_lem one).persistent ≡ (model_of_lem two).persistent
  pub clauses : (model_of_lem one).clauses ≡ (model_of_lem two).clauses
  pub rules : (model_of_lem one).rules ≡ (model_of_lem two).rules
  pub goals : (model_of_lem one).goals ≡ (model_of_lem two).goals
