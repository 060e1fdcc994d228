-- What the exported functions answer and leave, by the definitions of the crates below this one: the verdict, closing,
-- a model's figures, and the part of a file.
use Rattle.std.specs.Prelude.{ℕ, ◌≡◌, Bool, true, false, List, [], ◌∷◌, ◌++◌, ltb, length, take, drop}
use Rattle.std.proofs.Math.Option.{Option, none, some, map}
use Rattle.meaning.specs.Model.{Model, aims}
use Rattle.meaning.specs.Rounds as meant
use Rattle.meaning.specs.Early.{rounds_for}
use Rattle.meaning.specs.Worklist.{places_in}
use Rattle.facts.specs.Facts.{members}
use Rattle.records.specs.Refusals.{code}
use Rattle.files.specs.Files.{model_of_lem, model_fault}
use Rattle.closing.specs.Closing.{close_refusal, close_refusal_indexed, Table, Index}
use Rattle.reaching.specs.Reaching.{Lent}
use Rattle.checking.specs.Verdict.{refusal, refusal_indexed, verdict_of_lem, Buffers}
use Rattle.running.specs.Outcomes.{outcome}
use Rattle.running.specs.declared.Verdict.{Verdict}
use Rattle.firing.specs.Firing.{firing, rules_refusal, numbers_in, LeftAsChecked}
use Rattle.holding.specs.Holding as holding

-- whether a list has fewer than n entries
unfoldable pub shorter : List ℕ → ℕ → Bool
shorter out n = ltb (length out) n

-- a list with others at its front, as far as it has room; what lies beyond stays
unfoldable pub over : {A : Type 0} → List A → List A → List A
over values out = take (length out) values ++ drop (length values) out

-- a verdict's values, in the order in which they are written
unfoldable pub values : Verdict → List ℕ
values v =
    v.number ∷ v.step ∷ v.fact ∷ v.rounds ∷ v.held ∷ v.kind ∷ v.round
    ∷ v.part.mark ∷ v.part.start ∷ v.part.size ∷ []

-- the answer with room for the verdict, after what refuses it: its number, its values, and every byte and entry of the
-- buffers
pub record VerdictOut (refused : Option Verdict) (m t : List ℕ) (before after : Lent) (out out' : List ℕ)
    (r : ℕ) : Type 0 where
  pub number : r ≡ (verdict_of_lem m t refused).number
  pub values : out' ≡ over (values (verdict_of_lem m t refused)) out
  pub buffers : Buffers m t refused before after

-- what `cantivorex_check` promises: without room for the verdict, 1 and no change
unfoldable pub ChecksOut : Bool → List ℕ → List ℕ → Lent → Lent → List ℕ → List ℕ → ℕ → Type 0
ChecksOut true m t before after out out' r = (r ≡ 1) × (after ≡ before) × (out' ≡ out)
ChecksOut false m t before after out out' r = VerdictOut (refusal m t before) m t before after out out' r

-- what `cantivorex_check_indexed` promises: the same, with every entry of the index
unfoldable pub ChecksIndexedOut : Bool → List ℕ → List ℕ → Lent → Lent → List ℕ → List ℕ → List ℕ → List ℕ → ℕ → Type 0
ChecksIndexedOut true m t before after ix ix' out out' r = (r ≡ 1) × (after ≡ before) × (ix' ≡ ix) × (out' ≡ out)
ChecksIndexedOut false m t before after ix ix' out out' r =
    VerdictOut (refusal_indexed m t before ix) m t before after out out' r
    × Index (refusal_indexed m t before ix) (model_of_lem m).clauses ix ix'

-- values at the front; a refusal writes nothing
unfoldable pub unless_refused : Option ℕ → List ℕ → List ℕ → List ℕ
unfolding over
unless_refused none values out = over values out
unless_refused (some k) values out = out

-- the answer with room for the rounds, and every entry of the table
pub record RoundsOut (m state table table' out out' : List ℕ) (r : ℕ) : Type 0 where
  pub number : r ≡ code (close_refusal m state table)
  pub rounds : out'
      ≡ unless_refused (close_refusal m state table) (meant.rounds (model_of_lem m).clauses (members state) ∷ []) out
  pub entries : Table (close_refusal m state table) (model_of_lem m).clauses (members state) table table'

-- what `cantivorex_close` promises: without room for the rounds, 1 and no change
unfoldable pub ClosesOut : Bool → List ℕ → List ℕ → List ℕ → List ℕ → List ℕ → List ℕ → ℕ → Type 0
ClosesOut true m state table table' out out' r = (r ≡ 1) × (table' ≡ table) × (out' ≡ out)
ClosesOut false m state table table' out out' r = RoundsOut m state table table' out out' r

-- the answer with room for rounds and crossings, and every entry of the table and of the index
pub record CrossingsOut (m state table table' ix ix' out out' : List ℕ) (r : ℕ) : Type 0 where
  pub number : r ≡ code (close_refusal_indexed m state table ix)
  pub rounds : out'
      ≡ unless_refused (close_refusal_indexed m state table ix)
      (meant.rounds (model_of_lem m).clauses (members state)
      ∷ places_in (meant.closure (model_of_lem m).clauses (members state)) (model_of_lem m).clauses ∷ []) out
  pub entries : Table (close_refusal_indexed m state table ix) (model_of_lem m).clauses (members state) table table'
  pub index : Index (close_refusal_indexed m state table ix) (model_of_lem m).clauses ix ix'

-- what `cantivorex_close_indexed` promises: without room for rounds and crossings, 1 and no change
unfoldable pub ClosesIndexedOut : Bool → List ℕ → List ℕ → List ℕ → List ℕ → List ℕ → List ℕ → List ℕ → List ℕ → ℕ
    → Type 0
ClosesIndexedOut true m state table table' ix ix' out out' r =
    (r ≡ 1) × (table' ≡ table) × (ix' ≡ ix) × (out' ≡ out)
ClosesIndexedOut false m state table table' ix ix' out out' r = CrossingsOut m state table table' ix ix' out out' r

-- what `cantivorex_rules` answers with room for the count: its number, the count, every entry of the list and the
-- index, and every byte and entry of the buffers (document 02, wish 1)
pub record CountOut (m t : List ℕ) (before after : Lent) (ix ix' list list' out out' : List ℕ) (r : ℕ) : Type 0 where
  pub number : r ≡ code (rules_refusal m t before ix list)
  pub count : out'
      ≡ unless_refused (rules_refusal m t before ix list) (length (firing (model_of_lem m) (outcome m t).state) ∷ []) out
  pub entries : list'
      ≡ numbers_in (rules_refusal m t before ix list) (firing (model_of_lem m) (outcome m t).state) list
  pub buffers : LeftAsChecked (rules_refusal m t before ix list) m t before after
  pub index : Index (rules_refusal m t before ix list) (model_of_lem m).clauses ix ix'

-- what it promises: without room for the count, 1 and no change
unfoldable pub RulesOut : Bool → List ℕ → List ℕ → Lent → Lent → List ℕ → List ℕ → List ℕ → List ℕ → List ℕ → List ℕ
    → ℕ → Type 0
RulesOut true m t before after ix ix' list list' out out' r =
    (r ≡ 1) × (after ≡ before) × (ix' ≡ ix) × (list' ≡ list) × (out' ≡ out)
RulesOut false m t before after ix ix' list list' out out' r =
    CountOut m t before after ix ix' list list' out out' r

-- the refusals of asking for one fact, a step that can't fire among them (document 02, wish 8)
abbrev pub holds_stopped : List ℕ → List ℕ → ℕ → Lent → List ℕ → Option ℕ
holds_stopped m t g l ix = holding.stopped (holding.holds_refusal m t g l ix) (holding.blocked_by (outcome m t).ending)

-- what `cantivorex_holds` answers with room for two values: its number, the fact's round number and the rounds run, and
-- every byte and entry of the buffers and the index
pub record RoundOut (m t : List ℕ) (g : ℕ) (before after : Lent) (ix ix' out out' : List ℕ) (r : ℕ) : Type 0 where
  pub number : r ≡ code (holds_stopped m t g before ix)
  pub values : out'
      ≡ unless_refused (holds_stopped m t g before ix)
      (meant.round_number (model_of_lem m).clauses (outcome m t).state.facts g
      ∷ rounds_for (model_of_lem m).clauses (outcome m t).state.facts g ∷ []) out
  pub buffers : holding.Buffers (holding.holds_refusal m t g before ix) (holding.blocked_by (outcome m t).ending)
      (model_of_lem m) (outcome m t) g before after
  pub index : Index (holding.holds_refusal m t g before ix) (model_of_lem m).clauses ix ix'

-- what it promises: without room for them, 1 and no change
unfoldable pub HoldsOut : Bool → List ℕ → List ℕ → ℕ → Lent → Lent → List ℕ → List ℕ → List ℕ → List ℕ → ℕ → Type 0
HoldsOut true m t g before after ix ix' out out' r = (r ≡ 1) × (after ≡ before) × (ix' ≡ ix) × (out' ≡ out)
HoldsOut false m t g before after ix ix' out out' r = RoundOut m t g before after ix ix' out out' r

-- "4 to 7 for the model", 12 and 17, after its 2 and 3: "A refusal, here and in every later tool, is its number alone."
unfoldable pub model_refusal : List ℕ → Option ℕ
unfolding model_fault
model_refusal m = map (λ f. f.number) (model_fault m)

-- "1. sizes: exactly 2 bytes, F; .. 3. clauses; 4. rules; 5. attack states: records.": F, and how many records each of
-- these sections has, the formulas with the attack states: "Goal numbers run on from the attack states." (document 02,
-- wish 11)
unfoldable pub figures : Model → List ℕ
figures M = M.F ∷ length M.clauses ∷ length M.rules ∷ length (aims M) ∷ []

-- the answer with room for a model's figures
pub record FiguresOut (m out out' : List ℕ) (r : ℕ) : Type 0 where
  pub number : r ≡ code (model_refusal m)
  pub figures : out' ≡ unless_refused (model_refusal m) (figures (model_of_lem m)) out

-- what `cantivorex_count` promises: without room for the figures, 1 and no change
unfoldable pub CountsOut : Bool → List ℕ → List ℕ → List ℕ → ℕ → Type 0
CountsOut true m out out' r = (r ≡ 1) × (out' ≡ out)
CountsOut false m out out' r = FiguresOut m out out' r

-- what `cantivorex_part` promises: the part's length, and its bytes
pub record PartOut (part out out' : List ℕ) (r : ℕ) : Type 0 where
  pub count : r ≡ length part
  pub bytes : out' ≡ over part out
