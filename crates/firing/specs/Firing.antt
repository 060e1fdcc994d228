-- Every rule that can fire in the last state reached (document 02, wish 1).
use Rattle.std.specs.Prelude.{ℕ, suc, ◌<◌, ◌≡◌, ◌↔◌, Bool, true, false, ◌||◌, cond, ltb, length, drop}
use mathlib.Core.List.{List, [], ◌∷◌, ◌++◌, Pairwise}
use Rattle.std.proofs.Math.Option.{Option, none, some, map}
use Rattle.sets.specs.Sets.{Facts, ◌∈◌}
use Rattle.meaning.specs.Model.{Rule, Model, State, aims}
use Rattle.meaning.specs.Rounds.{closure}
use Rattle.meaning.specs.Run.{unmet, conditions}
use Rattle.meaning.specs.Published.{Transition}
use Rattle.std.specs.Prelude.{Result}
use Rattle.records.specs.Refusals.{answer_or}
use Rattle.records.specs.Records.{given, ◌or_else◌}
use Rattle.files.specs.Files.{model_of_lem, files_fault, steps_fault}
use Rattle.files.specs.Answers.{blamed_number}
use Rattle.closing.specs.Closing.{Index, no_places_lem}
use Rattle.reaching.specs.Reaching.{Lent}
use Rattle.checking.specs.Verdict.{no_space_lem}
use Rattle.running.specs.Outcomes.{outcome, Left}

-- ---- the rules that fire

-- a rule fires by a closure and the used names: no condition of it is unmet
unfoldable pub fires_by : Facts → Facts → Rule → Bool
unfolding unmet conditions
fires_by X used r = elim (unmet X used (conditions r.P r.N r.names)) [ none ↦ true | some c ↦ false ]

-- the numbers of a list's entries that pass a test, where the first has the number k
unfoldable pub numbers_of : {A : Type 0} → (A → Bool) → ℕ → List A → List ℕ
numbers_of p k [] = []
numbers_of p k (x ∷ xs) = cond (p x) (k ∷ numbers_of p (suc k) xs) (numbers_of p (suc k) xs)

-- "the numbers of all rules that fire in the last state reached, ascending, each once, none missing"
unfoldable pub firing : Model → State → List ℕ
unfolding numbers_of fires_by closure
firing m S = numbers_of (fires_by (closure m.clauses S.facts) S.names) 0 m.rules

-- the same in document 003's terms: each is before those after it, and they are the rules that have a transition
pub record IsFiring (m : Model) (S : State) (ks : List ℕ) : Type 0 where
  pub ascends : Pairwise ◌<◌ ks
  pub these : (k : ℕ) → (k ∈ ks) ↔ ((S' : State) × Transition m k S S')

-- ---- refusals

-- "a list with fewer entries than the model has rules"
unfoldable pub list_short : List ℕ → List ℕ → Bool
unfolding model_of_lem
list_short m list = ltb (length list) (length (model_of_lem m).rules)

-- "Refusals: 01's 1 to 9; a list with fewer entries than the model has rules is ROOM, right after NEGATED": so is an
-- index with fewer entries than body places (wish 5); both before the trace's 4, 5 and 9
unfoldable pub rules_refusal : List ℕ → List ℕ → Lent → List ℕ → List ℕ → Option ℕ
unfolding given ◌or_else◌ no_space_lem files_fault list_short no_places_lem model_of_lem aims blamed_number
rules_refusal m t l ix list =
    given (no_space_lem l) 1
    or_else map blamed_number (files_fault m t)
    or_else given (list_short m list || no_places_lem m ix) 1
    or_else map blamed_number (steps_fault (length (aims (model_of_lem m))) (length (model_of_lem m).rules) t)

-- ---- what is promised

-- "Entries after the answer stay untouched"; a refusal: "nothing written"
unfoldable pub numbers_in : Option ℕ → List ℕ → List ℕ → List ℕ
numbers_in none ks list = ks ++ drop (length ks) list
numbers_in (some k) ks list = list

-- "state and round table are left as by the check"
unfoldable pub LeftAsChecked : Option ℕ → List ℕ → List ℕ → Lent → Lent → Type 0
unfolding model_of_lem outcome
LeftAsChecked none m t before after = Left (model_of_lem m) (outcome m t) before after
LeftAsChecked (some k) m t before after = after ≡ before

-- the answer, every entry of the list, and all else that is lent, after what refuses it
pub record Fires (refused : Option ℕ) (m t : List ℕ) (before after : Lent) (ix ix' list list' : List ℕ)
    (r : Result ℕ ℕ) : Type 0 where
  -- "Give the count", or a refusal's number
  pub answers : r ≡ answer_or refused (length (firing (model_of_lem m) (outcome m t).state))
  pub numbers : list' ≡ numbers_in refused (firing (model_of_lem m) (outcome m t).state) list
  pub buffers : LeftAsChecked refused m t before after
  pub index : Index refused (model_of_lem m).clauses ix ix'

-- what is promised of two files and what is lent
abbrev pub FiresIn : List ℕ → List ℕ → Lent → Lent → List ℕ → List ℕ → List ℕ → List ℕ
    → Result ℕ ℕ → Type 0
FiresIn m t before after ix ix' list list' r =
    Fires (rules_refusal m t before ix list) m t before after ix ix' list list' r

-- ---- between functions. No promise to the outside rests on this.

-- the numbers stand at the front of the list, and there are so many
pub record Numbered (ks list list' : List ℕ) (n : ℕ) : Type 0 where
  pub count : n ≡ length ks
  pub entries : list' ≡ ks ++ drop (length ks) list
