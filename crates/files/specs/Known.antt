-- What is known of lists of numbers, and of a goal's codes, in the bytes of a judged model. No promise to the outside
-- rests on this.
use Rattle.std.specs.Prelude.{ℕ, ◌-◌, ◌%◌, ◌≤◌, ◌<◌, ◌≡◌, true, List, [], length, drop, get_or}
use Rattle.sets.specs.Sets.{◌∈◌}
use Rattle.meaning.specs.Model.{aim_of}
use Rattle.meaning.specs.Model.Aim.{formula}
use Rattle.records.specs.Words.{words}
use Rattle.records.specs.Codes.{is_formula_lem}
use Rattle.records.specs.Records.{records}
use Rattle.formulas.specs.Codes.{formula_of}
use Rattle.sections.specs.declared.Role.TheVariants.{Formulas}
use Rattle.files.specs.Files.{section_of, fact_count, model_of_lem}

-- every number of these bytes is below the limit, and no byte is left over
pub record KnownBelow (limit : ℕ) (bytes : List ℕ) : Type 0 where
  pub below : (f : ℕ) → f ∈ words bytes → f < limit
  pub even : length bytes % 2 ≡ 0

-- facts that a state has room for
abbrev pub Known : List ℕ → Type 0
Known = KnownBelow 4096

-- and names: "Names are 0 to 1,023." (document 02, wish 9)
abbrev pub KnownNames : List ℕ → Type 0
KnownNames = KnownBelow 1024

-- goal g is the formula of these bytes, which stand behind its record's length: at most 255 codes of facts below F
pub record FormulaCodes (m : List ℕ) (g : ℕ) (bytes : List ℕ) : Type 0 where
  pub these : bytes ≡ drop 2 (get_or (records (section_of m Formulas)) (g - length (model_of_lem m).goals) [])
  pub aim : aim_of (model_of_lem m) g ≡ formula (formula_of (words bytes))
  pub whole : is_formula_lem (words bytes) ≡ true
  pub few : length (words bytes) ≤ 255
  pub even : length bytes % 2 ≡ 0
  pub below : (c : ℕ) → c ∈ words bytes → c < 32768 → c < fact_count m

-- these bytes are the codes of goal g: none for an attack state
pub record GoalCodes (m : List ℕ) (g : ℕ) (bytes : List ℕ) : Type 0 where
  pub state : g < length (model_of_lem m).goals → bytes ≡ []
  pub formula : length (model_of_lem m).goals ≤ g → FormulaCodes m g bytes
