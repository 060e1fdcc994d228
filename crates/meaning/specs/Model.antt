-- What a model, a trace and a state are, as lists and sets of numbers
-- (document 01, "Closure, step, goal" and "File layouts").
use Rattle.std.specs.Prelude.{ℕ, List, [], ◌++◌, map, get_or}
use Rattle.sets.specs.Sets.{Facts, listed}
use Rattle.meaning.specs.Past.{Formula}

-- "A clause is its head and then the body facts"
pub record Clause : Type 0 where
  pub head : ℕ
  pub body : List ℕ

-- "A rule has positive conditions P, negative conditions N and added facts A."; "and a fourth list in each rule, the
-- names it makes" (document 02, wish 9), which rules of versions 1 and 2 have none of
pub record Rule : Type 0 where
  pub P : List ℕ
  pub N : List ℕ
  pub A : List ℕ
  pub names : List ℕ

-- "An attack state has P and N."
pub record Goal : Type 0 where
  pub P : List ℕ
  pub N : List ℕ

-- "Model sections, in order": the fact count F, initial facts, clauses, rules, attack states; with "the persistent
-- facts" (document 02, wish 2), which a model of version 1 has none of, "names in use at the start" (wish 9), which one
-- of version 1 or 2 has none of, and "a last section of at most 64 formulas" (wish 11), which only one of version 4 has
pub record Model : Type 0 where
  pub F : ℕ
  pub initial : List ℕ
  pub persistent : List ℕ
  pub names : List ℕ
  pub clauses : List Clause
  pub rules : List Rule
  pub goals : List Goal
  pub formulas : List Formula

-- "an attack state number and then rule numbers"
pub record Trace : Type 0 where
  pub goal : ℕ
  pub steps : List ℕ

-- "Records are numbered from 0.": the rule of a number; one with empty lists where the model lacks it
unfoldable pub rule_of : Model → ℕ → Rule
rule_of m k = get_or m.rules k (record { P = []; N = []; A = []; names = [] })

-- What a trace can be about: an attack state, or a formula (document 02, wish 11).
pub data Aim : Type 0 where
  state : Goal → Aim
  formula : Formula → Aim

-- "Goal numbers run on from the attack states.": all of them in their order, and that of a number; an attack state with
-- empty lists where the model lacks it
unfoldable pub aims : Model → List Aim
aims m = map state m.goals ++ map formula m.formulas

unfoldable pub aim_of : Model → ℕ → Aim
unfolding aims
aim_of m g = get_or (aims m) g (state (record { P = []; N = [] }))

-- "A state is a set of facts below F"; "The state now carries a set of used names" (document 02, wish 9)
pub record State : Type 0 where
  pub facts : Facts
  pub names : Facts

-- the initial state: the initial facts and no others, the "names in use at the start" and no others
unfoldable pub start : Model → State
unfolding listed
start m = record { facts = listed m.initial; names = listed m.names }
