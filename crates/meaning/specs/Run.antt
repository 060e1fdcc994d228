-- A run: conditions and the first unmet one, the steps up to the last state reached, and what is asked of that state
-- (document 01, "Closure, step, goal" and "The verdict also has").
use Rattle.std.specs.Prelude.{ℕ, zero, suc, ◌+◌, Bool, true, false, not, ◌&&◌, ◌||◌, cond, List, [], ◌∷◌, ◌++◌, map, ltb, length}
use Rattle.std.proofs.Math.Option.{Option, none, some}
use Rattle.sets.specs.Sets.{Facts, every, listed, size}
use Rattle.meaning.specs.Past.{History, truth}
use Rattle.meaning.specs.Model.{Rule, Model, Trace, Aim, State, rule_of, aims, aim_of, start}
use Rattle.meaning.specs.Model.Aim.{state, formula}
use Rattle.meaning.specs.Rounds.{rounds, closure}

-- ---- conditions

-- "positive conditions P, negative conditions N": one of them, with its fact; "A rule fires only if all its names are
-- unused" (document 02, wish 9): that of a name
pub data Condition : Type 0 where
  positive : ℕ → Condition
  negative : ℕ → Condition
  unused : ℕ → Condition

-- "every fact of P and no fact of N is in the closure", all names "are unused": by a closure and the used names
unfoldable pub met : Facts → Facts → Condition → Bool
met X used (positive f) = X f
met X used (negative f) = not (X f)
met X used (unused n) = not (used n)

-- "P in its order and then N in its order"; a used name comes "after the step's conditions"
unfoldable pub conditions : List ℕ → List ℕ → List ℕ → List Condition
conditions P N names = map positive P ++ map negative N ++ map unused names

-- the first entry of the list that passes the test
unfoldable pub find {ℓ} : {A : Type ℓ} → (A → Bool) → List A → Option A
find p [] = none
find p (x ∷ xs) = elim (p x) [ true ↦ some x | false ↦ find p xs ]

-- "the first unmet condition": the first of them that isn't met
unfoldable pub unmet : Facts → Facts → List Condition → Option Condition
unfolding find met
unmet X used = find (λ c. not (met X used c))

-- the first unmet condition of a rule in a state
unfoldable pub unmet_of : Model → State → Rule → Option Condition
unfolding unmet conditions closure
unmet_of m S r = unmet (closure m.clauses S.facts) S.names (conditions r.P r.N r.names)

-- ---- the steps

-- "A step removes from the state only those of P that aren't persistent, and stores nothing else but A." (document 02,
-- wish 2; with no persistent facts it is document 01's "(S without P) together with A"). "firing uses them, and nothing
-- frees them." (wish 9)
unfoldable pub after : List ℕ → Rule → State → State
unfolding listed
after persistent r S = record {
  facts = λ f. S.facts f && not (listed r.P f && not (listed persistent f)) || listed r.A f;
  names = λ n. S.names n || listed r.names n;
}

-- Where some steps lead: how many of them fire, the rounds and the closures of all states before the last one reached
-- (the latest closure first), that state, and the first unmet condition of the step that can't fire, if there is one.
pub record Reached : Type 0 where
  pub fired : ℕ
  pub earlier : ℕ
  pub past : History
  pub state : State
  pub stop : Option Condition

-- no step fires from this state
unfoldable pub stays : State → Option Condition → Reached
stays S c = record { fired = zero; earlier = zero; past = []; state = S; stop = c }

-- one step more fires before, from a state with so many rounds and this closure
unfoldable pub onward : ℕ → Facts → Reached → Reached
onward n X r = record {
  fired = suc r.fired;
  earlier = n + r.earlier;
  past = r.past ++ X ∷ [];
  state = r.state;
  stop = r.stop;
}

-- the steps from a state on, until one can't fire
unfoldable pub reach : Model → State → List ℕ → Reached
unfolding unmet_of rule_of stays onward after
reach m S [] = stays S none
reach m S (k ∷ ks) =
    elim (unmet_of m S (rule_of m k)) [
      | none ↦
          onward (rounds m.clauses S.facts) (closure m.clauses S.facts)
          (reach m (after m.persistent (rule_of m k) S) ks)
      | some c ↦ stays S (some c)
    ]

-- ---- the end

-- How a run ends: the goal is met; a step can't fire for a condition; the attack state has one that isn't met; or the
-- formula is true, so that no condition is named.
pub data Ending : Type 0 where
  attack : Ending
  blocked : Condition → Ending
  not_met : Condition → Ending
  upheld : Ending

-- what is asked of the last state, by its closure, its names and the closures before: an attack state "is met exactly
-- if all of P and none of N are in the closure of the last state"; "ATTACK exactly if the formula is false in the last
-- state" (document 02, wish 11)
unfoldable pub asked_of : Aim → Facts → Facts → History → Ending
unfolding unmet conditions truth
asked_of (state G) X used past =
    elim (unmet X used (conditions G.P G.N [])) [ none ↦ attack | some c ↦ not_met c ]
asked_of (formula p) X used past = cond (truth p (X ∷ past)) upheld attack

unfoldable pub asked : Model → ℕ → History → State → Ending
unfolding asked_of aim_of closure
asked m g past S = asked_of (aim_of m g) (closure m.clauses S.facts) S.names past

-- "Then 10 at the first blocked step, else 11 or 0."
unfoldable pub ending : Model → ℕ → Reached → Ending
unfolding asked
ending m g r = elim r.stop [ some c ↦ blocked c | none ↦ asked m g r.past r.state ]

-- What a run comes to: its ending, the verdict's step, rounds and held, the closures of the states before the last one
-- reached (the latest first), and that state.
pub record Outcome : Type 0 where
  pub ending : Ending
  pub step : ℕ
  pub rounds : ℕ
  pub held : ℕ
  pub past : History
  pub state : State

-- "the sum of the round counts of all states reached" and "facts in the last state reached (closure not counted)"
unfoldable pub outcome_of : Model → ℕ → Reached → Outcome
unfolding ending rounds size
outcome_of m g r = record {
  ending = ending m g r;
  step = r.fired;
  rounds = r.earlier + rounds m.clauses r.state.facts;
  held = size r.state.facts m.F;
  past = r.past;
  state = r.state;
}

-- the run starts in the initial state
unfoldable pub run : Model → Trace → Outcome
unfolding outcome_of reach start
run m t = outcome_of m t.goal (reach m (start m) t.steps)

-- the trace names no goal or rule that the model lacks
unfoldable pub named : Model → Trace → Bool
unfolding every aims
named m t = ltb t.goal (length (aims m)) && every (λ k. ltb k (length m.rules)) t.steps
