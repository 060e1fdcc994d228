-- What demands 2 and 3 promise, as statements about the definitions beside this file.
-- proofs/Theorems.antt proves each of them.
use Rattle.std.specs.Prelude.{ℕ, ◌+◌, ◌≤◌, ◌<◌, ◌≡◌, ◌↔◌, true, T, length, get_or, take}
use mathlib.Core.List.{List, [], ◌∷◌, ◌++◌, map, Nodup, Pairwise}
use Rattle.sets.specs.Sets.{Facts, size, ◌∈◌}
use Rattle.meaning.specs.Past.{Formula, History, truth}
use Rattle.meaning.specs.Past.Formula.{fact, negation, both, either, implies, yesterday, once, historically}
use Rattle.meaning.specs.Past.Formula.{since}
use Rattle.meaning.specs.Model.{Clause, Rule, Goal, Model, Trace, Aim, State, rule_of, aim_of, start}
use Rattle.meaning.specs.Model.Aim.{state, formula}
use Rattle.meaning.specs.Rounds.{round, rounds, closure}
use Rattle.meaning.specs.Run.{Condition, Ending, Outcome}
use Rattle.meaning.specs.Run.Condition.{positive, negative, unused}
use Rattle.meaning.specs.Published.{HC, Meets, Fresh, Path, earlier, GoalMet}
use Rattle.meaning.specs.Published.Path.{here, step}

-- n is the number of rounds: "the first round that equals the next one", and no round after it adds a fact
pub record IsRounds (cs : List Clause) (S : Facts) (n : ℕ) : Type 0 where
  pub still : (k f : ℕ) → round cs S (n + k) f ≡ round cs S n f
  pub first : (r : ℕ) → r < n → ((f : ℕ) → round cs S (r + 1) f ≡ round cs S r f) → ⊥

-- xs has the different clause heads that are missing from the state, each of them once
pub record AreMissingHeads (cs : List Clause) (S : Facts) (xs : List ℕ) : Type 0 where
  pub once : Nodup xs
  pub heads : (f : ℕ) → f ∈ xs → (c : Clause) × (c ∈ cs) × (c.head ≡ f)
  pub missing : (f : ℕ) → f ∈ xs → T (S f) → ⊥
  pub all : (c : Clause) → c ∈ cs → (T (S c.head) → ⊥) → c.head ∈ xs

-- n is the fact's round number: "the first round it stands in, or 65,535 if it is outside the closure"
pub record IsRoundNumber (cs : List Clause) (S : Facts) (f n : ℕ) : Type 0 where
  pub stands : T (closure cs S f) → T (round cs S n f)
  pub first : T (closure cs S f) → (r : ℕ) → r < n → T (round cs S r f) → ⊥
  pub outside : (T (closure cs S f) → ⊥) → n ≡ 65535

-- "by fact and then clause", of two body places, each a fact and the number of a clause that has it in its body
abbrev pub Before : ℕ × ℕ → ℕ × ℕ → Type 0
Before p q = (p.0 ≤ q.0) × (p.0 ≡ q.0 → p.1 < q.1)

-- xs is "each body place's clause number, by fact and then clause" (document 02, wish 5)
pub record IsIndex (cs : List Clause) (xs : List ℕ) : Type 0 where
  pub places : List (ℕ × ℕ)
  pub order : Pairwise Before places
  pub each : (f k : ℕ)
      → ((f, k) ∈ places) ↔ ((k < length cs) × (f ∈ (get_or cs k (record { head = 0; body = [] })).body))
  pub numbers : xs ≡ map (λ p. p.1) places

-- The first condition not met in X: a fact of P that is not in X, all of P before it being in X; or, where all of P
-- is in X, a fact of N that is in X, none of N before it being so; or, where all of these are met, a name that is used,
-- none before it being so.
pub data FirstUnmet (X used : Facts) (P N names : List ℕ) : Condition → Type 0 where
  absent : {f : ℕ} (met rest : List ℕ) → P ≡ met ++ f ∷ rest → ((b : ℕ) → b ∈ met → T (X b)) → (T (X f) → ⊥)
      → FirstUnmet X used P N names (positive f)
  present : {f : ℕ} → ((b : ℕ) → b ∈ P → T (X b)) → (met rest : List ℕ) → N ≡ met ++ f ∷ rest
      → ((b : ℕ) → b ∈ met → T (X b) → ⊥) → T (X f) → FirstUnmet X used P N names (negative f)
  in_use_lem : {n : ℕ} → Meets X P N → (met rest : List ℕ) → names ≡ met ++ n ∷ rest → Fresh used met → T (used n)
      → FirstUnmet X used P N names (unused n)

-- that of a rule, in a state whose closure is X
abbrev pub FirstUnmetOf : Facts → State → Rule → Condition → Type 0
FirstUnmetOf X S r = FirstUnmet X S.names r.P r.N r.names

-- step i of the list is there, and its rule makes the name n
abbrev pub Makes : Model → List ℕ → ℕ → ℕ → Type 0
Makes m ks i n = (i < length ks) × (n ∈ (rule_of m (get_or ks i 0)).names)

-- "Versions 1 and 2 have none.": no names, neither at the start nor in a rule
pub record Nameless (m : Model) : Type 0 where
  pub start : m.names ≡ []
  pub rules : (r : Rule) → r ∈ m.rules → r.names ≡ []

-- "the sum of the round counts of all states reached, the initial one included"
unfoldable pub rounds_on : {m : Model} {S S' : State} {ks : List ℕ} → Path m S ks S' → ℕ
unfolding rounds
rounds_on {m} {S} here = rounds m.clauses S.facts
rounds_on {m} {S} (step t p) = rounds m.clauses S.facts + rounds_on p

-- What is asked of the last state, with the closure X and those before, isn't met, and the ending says what is named: a
-- condition of the attack state, or "otherwise that record as the condition named" (document 02, wish 11), the formula.
pub data GoalUnmet (X used : Facts) (past : History) : Aim → Ending → Type 0 where
  lacks : {G : Goal} {c : Condition} → FirstUnmet X used G.P G.N [] c
      → GoalUnmet X used past (state G) (Ending.not_met c)
  still_true : {p : Formula} → truth p (X ∷ past) ≡ true → GoalUnmet X used past (formula p) Ending.upheld

-- how a run of the steps ks towards the goal g can end in the last state that it reached: accepted, blocked or not met
pub data EndsSo (m : Model) (g : ℕ) (ks : List ℕ) (o : Outcome) : Type 0 where
  attack : o.ending ≡ Ending.attack → o.step ≡ length ks → GoalMet m g o.past o.state → EndsSo m g ks o
  blocked : (c : Condition) → o.ending ≡ Ending.blocked c → o.step < length ks
      → (X : Facts) → HC m.clauses o.state.facts X
      → FirstUnmetOf X o.state (rule_of m (get_or ks o.step 0)) c → EndsSo m g ks o
  not_met : (e : Ending) → o.ending ≡ e → o.step ≡ length ks
      → (X : Facts) → HC m.clauses o.state.facts X
      → GoalUnmet X o.state.names o.past (aim_of m g) e → EndsSo m g ks o

-- o is the outcome of the run from S, in document 003's terms: the steps before the one named are transitions to the
-- last state reached, and there it ends
pub record IsOutcomeFrom (m : Model) (g : ℕ) (S : State) (ks : List ℕ) (o : Outcome) : Type 0 where
  pub path : Path m S (take o.step ks) o.state
  pub ends : EndsSo m g ks o
  pub rounds : o.rounds ≡ rounds_on path
  pub past : o.past ≡ earlier path
  pub held : o.held ≡ size o.state.facts m.F

-- o is the outcome of the trace on the model
abbrev pub IsOutcome : Model → Trace → Outcome → Type 0
IsOutcome m t o = IsOutcomeFrom m t.goal (start m) t.steps o

-- ---- goals about the past (document 02, wish 11)

-- the formula has none of Yesterday, Once, Historically and Since
unfoldable pub Pastless : Formula → Type 0
Pastless (fact f) = Unit
Pastless (negation p) = Pastless p
Pastless (both p q) = Pastless p × Pastless q
Pastless (either p q) = Pastless p × Pastless q
Pastless (implies p q) = Pastless p × Pastless q
Pastless (yesterday p) = ⊥
Pastless (once p) = ⊥
Pastless (historically p) = ⊥
Pastless (since p q) = ⊥
