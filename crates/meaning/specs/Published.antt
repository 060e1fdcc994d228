-- Document 003's own notions (section 2.2), ground, as document 01 takes them: HC(S), the transition S ⇒ S', a path,
-- a goal met. Nothing here speaks of rounds.
use Rattle.std.specs.Prelude.{ℕ, ◌<◌, ◌≡◌, ◌⊎◌, ◌↔◌, false, List, [], ◌∷◌, ◌++◌, T, length}
use Rattle.sets.specs.Sets.{Facts, ◌∈◌}
use Rattle.meaning.specs.Past.{History, truth}
use Rattle.meaning.specs.Model.{Clause, Rule, Model, Trace, Aim, State, rule_of, aims, aim_of, start}
use Rattle.meaning.specs.Model.Aim.{state, formula}

-- X holds S and obeys every clause: "P ∈ S' if Ĥ ∧ S' ⊨ P"
pub record Holding (cs : List Clause) (S X : Facts) : Type 0 where
  pub holds : (f : ℕ) → T (S f) → T (X f)
  pub obeys : (c : Clause) → c ∈ cs → ((b : ℕ) → b ∈ c.body → T (X b)) → T (X c.head)

-- X is HC(S): "the least set S' ⊇ S such that" it obeys the clauses
pub record HC (cs : List Clause) (S X : Facts) : Type 0 where
  pub holding : Holding cs S X
  pub least : (Y : Facts) → Holding cs S Y → (f : ℕ) → T (X f) → T (Y f)

-- "HC(S) ⊨ L": every fact of P and no fact of N is in X
pub record Meets (X : Facts) (P N : List ℕ) : Type 0 where
  pub positive : (f : ℕ) → f ∈ P → T (X f)
  pub negative : (f : ℕ) → f ∈ N → T (X f) → ⊥

-- "S' = S \ I(PosE(L)) ∪ I(S_R)", where PosE leaves out the persistent facts of P. That 003 leaves out the clause heads
-- too is not taken over (docs/DECISIONS.md, "Meaning").
pub record Next (persistent : List ℕ) (r : Rule) (S S' : State) : Type 0 where
  pub facts : (f : ℕ) → T (S'.facts f) ↔ ((T (S.facts f) × (f ∈ r.P → f ∈ persistent)) ⊎ f ∈ r.A)
  pub names : (n : ℕ) → T (S'.names n) ↔ (T (S.names n) ⊎ n ∈ r.names)

-- "fresh constants": no name of the list is in use (docs/DECISIONS.md, "Meaning", says how 003's fresh is taken)
abbrev pub Fresh : Facts → List ℕ → Type 0
Fresh used names = (n : ℕ) → n ∈ names → T (used n) → ⊥

-- "S ⇒ S'" by the model's rule k
pub record Transition (m : Model) (k : ℕ) (S S' : State) : Type 0 where
  pub rule : k < length m.rules
  pub closure : Facts
  pub is_hc : HC m.clauses S.facts closure
  pub meets : Meets closure (rule_of m k).P (rule_of m k).N
  pub fresh : Fresh S.names (rule_of m k).names
  pub next : Next m.persistent (rule_of m k) S S'

-- the rules of the list, one after the other, lead from S to S'
pub data Path (m : Model) : State → List ℕ → State → Type 0 where
  here : {S : State} → Path m S [] S
  step : {k : ℕ} {ks : List ℕ} {S S' S'' : State} → Transition m k S S' → Path m S' ks S'' → Path m S (k ∷ ks) S''

-- the closures of the states on a path before its last one, the latest first
unfoldable pub earlier : {m : Model} {S S' : State} {ks : List ℕ} → Path m S ks S' → History
earlier here = []
earlier (step t p) = earlier p ++ t.closure ∷ []

-- what a trace is about is met, by the closure of the last state and those before: "Demand 2 reads a false formula as
-- an attack state met" (document 02, wish 11)
abbrev pub AimMet : Facts → History → Aim → Type 0
AimMet X past (state G) = Meets X G.P G.N
AimMet X past (formula p) = truth p (X ∷ past) ≡ false

-- the model's goal g is met in S, after states with these closures
pub record GoalMet (m : Model) (g : ℕ) (past : History) (S : State) : Type 0 where
  pub goal : g < length (aims m)
  pub closure : Facts
  pub is_hc : HC m.clauses S.facts closure
  pub meets : AimMet closure past (aim_of m g)

-- demand 2 (docs/PROMISES.md): every step is a transition, and the last state's closure, with those before, meets the
-- goal named
pub record TrueAttack (m : Model) (t : Trace) : Type 0 where
  pub last : State
  pub path : Path m (start m) t.steps last
  pub met : GoalMet m t.goal (earlier path) last
