-- What the run's own functions are told and leave, and what their answers are in the words of `meaning`. No promise to
-- the outside rests on these.
use Rattle.std.specs.Prelude.{ℕ, ◌≤◌, ◌<◌, ◌≡◌, List, length, get_or}
use Rattle.sets.specs.Sets.{Facts}
use Rattle.meaning.specs.Past.{History}
use Rattle.meaning.specs.Model.{Model, Aim}
use Rattle.meaning.specs.Run.{Ending, Outcome, asked_of}
use Rattle.meaning.specs.Run.Ending.{attack, blocked, not_met, upheld}
use Rattle.meaning.specs.Rounds.{round_number}
use Rattle.files.specs.Files.{model_of_lem, trace_of}
use Rattle.files.specs.Known.{GoalCodes}
use Rattle.closing.specs.Closing.{Way}
use Rattle.stepping.specs.Conditions.{condition_of}
use Rattle.reaching.specs.Reaching.{Lent, Keeps, Ready, StepsTo}
use Rattle.reaching.specs.declared.Steps.{Steps}
use Rattle.running.specs.Outcomes.{outcome, Left}
use Rattle.running.specs.declared.Ending.TheVariants as ending
use Rattle.running.specs.declared.Ended.{Ended}

unfoldable pub ending_of : ending.the_data → Ending
unfolding condition_of
ending_of ending.Attack = attack
ending_of (ending.Blocked c) = blocked (condition_of c)
ending_of (ending.NotMet c) = not_met (condition_of c)
ending_of ending.Upheld = upheld

-- the ending is what is asked of a state with the closure X, after whatever history this is kept of
abbrev pub Asked : Aim → Facts → Facts → List ℕ → Ending → Type 0
Asked aim X used kept e = (h : History) → Keeps aim h kept → e ≡ asked_of aim X used h

-- what the end of a run relies on: a judged pair and room for it, what its steps led to, the codes of its goal and the
-- way that closing takes
pub record Led (m t codes : List ℕ) (lent : Lent) (bits : List ℕ) (r : Steps) (index ends starts : List ℕ)
    : Type 0 where
  pub ready : Ready m t lent
  pub steps : StepsTo m t lent lent bits r
  pub goal : GoalCodes m (trace_of t).goal codes
  pub way : Way m index ends starts

-- what the run has come to, with the facts held
pub record Shows (o : Outcome) (steps : ℕ) (e : Ended) (held : ℕ) : Type 0 where
  pub within : e.step ≤ steps
  pub ending : ending_of e.ending ≡ o.ending
  pub step : e.step ≡ o.step
  pub rounds : e.rounds ≡ o.rounds
  pub held-is : held ≡ o.held

-- the table has the round numbers of the last state
pub record Numbers (m : Model) (o : Outcome) (table : List ℕ) : Type 0 where
  pub long : 4096 ≤ length table
  pub entries : (f : ℕ) → f < 4096 → get_or table f 0 ≡ round_number m.clauses o.state.facts f

-- what the run has come to, and the last state and its round numbers
pub record EndsAs (m t : List ℕ) (before after : Lent) (e : Ended) : Type 0 where
  pub within : e.step ≤ length (trace_of t).steps
  pub ending : ending_of e.ending ≡ (outcome m t).ending
  pub step : e.step ≡ (outcome m t).step
  pub rounds : e.rounds ≡ (outcome m t).rounds
  pub left : Left (model_of_lem m) (outcome m t) before after
