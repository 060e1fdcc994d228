-- Laws on the verdict of a run: its values, by how the run ended.
use Prim.Native.Nat.{ℕ, ◌+◌}
use mathlib.Core.Path.{◌≡◌, sym, ap, ◌∙◌}
use mathlib.Core.List.{List}
use Rattle.meaning.specs.Rounds.{round_number}
use Rattle.meaning.specs.Run.{Ending, Outcome}
use Rattle.meaning.specs.Run.Ending.{attack, blocked, not_met, upheld}
use Rattle.files.specs.Files.{model_of_lem, trace_of}
use Rattle.files.specs.Answers.{entry_part_lem, goal_part_lem}
use Rattle.files.specs.declared.Part.{Part}
use Rattle.stepping.specs.Conditions.{stop_number, fact_in, kind_in, round_in, condition_of}
use Rattle.running.specs.Outcomes.{nothing, number_of, fact_of, kind_of}
use Rattle.running.specs.Outcomes.{round_of_lem, part_for, ran}
use Rattle.running.specs.Running.{ending_of, Shows}
use Rattle.running.specs.declared.Verdict.{Verdict}
use Rattle.stepping.specs.declared.conditions.Condition.TheVariants as condition
use Rattle.running.specs.declared.Ending.TheVariants as ends
use Rattle.running.specs.declared.Ended.{Ended}

module _ (m t : List ℕ) (o : Outcome) {steps : ℕ} (e : Ended) {held : ℕ} (shows : Shows o steps e held) where
  -- the verdict that the code makes of how the run ended
  abbrev pub made : ℕ → ℕ → ℕ → ℕ → Part → Verdict
  made number fact kind round part = record {
    number = number;
    step = e.step;
    fact = fact;
    rounds = e.rounds;
    held = held;
    kind = kind;
    round = round;
    part = part;
  }

  abbrev pub numbers : ℕ → ℕ
  numbers = round_number (model_of_lem m).clauses o.state.facts

  -- an ending that is told has its number, fact, kind, round and part
  made-is : (x : Ending) → ending_of e.ending ≡ x
      → made (number_of x) (fact_of x) (kind_of x) (round_of_lem numbers x) (part_for m t e.step x) ≡ ran m t o
  unfolding ran
  made-is x told =
      let is = sym told ∙ shows.ending in
      rw (is, shows.step, shows.rounds, shows.held-is)

  pub ran-attack : e.ending ≡ ends.Attack → made 0 65535 0 65535 nothing ≡ ran m t o
  unfolding ending_of number_of fact_of kind_of round_of_lem part_for
  ran-attack told = made-is attack (ap ending_of told)

  pub ran-upheld : e.ending ≡ ends.Upheld → {part : Part} → part ≡ goal_part_lem m (trace_of t).goal
      → made 11 65535 0 65535 part ≡ ran m t o
  unfolding ending_of number_of fact_of kind_of round_of_lem part_for
  ran-upheld told p = rw p (made-is upheld (ap ending_of told))

  module _ (c : condition.the_data) {fact kind round : ℕ} {part : Part} (f : fact ≡ fact_in (condition_of c))
      (k : kind ≡ kind_in (condition_of c))
      (r : round ≡ round_in numbers (condition_of c)) where
    pub ran-blocked : {number : ℕ} → number ≡ stop_number (condition_of c) → e.ending ≡ ends.Blocked c
        → part ≡ entry_part_lem t (1 + e.step) → made number fact kind round part ≡ ran m t o
    unfolding ending_of number_of fact_of kind_of round_of_lem part_for
    ran-blocked n told p = rw (n, f, k, r, p) (made-is (blocked (condition_of c)) (ap ending_of told))

    pub ran-not_met : e.ending ≡ ends.NotMet c → part ≡ goal_part_lem m (trace_of t).goal
        → made 11 fact kind round part ≡ ran m t o
    unfolding ending_of number_of fact_of kind_of round_of_lem part_for
    ran-not_met told p = rw (f, k, r, p) (made-is (not_met (condition_of c)) (ap ending_of told))
