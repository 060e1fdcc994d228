-- One fact, early answer: closing that stops in the round where a fact arrives (document 02, wish 8).
use Rattle.std.specs.Prelude.{ℕ, cond, List}
use Rattle.sets.specs.Sets.{Facts}
use Rattle.meaning.specs.Model.{Clause}
use Rattle.meaning.specs.Rounds.{round, rounds, closure, round_number}

-- closed up to round r: "The round table shows facts up to the last round run and 65,535 elsewhere"
unfoldable pub shown : List Clause → Facts → ℕ → ℕ → ℕ
unfolding round round_number
shown cs S r f = cond (round cs S r f) (round_number cs S f) 65535

-- "Rounds run on that state equal the round number when held, and all rounds when absent."
unfoldable pub rounds_for : List Clause → Facts → ℕ → ℕ
unfolding closure round_number rounds
rounds_for cs S f = cond (closure cs S f) (round_number cs S f) (rounds cs S)
