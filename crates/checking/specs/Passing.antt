-- A contract between functions. No promise to the outside rests on it.
use Rattle.std.specs.Prelude.{ℕ, ◌≡◌, false, List}
use Rattle.std.proofs.Math.Option.{none}
use Rattle.files.specs.Files.{files_fault}
use Rattle.files.specs.Answers.{counts_of}
use Rattle.files.specs.declared.Counts.{Counts}
use Rattle.reaching.specs.Reaching.{Lent}
use Rattle.checking.specs.Verdict.{no_space_lem}

-- what is known of a pair before its trace is judged: its files have passed, the model has so many records, and there
-- is room in the buffers
pub record Passed (m t : List ℕ) (l : Lent) (n : Counts) : Type 0 where
  pub room : no_space_lem l ≡ false
  pub fine : files_fault m t ≡ none
  pub counted : counts_of m ≡ n
