-- The entry of the number read.
use Rattle.closing.specs.Sweep.{up_to}
use Rattle.closing.proofs.fact_stands.Goals as goal

pub returns : goal.returns
unfolding up_to
returns c = rw c.word_at.ensures
