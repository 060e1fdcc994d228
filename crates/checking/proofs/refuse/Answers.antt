-- The refusal as it is defined.
use Rattle.checking.specs.Verdict.{refused}
use Rattle.checking.proofs.refuse.Goals as goal

pub returns : goal.returns
unfolding refused
returns c = rw (c.number.ensures)
