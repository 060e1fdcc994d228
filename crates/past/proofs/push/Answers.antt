-- `push` meets its contract: a bool as a number is its bit.
use Rattle.std.proofs.Common.{rules}
use Rattle.past.specs.Keeping.{pushed}
use Rattle.past.proofs.push.Goals as goal

pub returns : goal.returns
unfolding pushed
returns c = search rules
