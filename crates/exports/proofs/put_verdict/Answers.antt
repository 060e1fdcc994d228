use Rattle.std.proofs.Common.{rules}
use Rattle.exports.specs.Exports.{values}
use Rattle.exports.proofs.put_verdict.Goals as goal

pub returns : goal.returns
unfolding values
returns c = search rules
