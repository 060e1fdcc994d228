-- `put` meets its contract: the front is as many items as there are and as there is room for.
use Rattle.exports.proofs.Fronts.{over_min}
use Rattle.exports.proofs.put.Goals as goal

pub returns : goal.returns
returns g c = rw c.copy_from_slice.ensures.after (over_min c.args.items.now c.args.out.now _ c.min-n.ensures)
