-- `keep` meets its contract.
use Rattle.past.proofs.Bits.{added_written, removed-written}
use Rattle.past.proofs.keep.Goals as goal

pub returns-then-bit : goal.returns-then-bit
returns-then-bit c = rw c.if-bit.true (added_written c.add.ensures)

pub returns-else-bit : goal.returns-else-bit
returns-else-bit c = rw c.if-bit.false (removed-written c.remove.ensures)
