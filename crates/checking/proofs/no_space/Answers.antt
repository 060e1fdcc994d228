-- The state and the table are as `no_room` says.
use Rattle.checking.specs.Verdict.{no_space_lem}
use Rattle.checking.proofs.no_space.Goals as goal

pub returns : goal.returns
unfolding no_space_lem
returns c = rw c.no_room.ensures
