-- The two tests are those of the definition.
use Rattle.std.proofs.Common.{refl}
use Rattle.closing.specs.Closing.{no_room_lem}
use Rattle.closing.proofs.no_room.Goals as goal

pub returns : goal.returns
unfolding no_room_lem
returns c = refl
