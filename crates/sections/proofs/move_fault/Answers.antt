-- The fault's place moves.
use mathlib.Core.Path.{refl}
use Rattle.sections.specs.Sections.{moved}
use Rattle.sections.proofs.move_fault.Goals as goal

pub returns : goal.returns
unfolding moved
returns c = refl
