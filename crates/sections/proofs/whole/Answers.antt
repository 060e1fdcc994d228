-- What refuses the bytes is for all of them.
use Rattle.sections.specs.Sections.{all_of}
use Rattle.sections.proofs.whole.Goals as goal

pub returns-in-Ok : goal.returns-in-Ok
unfolding all_of
returns-in-Ok c = rw (c.in-Ok.is)

pub returns-in-Err : goal.returns-in-Err
unfolding all_of
returns-in-Err c = rw (c.in-Err.is)
