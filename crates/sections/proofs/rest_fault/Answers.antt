-- From a place past the file's end on there is nothing.
use Rattle.sections.specs.Sections.{rest_fault_lem}
use Rattle.sections.proofs.rest_fault.Goals as goal

pub returns : goal.returns
unfolding rest_fault_lem
returns c = rw (c.saturating_sub.ensures)
