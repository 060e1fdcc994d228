-- The tests follow the chain of the model's faults.
use mathlib.Core.Path.{◌∙◌}
use Rattle.records.specs.Records.{◌or_else◌}
use Rattle.files.specs.Files.{model_fault}
use Rattle.files.proofs.model.judge_model.Goals as goal

pub returns-in-Err : goal.returns-in-Err
unfolding model_fault ◌or_else◌
returns-in-Err c = rw (← c.in-Err.ensures)

pub returns-in-Err-check_version : goal.returns-in-Err-check_version
unfolding model_fault ◌or_else◌
returns-in-Err-check_version c = rw (← c.in_default.ensures, ← c.in-Err-check_version.ensures)

pub returns : goal.returns
unfolding model_fault ◌or_else◌
returns c = c.judge_shape.ensures ∙ rw (← c.in_default.ensures, ← c.in_default-check_version.ensures)
