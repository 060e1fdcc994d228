-- The trace's fault, or nothing.
use Rattle.records.proofs.Laws.{told_ok, told_err}
use Rattle.files.specs.Answers.{blamed_number, blamed_part}
use Rattle.files.proofs.both.judge_steps.Goals as goal

pub returns-in-Ok : goal.returns-in-Ok
returns-in-Ok c = rw ((told_ok _ _ _ c.in-Ok.ensures).0)

pub returns-in-Err : goal.returns-in-Err
unfolding blamed_number blamed_part
returns-in-Err c = rw (told_err _ _ _ c.in-Err.ensures, c.blame.ensures)
