-- The heads' fault, then the model's.
use mathlib.Core.Path.{sym}
use Rattle.records.proofs.Laws.{told_ok, told_err}
use Rattle.files.specs.Files.{files_fault}
use Rattle.files.specs.Answers.{blamed_number, blamed_part}
use Rattle.files.proofs.Answers.{blamed_next, blamed_first}
use Rattle.files.proofs.both.judge_files.Goals as goal

pub returns-in-Err : goal.returns-in-Err
unfolding files_fault
returns-in-Err c = rw (blamed_first _ _ _ (sym c.in-Err.ensures))

pub returns-in-Ok : goal.returns-in-Ok
unfolding files_fault
returns-in-Ok c =
    let (fine, is) = told_ok _ _ _ c.in-Ok.ensures in
    rw (blamed_next _ _ c.in_default.ensures, fine, is)

pub returns-in-Err-judge_shape : goal.returns-in-Err-judge_shape
unfolding files_fault blamed_number blamed_part
returns-in-Err-judge_shape c =
    rw (blamed_next _ _ c.in_default.ensures, told_err _ _ _ c.in-Err-judge_shape.ensures, c.blame.ensures)
