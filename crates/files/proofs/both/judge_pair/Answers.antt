-- What comes before the trace, then the trace's fault.
use mathlib.Core.Path.{sym, ◌∙◌}
use Rattle.files.specs.Files.{pair_fault}
use Rattle.files.proofs.Answers.{blamed_ok, blamed_err, blamed_first, steps-after}
use Rattle.files.proofs.both.judge_pair.Goals as goal

pub returns-in-Ok : goal.returns-in-Ok
returns-in-Ok c =
    let (fine, is) = blamed_ok _ _ _ c.in-Ok.ensures in c.judge_steps.ensures ∙ steps-after _ _ _ fine (sym is)

pub returns-in-Err : goal.returns-in-Err
unfolding pair_fault
returns-in-Err c = rw (blamed_first _ _ _ (blamed_err _ _ _ c.in-Err.ensures))
