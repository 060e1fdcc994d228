-- Room, then the files' faults, then what is passed.
use mathlib.Core.Path.{sym, ◌∙◌}
use Rattle.std.proofs.lemmas.Result.{err_from_is_err_and}
use Rattle.files.proofs.Answers.{blamed_ok, blames_err}
use Rattle.holding.proofs.Answers.{holds-room, holds_files}
use Rattle.holding.proofs.holds.Goals as goal

pub returns-then-no_space : goal.returns-then-no_space
returns-then-no_space c = holds-room _ _ _ _ _ (sym c.no_space.ensures ∙ c.if-no_space.true)

pub returns-in_err-counts : goal.returns-in_err-counts
returns-in_err-counts c =
    let p = err_from_is_err_and c.from_residual.result c.from_residual.ensures.1 in
    rw (p.1, p.2)
    (holds_files _ _ _ _ _ (sym c.no_space.ensures ∙ c.if-no_space.false) (blames_err _ _ _ c.in_err-counts.ensures))

pub holds_passed-requires : goal.holds_passed-requires
holds_passed-requires c =
    let (fine, counts) = blamed_ok _ _ _ c.in_ok-counts.ensures in
    record { room = sym c.no_space.ensures ∙ c.if-no_space.false; fine = fine; counted = sym counts }
