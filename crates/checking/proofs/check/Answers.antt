-- Room, then the pair's faults, then the run.
use mathlib.Core.Path.{sym, ◌∙◌}
use Rattle.files.proofs.Answers.{blamed_ok, blames_err}
use Rattle.reaching.specs.Reaching.{Lent}
use Rattle.checking.proofs.Refusals.{spacious}
use Rattle.checking.proofs.Checks.{checked_room, checked_blamed, checked_run}
use Rattle.checking.proofs.check.Goals as goal

pub returns-then-no_space : goal.returns-then-no_space
returns-then-no_space c = checked_room _ _ _ (sym c.no_space.ensures ∙ c.if-no_space.true) c.refuse_room.ensures

pub run_swept-requires : goal.run_swept-requires
run_swept-requires c =
    let lent : Lent = record { state = c.args.state.now; table = c.args.table.now; names = c.args.names.now } in
    spacious lent (sym c.no_space.ensures ∙ c.if-no_space.false) (blamed_ok _ _ _ c.in-Ok.ensures).0

pub returns-in-Ok : goal.returns-in-Ok
returns-in-Ok c =
    checked_run _ _ _ (sym c.no_space.ensures ∙ c.if-no_space.false) (blamed_ok _ _ _ c.in-Ok.ensures).0
    c.run_swept.ensures.0 c.run_swept.ensures.1

pub returns-in-Err : goal.returns-in-Err
returns-in-Err c =
    checked_blamed _ _ _ (sym c.no_space.ensures ∙ c.if-no_space.false) (blames_err _ _ _ c.in-Err.ensures)
    c.refuse.ensures
