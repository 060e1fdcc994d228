-- Room, then the model, then the state, each refusal before the next.
use Rattle.std.proofs.Common.{sym, ◌∙◌}
use Rattle.std.proofs.lemmas.Result.{err_from_is_err_and}
use Rattle.records.proofs.Laws.{told_ok, told_err}
use Rattle.files.proofs.Traces.{fine-shape}
use Rattle.closing.proofs.Alone.{table-room, no_room, model-refused, model-fine}
use Rattle.closing.proofs.close.Goals as goal

pub returns-then-no_room : goal.returns-then-no_room
returns-then-no_room c = no_room _ _ _ (sym c.no_room.ensures ∙ c.if-no_room.true)

pub returns-in_err-judge_model : goal.returns-in_err-judge_model
returns-in_err-judge_model c =
    let p = err_from_is_err_and c.from_residual.result c.from_residual.ensures.1 in
    rw (p.1, p.2)
    (model-refused _ _ _ _ (sym c.no_room.ensures ∙ c.if-no_room.false) (told_err _ _ _ c.in_err-judge_model.ensures))

pub close_known-requires : goal.close_known-requires
close_known-requires c = (
  fine-shape _ (told_ok _ _ _ c.in_ok-judge_model.ensures).0,
  table-room _ _ (sym c.no_room.ensures ∙ c.if-no_room.false),
)

pub returns : goal.returns
returns c =
    model-fine _ _ _ _ _ (sym c.no_room.ensures ∙ c.if-no_room.false)
    (told_ok _ _ _ c.in_ok-judge_model.ensures).0 c.close_known.ensures
