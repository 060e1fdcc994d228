-- Room, the model, room for the index, then the state.
use Rattle.std.proofs.Common.{sym, ap, ◌∙◌}
use Rattle.files.specs.Answers.{counts_of}
use Rattle.files.specs.declared.Counts.{Counts}
use Rattle.std.proofs.lemmas.Result.{err_from_is_err_and}
use Rattle.records.proofs.Laws.{told_ok, told_err}
use Rattle.files.proofs.Traces.{fine-shape, fine-size}
use Rattle.closing.proofs.Alone.{table-room}
use Rattle.closing.proofs.Indexing.{crosses_refused, crosses_as, indexed_no_room, indexed-fault}
use Rattle.closing.proofs.Indexing.{indexed_no_places, indexed-fine}
use Rattle.closing.proofs.close_indexed.Goals as goal

pub returns-then-no_room : goal.returns-then-no_room
returns-then-no_room c =
    crosses_refused _ _ _ _ _ 1 (indexed_no_room _ _ _ _ (sym c.no_room.ensures ∙ c.if-no_room.true))

pub no_places-requires : goal.no_places-requires
unfolding counts_of
no_places-requires c =
    let fine = told_ok _ _ _ c.in_ok-counts.ensures in
    (fine-shape _ fine.0, ap (λ (n : Counts). n.clauses) fine.1)

pub returns-then-no_places : goal.returns-then-no_places
returns-then-no_places c =
    crosses_refused _ _ _ _ _ 1
    (indexed_no_places _ _ _ _ (sym c.no_room.ensures ∙ c.if-no_room.false)
    (told_ok _ _ _ c.in_ok-counts.ensures).0 (sym c.no_places.ensures ∙ c.if-no_places.true))

pub close_built-requires : goal.close_built-requires
close_built-requires c =
    let fine = (told_ok _ _ _ c.in_ok-counts.ensures).0 in (
      fine-shape _ fine,
      fine-size _ fine,
      table-room _ _ (sym c.no_room.ensures ∙ c.if-no_room.false),
      sym c.no_places.ensures ∙ c.if-no_places.false,
    )

pub returns-in_err-counts : goal.returns-in_err-counts
returns-in_err-counts c =
    let p = err_from_is_err_and c.from_residual.result c.from_residual.ensures.1 in
    rw (p.1, p.2)
    (crosses_refused _ _ _ _ _ _
    (indexed-fault _ _ _ _ (sym c.no_room.ensures ∙ c.if-no_room.false) _ (told_err _ _ _ c.in_err-counts.ensures)))

pub returns : goal.returns
returns c =
    crosses_as
    (indexed-fine _ _ _ _ (sym c.no_room.ensures ∙ c.if-no_room.false)
    (told_ok _ _ _ c.in_ok-counts.ensures).0 (sym c.no_places.ensures ∙ c.if-no_places.false))
    c.close_built.ensures
