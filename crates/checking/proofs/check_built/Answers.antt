-- Room for the index, then the trace's faults, then the run.
use mathlib.Core.Path.{sym, ap, ◌∙◌}
use Rattle.files.specs.Answers.{counts_of}
use Rattle.files.specs.declared.Counts.{Counts}
use Rattle.files.proofs.Answers.{blamed_ok, blames_err, steps-counted}
use Rattle.files.proofs.Traces.{files_shape, stages_fine}
use Rattle.reaching.specs.Reaching.{Lent}
use Rattle.checking.proofs.Refusals.{spacious}
use Rattle.checking.proofs.Indexed.{indexed-places, indexed-steps, indexed-run}
use Rattle.checking.proofs.check_built.Goals as goal

pub no_places-requires : goal.no_places-requires
unfolding counts_of
no_places-requires c =
    (files_shape _ _ c.requires.fine, sym (ap (λ (n : Counts). n.clauses) c.requires.counted))

pub returns-then-no_places : goal.returns-then-no_places
returns-then-no_places c =
    indexed-places _ _ _ _ c.requires.room c.requires.fine (sym c.no_places.ensures ∙ c.if-no_places.true)
    c.refuse_room.ensures

pub run_indexed-requires : goal.run_indexed-requires
run_indexed-requires c =
    let lent : Lent = record { state = c.args.state.now; table = c.args.table.now; names = c.args.names.now } in
    let fine = (blamed_ok _ _ _ (c.in-Ok.ensures ∙ steps-counted _ _ _ c.requires.counted)).0 in
    let places = sym c.no_places.ensures ∙ c.if-no_places.false in
    (spacious lent c.requires.room (stages_fine _ _ c.requires.fine fine), places)

pub returns-in-Ok : goal.returns-in-Ok
returns-in-Ok c =
    let (verdict, left, holds) = c.run_indexed.ensures in
    indexed-run _ _ _ _ c.requires.room c.requires.fine (sym c.no_places.ensures ∙ c.if-no_places.false)
    (blamed_ok _ _ _ (c.in-Ok.ensures ∙ steps-counted _ _ _ c.requires.counted)).0 verdict left holds

pub returns-in-Err : goal.returns-in-Err
returns-in-Err c =
    indexed-steps _ _ _ _ c.requires.room c.requires.fine (sym c.no_places.ensures ∙ c.if-no_places.false)
    (blames_err _ _ _ (c.in-Err.ensures ∙ steps-counted _ _ _ c.requires.counted)) c.refuse.ensures
