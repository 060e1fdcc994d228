-- The head and the body are two more lists after the marks at the start.
use mathlib.Core.Path.{refl, ◌∙◌, sym}
use mathlib.Core.List.{[], ◌∷◌}
use mathlib.Core.Option.{some}
use native.Mathlib.Omega.{arith}
use lib.ListN.{take, drop}
use borrow.Author.Tests.{lt-ltb, le-ltb, ne_eqb}
use Rattle.records.specs.Words.{words}
use Rattle.records.specs.Records.{rows}
use Rattle.records.specs.Marking.{picked_of}
use Rattle.records.proofs.Sections.{rest_of}
use Rattle.records.proofs.Lists.{clause_tests, picked-end, picked_more}
use Rattle.records.proofs.check_clause.Goals as goal
use Rattle.records.proofs.check_clause.Goals.{then-body-lt2-via-then-body-lt2, then-body-lt2-via-else-body-lt2+then-body-eq1}

pub row_of-requires : goal.row_of-requires
unfolding rows
row_of-requires c = omega arith

pub returns-then-body-lt2 : goal.returns-then-body-lt2
unfolding picked_of
returns-then-body-lt2 c =
    rw clause_tests
    (elim c.then-body-lt2.branch [
      | then-body-lt2-via-then-body-lt2 w ↦ rw (lt-ltb _ _ w.if-body-lt2.true)
      | then-body-lt2-via-else-body-lt2+then-body-eq1 w ↦ rw (le-ltb _ _ w.if-body-lt2.false, w.if-body-eq1.true)
    ])

pub returns : goal.returns
unfolding rows
returns c =
    let body = c.args.body.now in
    rw (clause_tests, le-ltb _ _ c.if-body-lt2.false, ne_eqb _ _ c.if-body-eq1.false)
    (c.pick.ensures
    ∙ sym
    (picked_more _ _ _ (words (take 2 body)) refl c.mark_head-marks.ensures
    (some (words (drop 2 body) ∷ []))
    ∙ picked_more _ _ _ (words (drop 2 body)) c.row_of.ensures (rw rest_of at c.mark_list-marks.ensures) (some [])
    ∙ picked-end _ _))
