use Rattle.std.proofs.Common.{◌∙◌, arith}
use Rattle.worklist.proofs.Seeing.{waiting-fact, next-none, next-some}
use Rattle.worklist.proofs.Queue.next_before.Goals as goal

pub returns-in_err-f : goal.returns-in_err-f
returns-in_err-f c =
    c.from_residual.ensures ∙ next-none _ _ _ _ _ (omega (arith, c.requires.1)) c.in_err-f.ensures.lookup.3

pub bounds-table-f : goal.bounds-table-f
bounds-table-f c =
    let (some, is) = waiting-fact _ _ _ _ c.in_ok-f.ensures.lookup.3 in
    let low = c.requires.3 _ some in
    omega arith

pub returns : goal.returns
returns c = c.then_some.ensures ∙ next-some _ _ _ _ _ (waiting-fact _ _ _ _ c.in_ok-f.ensures.lookup.3) c.number.ensures
