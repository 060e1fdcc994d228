-- The section doesn't fit, or what is found in its bytes stands at its place in the file.
use native.Mathlib.Omega.{arith}
use Rattle.records.proofs.Laws.{told_ok, told_err}
use Rattle.sections.proofs.Parts.{fits-ended, ended-bytes, ended-size, unfit-fault, fit-fault, reader-within}
use Rattle.sections.proofs.judge_section.Goals as goal

pub returns-in_default : goal.returns-in_default
returns-in_default c = rw (unfit-fault _ _ _ c.in_default.ensures, c.rest_fault.ensures)

pub overflow_add-by : goal.overflow_add-by
overflow_add-by c =
    let e = fits-ended _ _ _ c.in-Some.ensures in omega (arith, e)

pub slice_bounds-read-count : goal.slice_bounds-read-count
slice_bounds-read-count c = (fits-ended _ _ _ c.in-Some.ensures).start

pub slice_bounds-read-end : goal.slice_bounds-read-end
slice_bounds-read-end c = (fits-ended _ _ _ c.in-Some.ensures).within

pub move_fault-requires : goal.move_fault-requires
move_fault-requires c =
    let e = fits-ended _ _ _ c.in-Some.ensures in
    let told = rw (ended-bytes _ _ _ e) at c.in-Err.ensures in
    omega (arith, e, ended-size _ _ _ e, reader-within _ c.args.role c.args.facts _ _ (told_err _ _ _ told))

pub returns-in-Ok : goal.returns-in-Ok
returns-in-Ok c =
    let e = fits-ended _ _ _ c.in-Some.ensures in
    let told = rw (ended-bytes _ _ _ e, c.version_of.ensures) at c.in-Ok.ensures in
    let (fine, count) = told_ok _ _ _ told in
    rw (fit-fault _ _ _ e.fit, fine, count, c.in-Some.ensures.1)

pub returns-in-Err : goal.returns-in-Err
returns-in-Err c =
    let e = fits-ended _ _ _ c.in-Some.ensures in
    let told = rw (ended-bytes _ _ _ e, c.version_of.ensures) at c.in-Err.ensures in
    rw (fit-fault _ _ _ e.fit, told_err _ _ _ told, c.move_fault.ensures)

pub slice_bounds-read-start : goal.slice_bounds-read-start
slice_bounds-read-start c = let e = fits-ended _ _ _ c.in-Some.ensures in omega (arith, e)
