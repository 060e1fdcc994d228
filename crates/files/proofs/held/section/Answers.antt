-- The section stands between its length and its end; where the model's version has none, no length is left.
use mathlib.Core.Path.{sym, ap, ◌∙◌}
use mathlib.Core.Bool.{true≢false}
use native.Mathlib.Omega.{arith}
use Rattle.sections.specs.Sections.{fits, payload}
use Rattle.sections.proofs.Parts.{fits-ended, ended-bytes}
use Rattle.files.proofs.Roles.{section-there, section-absent, there_or_absent}
use Rattle.files.proofs.Shaped.{role-fits, absent-end}
use Rattle.files.proofs.held.section.Goals as goal

pub returns-in-None : goal.returns-in-None
returns-in-None c =
    let file = c.args.model.now in
    let role = c.args.role in
    there_or_absent file role
    (λ there.
    absurd
    (true≢false
    (sym (role-fits file c.requires role there) ∙ ap (fits file) (sym c.place_of-at.ensures) ∙ c.in-None.ensures)))
    (λ absent. sym (section-absent file role absent))

pub overflow_add-result : goal.overflow_add-result
overflow_add-result c = let e = fits-ended _ _ _ c.in-Some.ensures in omega (arith, e)

pub slice_bounds-result-count : goal.slice_bounds-result-count
slice_bounds-result-count c = (fits-ended _ _ _ c.in-Some.ensures).start

pub slice_bounds-result-start : goal.slice_bounds-result-start
slice_bounds-result-start c = let e = fits-ended _ _ _ c.in-Some.ensures in omega (arith, e)

pub slice_bounds-result-end : goal.slice_bounds-result-end
slice_bounds-result-end c = let e = fits-ended _ _ _ c.in-Some.ensures in omega (arith, e)

pub returns-in-Some : goal.returns-in-Some
returns-in-Some c =
    let file = c.args.model.now in
    let role = c.args.role in
    let is = c.place_of-at.ensures in
    let e = fits-ended _ _ _ c.in-Some.ensures in
    there_or_absent file role
    (λ there. ended-bytes _ _ _ e ∙ ap (payload file) is ∙ sym (section-there file role there))
    (λ absent. absurd (omega (arith, e, is, absent-end file c.requires role absent)))
