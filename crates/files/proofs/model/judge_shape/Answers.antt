-- Each turn judges the section at hand.
use mathlib.Core.Path.{◌≡◌, ap, ◌∙◌}
use native.Mathlib.Omega.{arith}
use lib.ListN.{get_or}
use Rattle.files.specs.Files.{roles, roles_of}
use Rattle.files.proofs.Order.{onward-start, onward-few, onward-next, onward-fault, onward-left, onward-end}
use Rattle.files.proofs.model.judge_shape.Goals as goal

pub loop-role-init : goal.loop-role-init
loop-role-init c = onward-start _ _ c.facts_told-facts.ensures

pub note-counts-requires : goal.note-counts-requires
unfolding roles_of
note-counts-requires c =
    let all : c.sections_of-role-items.result.now ≡ roles (get_or c.args.model.now 0 0) =
    c.sections_of-role-items.ensures ∙ ap roles c.version_of-version.ensures in
    let few =
    onward-few _ _ c.loop-role.invariant (rw all at c.loop-role-test.true) (rw all at c.judge_section.ensures)
    c.in-Ok.is in
    omega (arith, few)

pub returns-in-Err : goal.returns-in-Err
unfolding roles_of
returns-in-Err c =
    let all : c.sections_of-role-items.result.now ≡ roles (get_or c.args.model.now 0 0) =
    c.sections_of-role-items.ensures ∙ ap roles c.version_of-version.ensures in
    rw (onward-fault _ _ c.loop-role.invariant (rw all at c.loop-role-test.true) (rw all at c.judge_section.ensures)
    c.in-Err.is)

pub loop-role-preserved : goal.loop-role-preserved
unfolding roles_of
loop-role-preserved c =
    let all : c.sections_of-role-items.result.now ≡ roles (get_or c.args.model.now 0 0) =
    c.sections_of-role-items.ensures ∙ ap roles c.version_of-version.ensures in
    rw (c.note-counts.ensures, all)
    (onward-next _ _ c.loop-role.invariant (rw all at c.loop-role-test.true) (rw all at c.judge_section.ensures)
    c.in-Ok.is)

pub returns-then-at-model : goal.returns-then-at-model
unfolding roles_of
returns-then-at-model c =
    let all : c.sections_of-role-items.result.now ≡ roles (get_or c.args.model.now 0 0) =
    c.sections_of-role-items.ensures ∙ ap roles c.version_of-version.ensures in
    rw (
      c.rest_fault.ensures,
      onward-left _ _ c.loop-role.invariant (rw all at c.loop-role-test.false) c.if-at-model.true,
    )

pub returns : goal.returns
unfolding roles_of
returns c =
    let all : c.sections_of-role-items.result.now ≡ roles (get_or c.args.model.now 0 0) =
    c.sections_of-role-items.ensures ∙ ap roles c.version_of-version.ensures in
    let (fine, counts) =
    onward-end _ _ c.loop-role.invariant (rw all at c.loop-role-test.false) c.if-at-model.false in
    rw (fine, counts)
