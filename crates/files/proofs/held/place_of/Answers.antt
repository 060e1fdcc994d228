-- The place at hand is the role's, or its section is passed.
use mathlib.Core.Path.{◌≡◌, refl, sym, ap, ◌∙◌}
use mathlib.Core.Logic.{⊎_elim}
use mathlib.Core.List.{List}
use native.Mathlib.Nat.{not-suc-le-zero}
use native.Mathlib.Numerals.{add-one}
use native.Mathlib.Omega.{arith}
use lib.ListN.{length, get_or}
use denote.Enum.Bare.{same_true, same_false}
use Rattle.sections.specs.contracts.Role.{the_type}
use Rattle.sections.specs.Sections.{section_at}
use Rattle.sections.specs.declared.Role.{Role}
use Rattle.sections.specs.declared.Role.TheVariants.{Sizes, Formulas}
use Rattle.sets.proofs.Laws.{below_or_from}
use Rattle.sections.proofs.Parts.{some_end, end_some}
use Rattle.files.specs.Files.{roles, roles_of, tag, place_of_role}
use Rattle.files.proofs.Roles.{found_at, found_nowhere, same-role, at_any}
use Rattle.files.proofs.Shaped.{section-fits}
use Rattle.files.proofs.held.place_of.Goals as goal

pub loop-other-init : goal.loop-other-init
unfolding section_at
loop-other-init c = (λ j h. absurd (not-suc-le-zero h), refl)

pub returns-then-eq : goal.returns-then-eq
unfolding place_of_role roles_of
returns-then-eq c =
    let file = c.args.model.now in
    let all : c.sections_of-other-items.result.now ≡ roles (get_or file 0 0) =
    c.sections_of-other-items.ensures ∙ ap roles c.version_of.ensures in
    let here = rw all at c.loop-other-test.true in
    let same = rw all at (same_true the_type tt _ _ (sym c.eq.ensures ∙ c.if-eq.true)) in
    c.loop-other.invariant.1
    ∙ ap (section_at file)
    (sym (found_at (get_or file 0 0) c.loop-other.other-index c.args.role here
    (ap tag (at_any (roles (get_or file 0 0)) c.loop-other.other-index Formulas Sizes here ∙ same))))

pub unwrap-at-requires : goal.unwrap-at-requires
unfolding roles_of
unwrap-at-requires c =
    let file = c.args.model.now in
    let all : c.sections_of-other-items.result.now ≡ roles (get_or file 0 0) =
    c.sections_of-other-items.ensures ∙ ap roles c.version_of.ensures in
    some_end _ _ _ c.section_end.ensures
    (rw (c.loop-other.invariant.1) (section-fits file c.requires c.loop-other.other-index (rw all at c.loop-other-test.true)))

pub loop-other-preserved : goal.loop-other-preserved
unfolding section_at
loop-other-preserved c =
    let (earlier, at-is) = c.loop-other.invariant in (
      λ j h e.
          ⊎_elim (λ l. earlier j l e)
          (λ l.
          same_false the_type _ _ (sym c.eq.ensures ∙ c.if-eq.false)
          (ap (λ i. get_or c.sections_of-other-items.result.now i Sizes) (omega (arith, l, h)) ∙ e))
          (below_or_from j c.loop-other.other-index),
      (end_some _ _ _ _ c.section_end.ensures c.unwrap-at.ensures).is ∙ rw (at-is, add-one),
    )

pub returns : goal.returns
unfolding place_of_role roles_of
returns c =
    let file = c.args.model.now in
    let (earlier, at-is) = c.loop-other.invariant in
    let all : c.sections_of-other-items.result.now ≡ roles (get_or file 0 0) =
    c.sections_of-other-items.ensures ∙ ap roles c.version_of.ensures in
    let end : c.loop-other.other-index ≡ length (roles (get_or file 0 0)) =
    omega (arith, c.loop-other.auto.other-index-end, c.loop-other-test.false, ap length all) in
    let nowhere =
    found_nowhere (roles (get_or file 0 0)) c.args.role
    (λ j h e.
    earlier j (omega (arith, h, end))
    (ap (λ (rs : List Role). get_or rs j Sizes) all
    ∙ at_any (roles (get_or file 0 0)) j Sizes Formulas h ∙ same-role _ _ e)) in
    at-is ∙ ap (section_at file) (end ∙ sym nowhere)
