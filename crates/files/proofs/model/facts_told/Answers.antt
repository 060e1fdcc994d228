-- Fine sizes are two bytes, and F is the number that they are.
use mathlib.Core.Path.{sym, ap, ◌∙◌}
use mathlib.Core.Bool.{true≢false}
use native.Mathlib.Omega.{arith}
use Rattle.records.specs.Words.{word}
use Rattle.sections.specs.declared.Role.TheVariants.{Sizes}
use Rattle.sections.proofs.Parts.{fits-ended, ended-bytes, ended-size}
use Rattle.files.specs.Files.{fact_count, place_of_role, index_of, roles_of, roles, tag}
use Rattle.files.proofs.Roles.{always, section-there}
use Rattle.files.proofs.Order.{sizes-end}
use Rattle.files.proofs.model.facts_told.Goals as goal

pub returns-in_default : goal.returns-in_default
returns-in_default c = λ fine. absurd (true≢false (sym (sizes-end 0 c.args.model.now fine).0 ∙ c.in_default.ensures))

pub returns-then-end-lt7 : goal.returns-then-end-lt7
returns-then-end-lt7 c = λ fine.
    absurd (omega (arith, (sizes-end 0 c.args.model.now fine).1, c.in-Some.ensures.1, c.if-end-lt7.true))

pub slice_bounds-word_at-end : goal.slice_bounds-word_at-end
slice_bounds-word_at-end c = let e = fits-ended _ 1 _ c.in-Some.ensures in omega (arith, e)

pub word_at-requires : goal.word_at-requires
word_at-requires c =
    let e = fits-ended _ 1 _ c.in-Some.ensures in omega (arith, e, ended-size _ 1 _ e, c.if-end-lt7.false)

pub returns : goal.returns
unfolding fact_count place_of_role index_of roles_of roles tag
returns c = λ fine.
    let file = c.args.model.now in
    let e = fits-ended _ 1 _ c.in-Some.ensures in
    c.word_at.ensures ∙ ap word (ended-bytes _ 1 _ e) ∙ ap word (sym (section-there file Sizes (always file).sizes))
