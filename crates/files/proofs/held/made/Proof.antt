-- `held::made` meets its contract: versions 1 and 2 have no names, from version 3 on they are the fourth list.
use mathlib.Core.Path.{◌≡◌, refl, sym, subst}
use mathlib.Core.List.Memᴰ
use lib.Dec.{lit<}
use lib.ListN.{get_or}
use Rattle.records.specs.Words.{words}
use Rattle.records.specs.Records.{rows, list_count_lem}
use Rattle.records.specs.declared.Kind.{Kind}
use Rattle.records.specs.declared.Kind.TheVariants as kind
use Rattle.lists.specs.Lists.{Cut, AllCut, ListBytes}
use Rattle.sections.specs.Sections.{rule_kind_lem}
use Rattle.files.specs.Files.{rule_in}
use Rattle.files.proofs.Laws.{makes_none, rules_make, rules-cut}
use Rattle.files.proofs.Lists.{made-known}
use borrow.Author.Rules.{rules}
use Rattle.files.proofs.held.made.Statement.{statement}
use Rattle.files.proofs.held.made.Tie as tie

version-of-requires : tie.Need-version_of-requires
version-of-requires c κs = search rules

slice-aggregate-result : tie.Need-slice_bounds-result-end
slice-aggregate-result c = search rules

returns : tie.Need-returns-then-version_of-lt3
unfolding words
returns c =
    let low = rw c.version_of.ensures at c.if-version_of-lt3.true in
    (sym (makes_none _ _ low), record { below = λ n i. absurd (Memᴰ.not-nil i); even = refl })

-- the model's rules are makers
makers : (c : tie.Else-version_of-lt3)
    → rule_kind_lem (get_or c.args.model.now 0 0) ≡ kind.Maker
makers c = rules_make _ (rw c.version_of.ensures at c.if-version_of-lt3.false)

list-of-requires : tie.Need-list_of-requires
unfolding AllCut list_count_lem rows
list-of-requires c κs =
    let rule = c.args.rule.now in
    let cut = rules-cut c.args.model.now c.requires.0 rule c.requires.1 in
    (subst (λ K. Cut K rule) (makers c) cut, lit< tt)

returns-2 : tie.Need-returns
unfolding rule_in
returns-2 c =
    let rule = c.args.rule.now in
    let these = c.list_of.result.now in
    let bytes = subst (λ (K : Kind). ListBytes K rule 3 these) (sym (makers c.before)) c.list_of.ensures in
    (bytes.facts, made-known c.args.model.now c.requires.0 rule c.requires.1 bytes)

pub made_spec : {M : Type 1} → statement M
made_spec = tie.close (tie.spec version-of-requires slice-aggregate-result returns list-of-requires returns-2)
