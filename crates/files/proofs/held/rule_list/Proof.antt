-- `held::rule_list` meets its contract: the record is cut as the rules of the model's version are.
use mathlib.Core.Path.{◌≡◌, ap, ◌∙◌}
use lib.ListN.{get_or}
use Rattle.sections.specs.Sections.{rule_kind_lem}
use Rattle.files.proofs.Laws.{three-lists}
use borrow.Author.Rules.{rules}
use Rattle.files.proofs.held.rule_list.Statement.{statement}
use Rattle.files.proofs.held.rule_list.Tie as tie

version-of-requires : tie.Need-version_of-requires
version-of-requires c κs = search rules

rule-kind-requires : tie.Need-rule_kind-requires
rule-kind-requires c κs = search rules

-- the kind at hand is that of the model's rules
kind-is : (c : tie.After-rule_kind)
    → c.rule_kind.result ≡ rule_kind_lem (get_or c.args.model.now 0 0)
kind-is c = c.rule_kind.ensures ∙ ap rule_kind_lem c.version_of.ensures

list-of-requires : tie.Need-list_of-requires
list-of-requires c κs =
    let (cut, few) = c.requires in
    (rw (kind-is c) cut, three-lists _ _ (kind-is c) few)

returns : tie.Need-returns
returns c = rw (kind-is c.before) at c.list_of.ensures

pub rule_list_spec : {M : Type 1} → statement M
rule_list_spec = tie.close (tie.spec version-of-requires rule-kind-requires list-of-requires returns)
