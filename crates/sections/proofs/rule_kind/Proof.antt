-- `sections::rule_kind` meets its contract.
use borrow.Author.Tests.{lt-leb, le-leb}
use Rattle.sections.specs.Sections.{rule_kind_lem}
use Rattle.sections.proofs.rule_kind.Statement.{statement}
use Rattle.sections.proofs.rule_kind.Tie as tie

returns : tie.Need-returns-then-version-lt3
unfolding rule_kind_lem
returns c = rw (lt-leb 3 _ c.if-version-lt3.true)

returns-2 : tie.Need-returns-else-version-lt3
unfolding rule_kind_lem
returns-2 c = rw (le-leb 3 _ c.if-version-lt3.false)

pub rule_kind_spec : {M : Type 1} → statement M
rule_kind_spec = tie.close (tie.spec returns returns-2)
