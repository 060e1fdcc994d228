-- `held::names` meets its contract: the names are the numbers in their section.
use mathlib.Core.Path.{ap}
use Rattle.records.specs.Words.{words}
use Rattle.files.specs.Files.{model_of_lem}
use Rattle.files.proofs.Laws.{names-known}
use borrow.Author.Rules.{rules}
use Rattle.files.proofs.held.names.Statement.{statement}
use Rattle.files.proofs.held.names.Tie as tie

section-requires : tie.Need-section-requires
section-requires c κs = search rules

returns : tie.Need-returns
unfolding model_of_lem
returns c = (ap words c.section.ensures, rw c.section.ensures (names-known _ c.requires))

pub names_spec : {M : Type 1} → statement M
names_spec = tie.close (tie.spec section-requires returns)
