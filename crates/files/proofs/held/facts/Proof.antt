-- `held::facts` meets its contract: F is the two bytes of the sizes.
use mathlib.Core.Path.{◌∙◌, ap}
use Rattle.records.specs.Words.{word}
use Rattle.files.specs.Files.{fact_count}
use Rattle.files.proofs.Laws.{sizes-two}
use borrow.Author.Rules.{rules}
use Rattle.files.proofs.held.facts.Statement.{statement}
use Rattle.files.proofs.held.facts.Tie as tie

section-requires : tie.Need-section-requires
section-requires c κs = search rules

word-at-requires : tie.Need-word_at-requires
word-at-requires c κs = rw c.section.ensures (sizes-two _ c.requires)

returns : tie.Need-returns
unfolding fact_count
returns c = c.word_at.ensures ∙ ap word c.section.ensures

pub facts_spec : {M : Type 1} → statement M
facts_spec = tie.close (tie.spec section-requires word-at-requires returns)
