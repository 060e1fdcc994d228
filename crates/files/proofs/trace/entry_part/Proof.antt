-- `trace::entry_part` meets its contract.
use mathlib.Core.Path.{refl}
use Rattle.sections.specs.Sections.{section_at}
use Rattle.files.specs.Answers.{entry_part_lem}
use borrow.Author.Rules.{rules}
use Rattle.files.proofs.trace.entry_part.Statement.{statement}
use Rattle.files.proofs.trace.entry_part.Tie as tie

mul-t3 : tie.Need-overflow_mul-result
mul-t3 c = search rules

add-t4 : tie.Need-overflow_add-result
add-t4 c = search rules

returns : tie.Need-returns
unfolding entry_part_lem section_at
returns c = refl

pub entry_part_spec : {M : Type 1} → statement M
entry_part_spec = tie.close (tie.spec mul-t3 add-t4 returns)
