use Rattle.std.proofs.Common.{◌∙◌, arith}
use Rattle.worklist.proofs.Clauses.{clause-there}
use Rattle.worklist.proofs.Section.head.Goals as goal

pub word_at-requires : goal.word_at-requires
word_at-requires c = omega (arith, (clause-there _ c.requires.0 c.requires.1 _ c.requires.2).fits)

pub returns : goal.returns
returns c = c.word_at.ensures ∙ (clause-there _ c.requires.0 c.requires.1 _ c.requires.2).head
