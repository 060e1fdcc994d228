-- Each role has its reader.
use mathlib.Core.Path.{◌∙◌}
use Rattle.sections.specs.Sections.{reader, entries}
use Rattle.sections.proofs.read.Goals as goal

pub returns-in-Sizes : goal.returns-in-Sizes
unfolding reader entries
returns-in-Sizes c = c.whole.ensures ∙ rw (c.in-Sizes.is, c.check_sizes.ensures)

pub returns-in-Initial : goal.returns-in-Initial
unfolding reader entries
returns-in-Initial c = c.whole-in-Initial.ensures ∙ rw (c.in-Initial.is, c.check_numbers.ensures)

pub returns-in-Persistent : goal.returns-in-Persistent
unfolding reader entries
returns-in-Persistent c = c.whole-in-Persistent.ensures ∙ rw (c.in-Persistent.is, c.check_numbers-in-Persistent.ensures)

pub returns-in-Names : goal.returns-in-Names
unfolding reader entries
returns-in-Names c = c.whole-in-Names.ensures ∙ rw (c.in-Names.is, c.check_numbers-in-Names.ensures)

pub returns-in-Clauses : goal.returns-in-Clauses
unfolding reader entries
returns-in-Clauses c = c.first_fault.ensures ∙ rw (c.in-Clauses.is)

pub returns-in-Rules : goal.returns-in-Rules
unfolding reader entries
returns-in-Rules c = c.first_fault-in-Rules.ensures ∙ rw (c.in-Rules.is, c.rule_kind.ensures)

pub returns-in-Goals : goal.returns-in-Goals
unfolding reader entries
returns-in-Goals c = c.first_fault-in-Goals.ensures ∙ rw (c.in-Goals.is)

pub returns-in-Formulas : goal.returns-in-Formulas
unfolding reader entries
returns-in-Formulas c = c.first_fault-in-Formulas.ensures ∙ rw (c.in-Formulas.is)
