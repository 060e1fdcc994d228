-- The goal's number is the first entry.
use Rattle.std.proofs.Common.{sym, ap, ◌∙◌}
use Rattle.records.specs.Words.{word}
use Rattle.files.proofs.Traces.{goal-entry}
use Rattle.reaching.proofs.goal_of.Goals as goal

pub returns : goal.returns
returns c = c.word_at.ensures ∙ ap word c.entries.ensures ∙ sym (goal-entry _)
