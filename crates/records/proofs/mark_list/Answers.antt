-- What was seen of the list is what its row asks.
use mathlib.Core.Path.{◌∙◌}
use Rattle.records.specs.Marking.{marked_by}
use Rattle.records.proofs.Words.{length-words}
use Rattle.records.proofs.mark_list.Goals as goal

pub returns : goal.returns
unfolding marked_by
returns c =
    let seen = c.look-seen.ensures in
    c.mark.ensures ∙ rw (← length-words, seen.0, seen.1)
