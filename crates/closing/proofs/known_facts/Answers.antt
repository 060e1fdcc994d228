-- A bit from F on is what refuses.
use Rattle.std.proofs.Common.{sym, ◌∙◌}
use Rattle.records.specs.Records.{given}
use Rattle.closing.proofs.Alone.{from-is}
use Rattle.closing.proofs.known_facts.Goals as goal

pub returns-then-any_from : goal.returns-then-any_from
unfolding given
returns-then-any_from c = rw (sym (from-is _ _ _ _ c.any_from.ensures c.facts.ensures) ∙ c.if-any_from.true)

pub returns : goal.returns
unfolding given
returns c = rw (sym (from-is _ _ _ _ c.any_from.ensures c.facts.ensures) ∙ c.if-any_from.false)
