-- `rest` meets its contract.
use mathlib.Core.Path.{sym, ◌∙◌}
use Rattle.past.specs.Keeping.{left}
use Rattle.past.proofs.rest.Goals as goal

pub returns-then-over_one : goal.returns-then-over_one
unfolding left
returns-then-over_one c = rw (sym c.over_one.ensures ∙ c.if-over_one.true)

pub returns-else-over_one : goal.returns-else-over_one
unfolding left
returns-else-over_one c = rw (sym c.over_one.ensures ∙ c.if-over_one.false)
