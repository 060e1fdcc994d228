-- The model's first fault and counts are those from the section at hand on.
use Rattle.files.proofs.Order.{Onward}
use Rattle.files.proofs.model.judge_shape.Given as goal

abbrev pub invariant-loop-role : goal.invariant-loop-role
invariant-loop-role l = Onward l.model l.facts l.role-index l.at l.counts
