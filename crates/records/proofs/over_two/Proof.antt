-- `records::over_two` meets its contract.
use mathlib.Core.Bool.{or_assoc, or-false}
use Rattle.records.specs.Codes.{over_two_lem}
use Rattle.records.proofs.over_two.Statement.{statement}
use Rattle.records.proofs.over_two.Tie as tie

returns : tie.Need-returns
unfolding over_two_lem
returns c = simp (or_assoc, or-false)

pub over_two_spec : {M : Type 1} → statement M
over_two_spec = tie.close (tie.spec returns)
