-- `records::mark` meets its contract.
use mathlib.Core.Path.{refl}
use Rattle.records.proofs.mark.Statement.{statement}
use Rattle.records.proofs.mark.Tie as tie

returns : tie.Need-returns
returns c = refl

pub mark_spec : {M : Type 1} → statement M
mark_spec = tie.close (tie.spec returns)
