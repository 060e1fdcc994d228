-- The clauses at hand are the judged model's.
use Rattle.std.proofs.Common.{ℕ, List, subst}
use Rattle.files.specs.Files.{clauses_in, model_of_lem}
use Rattle.files.proofs.Laws.{clauses-cut}
use Rattle.closing.specs.Closing.{ClosesUnder}
use Rattle.closing.proofs.Alone.{bounded}
use Rattle.closing.proofs.close_swept.Goals as goal

pub close_clauses-requires : goal.close_clauses-requires
unfolding model_of_lem
close_clauses-requires c =
    let m = c.args.model.now in
    rw c.section.ensures (clauses-cut m c.requires.0, bounded m c.requires.0, c.requires.1)

pub returns : goal.returns
unfolding model_of_lem
returns c =
    let closed = c.close_clauses in
    subst (λ (l : List ℕ). ClosesUnder (clauses_in l) c.args.state.now c.args.table.now closed.new.table closed.result)
    c.section.ensures closed.ensures
