-- What the state refuses, else the state is closed.
use Rattle.std.proofs.lemmas.Result.{err_from_is_err_and}
use Rattle.std.proofs.Common.{sym}
use Rattle.closing.proofs.Alone.{fine-refused, fine-closed}
use Rattle.closing.proofs.close_known.Goals as goal

pub returns-in_err-known_facts : goal.returns-in_err-known_facts
returns-in_err-known_facts c =
    let p = err_from_is_err_and c.from_residual.result c.from_residual.ensures.1 in
    rw (p.1, p.2) (fine-refused _ _ _ _ (sym c.in_err-known_facts.ensures))

pub returns : goal.returns
returns c = fine-closed _ _ _ _ _ (sym c.in_ok-known_facts.ensures) c.close_swept.ensures
