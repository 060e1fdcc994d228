-- What the state refuses, else the index is built and taken.
use Rattle.std.proofs.Common.{refl}
use Rattle.std.proofs.lemmas.Result.{err_from_is_err_and}
use Rattle.std.proofs.Common.{sym}
use Rattle.closing.proofs.Ways.{works-whole}
use Rattle.closing.proofs.Indexing.{cleared, crosses_refused, crosses_worked}
use Rattle.closing.proofs.close_built.Goals as goal

pub returns-in_err-known_facts : goal.returns-in_err-known_facts
returns-in_err-known_facts c =
    let p = err_from_is_err_and c.from_residual.result c.from_residual.ensures.1 in
    rw (p.1, p.2) (crosses_refused _ _ _ _ _ _ (sym c.in_err-known_facts.ensures))

pub build_index-n-requires : goal.build_index-n-requires
build_index-n-requires c = (c.requires.0, c.requires.1, c.requires.3, cleared, refl)

pub returns : goal.returns
returns c =
    crosses_worked _ _ _ _ (sym c.in_ok-known_facts.ensures)
    (works-whole _ _ c.requires.0 c.close_worked.ensures) c.build_index-n.ensures.holds
