-- The index is built, then the pair run by it.
use mathlib.Core.Path.{refl}
use Rattle.files.proofs.Traces.{fine_pair}
use Rattle.closing.proofs.Indexing.{cleared}
use Rattle.holding.proofs.run_built.Goals as goal

pub build_index-n-requires : goal.build_index-n-requires
build_index-n-requires c =
    let fine = fine_pair _ _ c.requires.0.fine in
    (fine.shape, fine.model-size, c.requires.1, cleared, refl)

pub run_for-requires : goal.run_for-requires
run_for-requires c =
    (c.requires.0, c.build_index-n.ensures.listed, c.build_index-n.ensures.placed, c.requires.2)
