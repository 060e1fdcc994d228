-- The index is of the judged model's clauses.
use borrow.Author.Tests.{ltb-false}
use Rattle.files.specs.Files.{model_of_lem}
use Rattle.indexing.proofs.Laws.{judged_indexable}
use Rattle.closing.specs.Closing.{no_places_lem}
use Rattle.closing.proofs.Indexing.{facts_below, builds}
use Rattle.closing.proofs.build_index.Goals as goal

pub build-requires : goal.build-requires
unfolding no_places_lem model_of_lem
build-requires c =
    let m = c.args.model.now in
    rw (c.section-clauses.ensures, c.facts-facts.ensures) (
      judged_indexable m c.requires.0 c.requires.1,
      facts_below m c.requires.0,
      ltb-false _ _ c.requires.2,
      c.requires.3,
      c.requires.4,
    )

pub returns : goal.returns
returns c =
    builds c.args.model.now c.requires.0 c.section-clauses.ensures c.build.ensures.0
    c.build.ensures.1
