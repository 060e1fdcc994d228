-- The body places are counted from the section's bytes.
use Rattle.files.specs.Files.{model_of_lem}
use Rattle.files.proofs.Laws.{clauses-cut}
use Rattle.closing.specs.Closing.{no_places_lem}
use Rattle.closing.proofs.no_places.Goals as goal

pub places-requires : goal.places-requires
unfolding model_of_lem
places-requires c = rw c.section.ensures (clauses-cut c.args.model.now c.requires.0, c.requires.1)

pub returns : goal.returns
unfolding no_places_lem model_of_lem
returns c = rw (c.places.ensures, c.section.ensures)
