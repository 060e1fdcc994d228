-- `held::record` meets its contract: record k stands at its place.
use mathlib.Core.Path.{◌∙◌}
use Rattle.records.proofs.Places.{place-record}
use borrow.Author.Rules.{rules}
use Rattle.files.proofs.held.record.Statement.{statement}
use Rattle.files.proofs.held.record.Tie as tie

section-requires : tie.Need-section-bytes-requires
section-requires c κs = search rules

place-requires : tie.Need-place-requires
place-requires c κs = search rules

record-at-requires : tie.Need-record_at-requires
record-at-requires c κs = search rules

returns : tie.Need-returns
returns c =
    c.record_at.ensures
    ∙ rw (c.place.ensures, c.section-bytes.ensures)
    (place-record _ c.args.k c.requires.1)

pub record_spec : {M : Type 1} → statement M
record_spec = tie.close (tie.spec section-requires place-requires record-at-requires returns)
