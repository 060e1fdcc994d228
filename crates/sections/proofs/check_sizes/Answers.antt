-- The tests are those of the sizes.
use borrow.Author.Tests.{lt-ltb, le-ltb, eq-eqb, ne_eqb}
use Rattle.records.specs.Records.{given, ◌or_else◌}
use Rattle.sections.specs.Sections.{sizes}
use Rattle.sections.proofs.check_sizes.Goals as goal

pub returns-then-bytes-ne2 : goal.returns-then-bytes-ne2
unfolding sizes given ◌or_else◌
returns-then-bytes-ne2 c = rw (ne_eqb _ _ c.if-bytes-ne2.true)

pub returns-then-word_at-gt4096 : goal.returns-then-word_at-gt4096
unfolding sizes given ◌or_else◌
returns-then-word_at-gt4096 c =
    rw (eq-eqb _ _ c.if-bytes-ne2.false, lt-ltb _ _ (rw c.word_at.ensures at c.if-word_at-gt4096.true))

pub returns : goal.returns
unfolding sizes given ◌or_else◌
returns c = rw (eq-eqb _ _ c.if-bytes-ne2.false, le-ltb _ _ (rw c.word_at.ensures at c.if-word_at-gt4096.false))
