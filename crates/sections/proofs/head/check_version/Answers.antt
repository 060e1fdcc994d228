-- The test is that of the fault, and an empty file has no first byte.
use lib.ListN.{length-take}
use Rattle.records.specs.Records.{given}
use Rattle.sections.specs.Sections.{wrong_version}
use Rattle.sections.proofs.head.check_version.Goals as goal

pub returns-then-version-latest : goal.returns-then-version-latest
unfolding wrong_version given
returns-then-version-latest c =
    rw (← c.version_of-version.ensures, c.if-version-latest.true, length-take, c.min.ensures)

pub returns : goal.returns
unfolding wrong_version given
returns c = rw (← c.version_of-version.ensures, c.if-version-latest.false)
