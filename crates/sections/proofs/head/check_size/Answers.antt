-- The test is that of the fault.
use borrow.Author.Tests.{lt-ltb, le-ltb}
use Rattle.records.specs.Records.{given}
use Rattle.sections.specs.Sections.{too_long}
use Rattle.sections.proofs.head.check_size.Goals as goal

pub returns-then-most-file : goal.returns-then-most-file
unfolding too_long given
returns-then-most-file c = rw (lt-ltb _ _ c.if-most-file.true)

pub returns : goal.returns
unfolding too_long given
returns c = rw (le-ltb _ _ c.if-most-file.false)
