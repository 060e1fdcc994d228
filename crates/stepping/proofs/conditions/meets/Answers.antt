-- `conditions::meets`: a known fact is in the closure where its entry is a number.
use Rattle.std.proofs.Common.{◌<◌, sym}
use Rattle.std.proofs.Math.Bool.{not-not}
use borrow.Author.Tests.{lt-ltb}
use Rattle.meaning.specs.Run.{met}
use Rattle.closing.specs.Closing.{numbered}
use Rattle.stepping.specs.Conditions.{condition_of, KnownIn}
use Rattle.stepping.proofs.conditions.meets.Goals as goal

pub returns-in-Positive : goal.returns-in-Positive
unfolding met numbered condition_of KnownIn
returns-in-Positive c =
    let small : c.in-Positive.f < 4096 = rw c.in-Positive.is at c.requires.0 in
    rw (c.in-Positive.is, lt-ltb _ _ small)

pub returns-in-Negative : goal.returns-in-Negative
unfolding met numbered condition_of KnownIn
returns-in-Negative c =
    let small : c.in-Negative.f < 4096 = rw c.in-Negative.is at c.requires.0 in
    rw (c.in-Negative.is, lt-ltb _ _ small) (sym (not-not _))

pub returns-in-Unused : goal.returns-in-Unused
unfolding met condition_of
returns-in-Unused c = rw (c.in-Unused.is, c.has.ensures)
