-- `stands` meets its contract: only facts below 4,096 have a number.
use borrow.Author.Tests.{lt-ltb, le-ltb}
use Rattle.closing.specs.Closing.{numbered}
use Rattle.past.proofs.stands.Goals as goal

pub returns-then-fact-lt4096 : goal.returns-then-fact-lt4096
unfolding numbered
returns-then-fact-lt4096 c = rw (lt-ltb _ _ c.if-fact-lt4096.true)

pub returns-else-fact-lt4096 : goal.returns-else-fact-lt4096
unfolding numbered
returns-else-fact-lt4096 c = rw (le-ltb _ _ c.if-fact-lt4096.false)
