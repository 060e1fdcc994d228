-- Each version's sections are those of its case.
use native.Mathlib.Omega.{arith}
use borrow.Author.Tests.{le-leb, lt-leb}
use Rattle.files.specs.Files.{roles, since}
use Rattle.files.proofs.model.sections_of.Goals as goal

pub returns-then-version-lt2 : goal.returns-then-version-lt2
unfolding roles since
returns-then-version-lt2 c =
    let v = c.args.version in
    rw (
      lt-leb 2 v (omega (arith, c.if-version-lt2.true)),
      lt-leb 3 v (omega (arith, c.if-version-lt2.true)),
      lt-leb 4 v (omega (arith, c.if-version-lt2.true)),
    )

pub returns-then-version-lt3 : goal.returns-then-version-lt3
unfolding roles since
returns-then-version-lt3 c =
    let v = c.args.version in
    rw (
      le-leb 2 v (omega (arith, c.if-version-lt2.false)),
      lt-leb 3 v (omega (arith, c.if-version-lt3.true)),
      lt-leb 4 v (omega (arith, c.if-version-lt3.true)),
    )

pub returns-then-version-lt4 : goal.returns-then-version-lt4
unfolding roles since
returns-then-version-lt4 c =
    let v = c.args.version in
    rw (
      le-leb 2 v (omega (arith, c.if-version-lt2.false)),
      le-leb 3 v (omega (arith, c.if-version-lt3.false)),
      lt-leb 4 v (omega (arith, c.if-version-lt4.true)),
    )

pub returns-else-version-lt4 : goal.returns-else-version-lt4
unfolding roles since
returns-else-version-lt4 c =
    let v = c.args.version in
    rw (
      le-leb 2 v (omega (arith, c.if-version-lt2.false)),
      le-leb 3 v (omega (arith, c.if-version-lt3.false)),
      le-leb 4 v (omega (arith, c.if-version-lt4.false)),
    )
