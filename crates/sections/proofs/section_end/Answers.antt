-- The tests are those of `fits`, and what they pass ends within the file.
use native.Mathlib.Omega.{arith}
use Rattle.sections.specs.Sections.{end_at}
use Rattle.sections.proofs.Parts.{within-fits, beyond-fits}
use Rattle.sections.proofs.section_end.Goals as goal
use Rattle.sections.proofs.section_end.Goals.{then-file-at-via-then-file-at, then-file-at-via-else-file-at+then-file-at-lt4}

pub returns-then-file-at : goal.returns-then-file-at
returns-then-file-at c =
    beyond-fits c.args.file.now c.args.at
    (elim c.then-file-at.branch [
      | then-file-at-via-then-file-at w ↦ omega (arith, w.if-file-at.true)
      | then-file-at-via-else-file-at+then-file-at-lt4 w ↦ omega (arith, w.if-file-at.false, w.if-file-at-lt4.true)
    ])

pub returns-then-file-start : goal.returns-then-file-start
returns-then-file-start c =
    beyond-fits c.args.file.now c.args.at (omega (arith, c.if-file-start.true, c.long_at-size.ensures))

pub returns : goal.returns
unfolding end_at
returns c = (
  within-fits c.args.file.now c.args.at (omega (arith, c.if-file-start.false, c.long_at-size.ensures)),
  omega (arith, c.long_at-size.ensures),
)
