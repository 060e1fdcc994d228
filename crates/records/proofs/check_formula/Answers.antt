-- The tests are those of the judge, in its order.
use borrow.Author.Tests.{eq-eqb, ne_eqb}
use Rattle.records.specs.Records.{given, ◌or_else◌}
use Rattle.records.specs.Marking.{judge_codes}
use Rattle.records.proofs.Words.{odd_is, length-words}
use Rattle.records.proofs.check_formula.Goals as goal

pub returns-then-codes-eq1 : goal.returns-then-codes-eq1
unfolding judge_codes given ◌or_else◌
returns-then-codes-eq1 c = rw (odd_is c.args.codes.now, eq-eqb _ _ c.if-codes-eq1.true)

pub returns-then-marks-codes : goal.returns-then-marks-codes
unfolding judge_codes given ◌or_else◌
returns-then-marks-codes c =
    rw (odd_is c.args.codes.now, ne_eqb _ _ c.if-codes-eq1.false, length-words c.args.codes.now, c.if-marks-codes.true)

pub returns-then-reaches : goal.returns-then-reaches
unfolding judge_codes given ◌or_else◌
returns-then-reaches c =
    rw (
      odd_is c.args.codes.now,
      ne_eqb _ _ c.if-codes-eq1.false,
      length-words c.args.codes.now,
      c.if-marks-codes.false,
      ← c.reaches.ensures,
      c.if-reaches.true,
    )

pub returns-then-is_formula : goal.returns-then-is_formula
unfolding judge_codes given ◌or_else◌
returns-then-is_formula c =
    rw (
      odd_is c.args.codes.now,
      ne_eqb _ _ c.if-codes-eq1.false,
      length-words c.args.codes.now,
      c.if-marks-codes.false,
      ← c.reaches.ensures,
      c.if-reaches.false,
      ← c.is_formula.ensures,
      c.if-is_formula.true,
    )

pub returns-else-is_formula : goal.returns-else-is_formula
unfolding judge_codes given ◌or_else◌
returns-else-is_formula c =
    rw (
      odd_is c.args.codes.now,
      ne_eqb _ _ c.if-codes-eq1.false,
      length-words c.args.codes.now,
      c.if-marks-codes.false,
      ← c.reaches.ensures,
      c.if-reaches.false,
      ← c.is_formula.ensures,
      c.if-is_formula.false,
    )
