-- The body is the bytes behind the length, and what is behind them is left.
use native.Mathlib.Omega.{arith}
use lib.Seq.{drop-drop}
use Rattle.records.specs.Words.{word}
use Rattle.records.proofs.Words.{word-take}
use Rattle.records.proofs.split_body.Goals as goal

pub returns-then-size-rest : goal.returns-then-size-rest
returns-then-size-rest c =
    let bytes = c.args.bytes.now in
    let cases = c.in_ok-size.ensures.cases in
    let is = rw (cases.0, word-take bytes) at c.word_at-size.ensures in (
      omega (arith, cases.2, c.if-size-rest.true, is),
      rw (c.split_at.ensures.front, cases.1, is),
      rw (c.split_at.ensures.back, cases.1, is) (drop-drop (word bytes) 2 bytes),
    )

pub returns-else-size-rest : goal.returns-else-size-rest
returns-else-size-rest c =
    let bytes = c.args.bytes.now in
    let cases = c.in_ok-size.ensures.cases in
    let is = rw (cases.0, word-take bytes) at c.word_at-size.ensures in
    omega (arith, cases.2, c.if-size-rest.false, is)
