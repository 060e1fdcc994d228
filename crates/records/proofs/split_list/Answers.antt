-- The list's numbers are the bytes behind its count, and what is behind them is left.
use Prim.Native.Nat.{◌*◌}
use mathlib.Core.Path.{◌≡◌}
use native.Mathlib.Omega.{arith}
use lib.Seq.{drop-drop}
use Rattle.records.specs.Words.{word}
use Rattle.records.proofs.Words.{word-take, word_small}
use Rattle.records.proofs.split_list.Goals as goal
use Rattle.records.proofs.split_list.Goals.{After-word_at-size}

pub overflow_mul-size : goal.overflow_mul-size
overflow_mul-size c =
    let bytes = c.args.bytes.now in
    let is = rw (c.in_ok-count.ensures.cases.0, word-take bytes) at c.word_at-size.ensures in
    omega (arith, is, word_small bytes 0 c.type_inv.bytes)

pub returns-then-size-rest : goal.returns-then-size-rest
returns-then-size-rest c =
    let bytes = c.args.bytes.now in
    let cases = c.in_ok-count.ensures.cases in
    let is = rw (cases.0, word-take bytes) at c.word_at-size.ensures in
    let size : c.word_at-size.result * 2 ≡ 2 * word bytes = omega (arith, is) in (
      omega (arith, cases.2, c.if-size-rest.true, size),
      rw (c.split_at.ensures.front, cases.1, size),
      rw (c.split_at.ensures.back, cases.1, size) (drop-drop (2 * word bytes) 2 bytes),
    )

pub returns-else-size-rest : goal.returns-else-size-rest
returns-else-size-rest c =
    let bytes = c.args.bytes.now in
    let cases = c.in_ok-count.ensures.cases in
    let is = rw (cases.0, word-take bytes) at c.word_at-size.ensures in
    omega (arith, cases.2, c.if-size-rest.false, is)
