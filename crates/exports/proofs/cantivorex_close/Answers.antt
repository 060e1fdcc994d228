-- `cantivorex_close` meets its contract: the room for the rounds, then closing's answer.
use mathlib.Core.Path.{ap}
use Rattle.std.proofs.Common.{arith}
use Rattle.records.specs.Refusals.{numbered}
use Rattle.exports.proofs.Answers.{no_rounds, some-rounds, refused}
use Rattle.exports.proofs.cantivorex_close.Goals as goal

pub returns-then-out-lt1 : goal.returns-then-out-lt1
returns-then-out-lt1 c =
    no_rounds c.args.model.now c.args.state.now c.args.table.now c.args.out.now (omega arith)

pub returns-in-Ok : goal.returns-in-Ok
returns-in-Ok c =
    some-rounds c.args.model.now c.args.state.now c.args.table.now _ c.args.out.now _ _ (omega arith)
    c.close.ensures (ap numbered c.in-Ok.is)

pub returns-in-Err : goal.returns-in-Err
returns-in-Err c =
    rw (c.number.ensures)
    (refused c.args.model.now c.args.state.now c.args.table.now _ c.args.out.now _ _ (omega arith)
    c.close.ensures (ap numbered c.in-Err.is))
