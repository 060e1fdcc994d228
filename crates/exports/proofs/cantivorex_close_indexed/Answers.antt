-- `cantivorex_close_indexed` meets its contract: the room for rounds and crossings, then closing's answer.
use mathlib.Core.Path.{ap}
use Rattle.std.proofs.Common.{arith}
use Rattle.records.specs.Refusals.{numbered}
use Rattle.exports.proofs.Answers.{no_crossings, some-crossings, crossings-refused}
use Rattle.exports.proofs.cantivorex_close_indexed.Goals as goal

pub returns-then-out-lt2 : goal.returns-then-out-lt2
returns-then-out-lt2 c =
    no_crossings c.args.model.now c.args.state.now c.args.table.now c.args.index.now c.args.out.now (omega arith)

pub returns-in-Ok : goal.returns-in-Ok
returns-in-Ok c =
    some-crossings c.args.model.now c.args.state.now c.args.table.now c.args.index.now _ _ c.args.out.now _
    (omega arith) c.close_indexed.ensures _ (ap numbered c.in-Ok.is)

pub returns-in-Err : goal.returns-in-Err
returns-in-Err c =
    rw (c.number.ensures)
    (crossings-refused c.args.model.now c.args.state.now c.args.table.now c.args.index.now _ _ c.args.out.now _
    (omega arith) c.close_indexed.ensures _ (ap numbered c.in-Err.is))
