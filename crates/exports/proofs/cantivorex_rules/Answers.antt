-- `cantivorex_rules` meets its contract: the room for the count, then the rules that fire.
use mathlib.Core.Path.{ap}
use Rattle.std.proofs.Common.{arith}
use Rattle.records.specs.Refusals.{numbered}
use Rattle.exports.proofs.Answers.{no_count, some-count, rules-refused}
use Rattle.exports.proofs.cantivorex_rules.Goals as goal

pub returns-then-out-lt1 : goal.returns-then-out-lt1
returns-then-out-lt1 c =
    no_count c.args.model.now c.args.trace.now _ c.args.index.now c.args.list.now c.args.out.now (omega arith)

pub returns-in-Ok : goal.returns-in-Ok
returns-in-Ok c =
    some-count c.args.model.now c.args.trace.now _ c.args.index.now c.args.list.now _ _ _ c.args.out.now _ _
    (omega arith) c.rules.ensures (ap numbered c.in-Ok.is)

pub returns-in-Err : goal.returns-in-Err
returns-in-Err c =
    rw (c.number.ensures)
    (rules-refused c.args.model.now c.args.trace.now _ c.args.index.now c.args.list.now _ _ _ c.args.out.now _ _
    (omega arith) c.rules.ensures (ap numbered c.in-Err.is))
