-- `cantivorex_check` meets its contract: the room for the verdict, then the verdict.
use Rattle.std.proofs.Common.{arith}
use Rattle.exports.proofs.Answers.{no_verdict, some-verdict}
use Rattle.exports.proofs.cantivorex_check.Goals as goal

pub returns-then-out-lt-VALUES : goal.returns-then-out-lt-VALUES
returns-then-out-lt-VALUES c =
    no_verdict c.args.model.now c.args.trace.now _ c.args.out.now (omega arith)

pub returns : goal.returns
returns c =
    some-verdict c.args.model.now c.args.trace.now _ _ c.args.out.now _ _ (omega arith) c.check-v.ensures
    c.put_verdict.ensures
