-- `cantivorex_count` meets its contract: the room for the figures, then what the model is.
use Rattle.std.proofs.Common.{arith}
use mathlib.Core.Path.{ap}
use Rattle.records.specs.Refusals.{told}
use Rattle.records.proofs.Laws.{told_ok}
use Rattle.files.proofs.Traces.{fine-shape}
use Rattle.exports.proofs.Answers.{no_figures, some-figures, no_model}
use Rattle.exports.proofs.cantivorex_count.Goals as goal

pub returns-then-out-lt4 : goal.returns-then-out-lt4
returns-then-out-lt4 c =
    no_figures c.args.model.now c.args.out.now (omega arith)

pub facts-requires : goal.facts-requires
facts-requires c =
    fine-shape _ (told_ok _ _ _ c.in-Ok.ensures).0

pub returns-in-Ok : goal.returns-in-Ok
returns-in-Ok c =
    some-figures c.args.model.now c.args.out.now _ (omega arith) c.judge_model.ensures _ _ _ (ap told c.in-Ok.is)
    c.facts.ensures c.put_figures.ensures

pub returns-in-Err : goal.returns-in-Err
returns-in-Err c =
    rw (c.number.ensures)
    (no_model c.args.model.now c.args.out.now _ (omega arith) c.judge_model.ensures _ (ap told c.in-Err.is))
