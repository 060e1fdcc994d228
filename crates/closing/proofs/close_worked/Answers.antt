use Rattle.closing.proofs.Ways.{workable, works}
use Rattle.closing.proofs.close_worked.Goals as goal

pub run-requires : goal.run-requires
run-requires c =
    workable c.args.model.now c.args.state.now c.requires.0 c.requires.1 c.start.ensures
    c.section.ensures c.requires.2 c.requires.3

pub returns : goal.returns
returns c =
    works c.args.model.now c.args.state.now c.requires.0 c.requires.1 c.start.ensures
    c.section.ensures c.run.ensures
