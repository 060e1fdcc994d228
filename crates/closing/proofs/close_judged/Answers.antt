-- Both ways keep the one promise.
use native.Mathlib.Omega.{arith}
use Rattle.closing.proofs.Ways.{index_lent, works-whole}
use Rattle.closing.proofs.close_judged.Goals as goal

pub close_worked-requires : goal.close_worked-requires
close_worked-requires c =
    let lent = index_lent c.requires.2 (omega (arith, c.if-index-le-FEW.false)) in
    (c.requires.0, c.requires.1, lent.0, lent.1)

pub returns : goal.returns
returns c =
    let whole = works-whole c.args.model.now c.args.state.now c.requires.0 c.close_worked.ensures in
    record {
      number = whole.rounds;
      filled = record { as_long = whole.as_long; entries = whole.entries; beyond = whole.beyond };
    }
