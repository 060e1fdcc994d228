-- `Lists::nth` answers a condition of P, of N after those, or of the names after both.
use mathlib.Core.Path.{sym, ap, ◌∙◌}
use Rattle.meaning.specs.Run.Condition.{positive, negative, unused}
use Rattle.stepping.specs.Conditions.{condition_of}
use Rattle.stepping.proofs.Looking.{asks-positive, asks-negative, asks-unused}
use Rattle.stepping.proofs.conditions.Lists.nth.Goals as goal

pub returns-then-i-negative : goal.returns-then-i-negative
unfolding condition_of
returns-then-i-negative c =
    let args = c.args in
    ap positive c.word_at.ensures
    ∙ sym (asks-positive args.self.now.p.now args.self.now.n.now args.self.now.names.now args.i c.if-i-negative.true)

pub returns-then-i-unused : goal.returns-then-i-unused
unfolding condition_of
returns-then-i-unused c =
    let args = c.args in
    ap negative c.word_at-then-i-unused.ensures
    ∙ sym (asks-negative args.self.now.p.now args.self.now.n.now args.self.now.names.now args.i c.if-i-negative.false c.if-i-unused.true)

pub returns-else-i-unused : goal.returns-else-i-unused
unfolding condition_of
returns-else-i-unused c =
    let args = c.args in
    ap unused c.word_at-else-i-unused.ensures
    ∙ sym (asks-unused args.self.now.p.now args.self.now.n.now args.self.now.names.now args.i c.if-i-unused.false c.requires)
