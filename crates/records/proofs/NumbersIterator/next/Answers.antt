-- The next number is the first two bytes, and the rest is behind them.
use Rattle.std.proofs.Common.{rules}
use mathlib.Core.Path.{◌∙◌}
use native.Mathlib.Omega.{arith}
use Rattle.records.proofs.Words.{words-two, words-none, word-take}
use Rattle.records.proofs.NumbersIterator.next.Goals as goal

pub returns-in_err-number-clause-steps : goal.returns-in_err-number-clause-steps
returns-in_err-number-clause-steps c =
    let none = words-none c.args.self.now.0.now c.in_err-number.ensures.cases in
    rw (c.from_residual.ensures) (none, none)

pub returns-clause-steps : goal.returns-clause-steps
returns-clause-steps c =
    let cases = c.in_ok-number.ensures.cases in
    words-two c.args.self.now.0.now (omega (arith, cases.2))
    ∙ rw (c.word_at.ensures, cases.0, cases.1, word-take c.args.self.now.0.now)

pub returns-clause-goes : goal.returns-clause-goes
returns-clause-goes c = record {
  on = λ finite. search (rules, returns-clause-steps c);
  keeps = search rules;
  rests = search rules;
}
