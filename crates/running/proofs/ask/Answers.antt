-- Without codes the goal is an attack state, with some a formula: what its value says, whatever history is kept.
use Rattle.std.proofs.Common.{◌≡◌, ◌<◌, ◌≤◌, [], length, sym, ap, ◌∙◌, arith, rules}
use mathlib.Core.Bool.{Bool, cond}
use borrow.Author.Tests.{eqb-false}
use Rattle.meaning.specs.Run.Ending.{attack, upheld}
use Rattle.files.proofs.Formulas.{codes-state}
use Rattle.running.specs.Running.{ending_of}
use Rattle.reaching.proofs.Aiming.{asked-alone, asked-formula}
use Rattle.running.proofs.ask.Goals as goal

pub ask_state-requires : goal.ask_state-requires
ask_state-requires c =
    let empty : length c.args.codes.now ≡ 0 = search rules in
    let none : length c.args.codes.now ≤ 0 = omega (arith, empty) in
    (c.requires.0, c.requires.1, codes-state c.requires.2 none)

pub returns-then-is_empty : goal.returns-then-is_empty
returns-then-is_empty c =
    let empty : length c.args.codes.now ≡ 0 = search rules in
    let none : length c.args.codes.now ≤ 0 = omega (arith, empty) in
    λ h k. c.ask_state.ensures ∙ asked-alone _ _ c.requires.2 none _ _ [] h

pub returns-then-advance : goal.returns-then-advance
unfolding ending_of
returns-then-advance c =
    let filled = eqb-false _ 0 (sym c.is_empty.ensures ∙ c.if-is_empty.false) in
    let some : 0 < length c.args.codes.now = omega (arith, filled) in
    λ h k.
    ap (λ (b : Bool). cond b upheld attack) (sym c.if-advance.true)
    ∙ sym (asked-formula _ _ c.requires.2 some _ h k c.advance.ensures)

pub returns-else-advance : goal.returns-else-advance
unfolding ending_of
returns-else-advance c =
    let filled = eqb-false _ 0 (sym c.is_empty.ensures ∙ c.if-is_empty.false) in
    let some : 0 < length c.args.codes.now = omega (arith, filled) in
    λ h k.
    ap (λ (b : Bool). cond b upheld attack) (sym c.if-advance.false)
    ∙ sym (asked-formula _ _ c.requires.2 some _ h k c.advance.ensures)
