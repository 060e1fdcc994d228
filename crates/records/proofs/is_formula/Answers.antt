-- The operators above are those behind the codes that were passed.
use mathlib.Core.Path.{refl, sym, ◌∙◌}
use mathlib.Core.List.{[]}
use mathlib.Core.Option.{some}
use Rattle.records.specs.Words.{words}
use Rattle.records.specs.Above.{bits_of}
use Rattle.records.proofs.Codes.{left-start, left_end, left-stops, stops-not, left-next}
use Rattle.records.proofs.is_formula.Goals as goal

pub loop-code-init : goal.loop-code-init
unfolding bits_of
loop-code-init c = record {
  operators = some [];
  number = refl;
  same = rw (c.into_iter-code-iterator.ensures.into_iter_gives) (left-start _);
}

pub returns-then-above-code : goal.returns-then-above-code
returns-then-above-code c =
    let come = c.loop-code.invariant in
    sym (come.same
    ∙ rw (c.in-Some.ensures.steps) (left-stops come.operators _ _ (rw come.number at c.if-above-code.true)))

pub pass-above-requires : goal.pass-above-requires
pass-above-requires c = (stops-not _ c.in-Some.code c.if-above-code.false).0

pub loop-code-preserved : goal.loop-code-preserved
loop-code-preserved c =
    let come = c.loop-code.invariant in
    let stays = rw come.number at c.if-above-code.false in
    let is = rw come.number at c.pass-above.ensures in
    let (operators, number, later) = left-next come.operators _ (words c.next.new.self.0.now) stays _ is in
    record { operators = operators; number = number; same = come.same ∙ rw (c.in-Some.ensures.steps) later }

pub returns : goal.returns
returns c =
    let come = c.loop-code.invariant in
    sym (come.same ∙ rw (c.in-None.ensures.steps.0, come.number) (left_end come.operators))
