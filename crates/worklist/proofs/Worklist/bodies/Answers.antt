use Rattle.std.proofs.Common.{◌≡◌, ◌-◌, ◌∙◌, length, ap, refl, drop, arith, rules}
use Rattle.std.specs.Iterator.Adapters.{enumerate_count}
use lib.ListN.{length-drop}
use lib.Seq.{drop-drop}
use Rattle.meaning.proofs.Places.{clause_in}
use Rattle.worklist.proofs.Clauses.{two-starts, clause-last}
use Rattle.worklist.proofs.Starting.{noted-start, noted-next, noted-end}
use Rattle.worklist.proofs.Worklist.bodies.Goals as goal

pub overflow_sub-body : goal.overflow_sub-body
overflow_sub-body c =
    let steps = c.in-Some.ensures.steps.0.1 in
    let two = two-starts _ c.requires.0 c.requires.1 c.loop-k.invariant.2 c.loop-k.invariant.3 steps.0 steps.1 in
    omega (arith, two.ends)

pub overflow_sub-body-in-loop-k : goal.overflow_sub-body-in-loop-k
overflow_sub-body-in-loop-k c =
    let steps = c.in-Some.ensures.steps.0.1 in
    let two = two-starts _ c.requires.0 c.requires.1 c.loop-k.invariant.2 c.loop-k.invariant.3 steps.0 steps.1 in
    omega (arith, two.ends)

pub overflow_cast-body : goal.overflow_cast-body
overflow_cast-body c =
    let steps = c.in-Some.ensures.steps.0.1 in
    let two = two-starts _ c.requires.0 c.requires.1 c.loop-k.invariant.2 c.loop-k.invariant.3 steps.0 steps.1 in
    omega (arith, two.ends, c.requires.2 _ (clause_in _ _ two.number))

pub loop-k-init : goal.loop-k-init
loop-k-init c =
    let none : enumerate_count c.into_iter-k-iterator.result ≡ 0 = search rules in (
      search rules,
      search rules,
      search rules,
      search rules,
      search rules,
      rw none (noted-start _ _ c.requires.4 c.requires.5),
      refl,
      refl,
    )

pub loop-k-preserved : goal.loop-k-preserved
loop-k-preserved c =
    let steps = c.in-Some.ensures.steps in
    let k = enumerate_count c.loop-k.k-iterator in
    let (next, finite, size, left, some, noted, facts, count) = c.loop-k.invariant in
    let two = two-starts _ c.requires.0 c.requires.1 size left steps.0.1.0 steps.0.1.1 in (
      search rules,
      search rules,
      steps.0.0 ∙ size,
      rw steps.2 (steps.0.1.2 ∙ ap (drop 1) left ∙ drop-drop 1 k c.args.clauses.starts.now),
      omega (arith, steps.2, two.more),
      rw (steps.2, steps.1)
          (noted-next noted two.number (omega (arith, two.more, c.requires.3)) (omega (arith, two.ends)) (omega arith)
          (omega arith)),
      facts,
      count,
    )

pub word_at-requires : goal.word_at-requires
word_at-requires c =
    let there = clause-last _ c.requires.0 c.requires.1 c.in-Some-last.ensures.item.3 in
    omega (arith, there.fits)

pub overflow_sub-body-2 : goal.overflow_sub-body-2
overflow_sub-body-2 c =
    let there = clause-last _ c.requires.0 c.requires.1 c.in-Some-last.ensures.item.3 in
    omega (arith, there.size, c.word_at.ensures)

pub overflow_cast-body-2 : goal.overflow_cast-body-2
overflow_cast-body-2 c =
    let there = clause-last _ c.requires.0 c.requires.1 c.in-Some-last.ensures.item.3 in
    let count = c.requires.1.count in
    let some = c.in-Some-last.ensures.item.3.0 in
    let short = c.requires.2 _ (clause_in _ (length c.args.clauses.starts.now - 1) (omega arith)) in
    omega (arith, there.size, c.word_at.ensures)

pub returns : goal.returns
returns c =
    let there = clause-last _ c.requires.0 c.requires.1 c.in-Some-last.ensures.item.3 in
    let clauses = c.requires.1.count in
    let some = c.in-Some-last.ensures.item.3.0 in
    let (next, finite, size, left, few, noted, facts, count) = c.loop-k.invariant in
    let k = enumerate_count c.loop-k.k-iterator in
    let starts = c.args.clauses.starts.now in
    let last : k ≡ length starts - 1 =
    omega (arith, c.in-None.ensures.steps.0.1.0, size, ap length left, length-drop k starts)
    in (
      noted-end
          (noted-next (rw last at noted) (omega arith) (omega (arith, c.requires.3))
          (omega (arith, there.size, c.word_at.ensures)) (omega arith) (omega arith))
          (omega arith),
      facts,
      count,
    )
