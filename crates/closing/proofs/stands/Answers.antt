-- Each chunk is the two facts from its place on; one fact is left after them, or none.
use Rattle.std.proofs.Common.{ℕ, ◌*◌, List, sym, ap, ◌∙◌, arith}
use borrow.Author.Tests.{eqb-true, eqb-false}
use Rattle.records.specs.Words.{word}
use Rattle.closing.specs.Sweep.{up_to}
use Rattle.closing.proofs.Bodies.{pair-at, low, low_pair, low-after-pair, pair_stands, none-left, one_left, last-at}
use Rattle.closing.proofs.stands.Goals as goal

pub fact_stands-requires : goal.fact_stands-requires
fact_stands-requires c =
    let p = pair-at c.args.body.now c.as_chunks.result.0.now c.loop-pair.pair-index c.as_chunks.ensures.front
    (omega (arith, c.as_chunks.ensures.front_len)) in
    (omega (arith, p.long), (low_pair p c.loop-pair.invariant.low).0, c.requires.1)

pub fact_stands-requires-in-loop-pair : goal.fact_stands-requires-in-loop-pair
fact_stands-requires-in-loop-pair c =
    let p = pair-at c.args.body.now c.as_chunks.result.0.now c.loop-pair.pair-index c.as_chunks.ensures.front
    (omega (arith, c.as_chunks.ensures.front_len)) in
    (omega (arith, p.long), (low_pair p c.loop-pair.invariant.low).1, c.requires.1)

pub returns-then-not-fact_stands : goal.returns-then-not-fact_stands
returns-then-not-fact_stands c =
    let p = pair-at c.args.body.now c.as_chunks.result.0.now c.loop-pair.pair-index c.as_chunks.ensures.front
    (omega (arith, c.as_chunks.ensures.front_len)) in
    let X = up_to c.args.table.now c.args.r in
    let e = pair_stands p X _ _ c.fact_stands.ensures c.fact_stands-in-loop-pair.ensures in
    let t = c.if-not-fact_stands.true in
    sym (c.loop-pair.invariant.same ∙ rw t at e)

pub loop-pair-preserved : goal.loop-pair-preserved
loop-pair-preserved c =
    let p = pair-at c.args.body.now c.as_chunks.result.0.now c.loop-pair.pair-index c.as_chunks.ensures.front
    (omega (arith, c.as_chunks.ensures.front_len)) in
    let X = up_to c.args.table.now c.args.r in
    let e = pair_stands p X _ _ c.fact_stands.ensures c.fact_stands-in-loop-pair.ensures in
    let t = c.if-not-fact_stands.false in
    record { low = low-after-pair p c.loop-pair.invariant.low; same = c.loop-pair.invariant.same ∙ rw t at e }

pub fact_stands-requires-else-is_empty : goal.fact_stands-requires-else-is_empty
fact_stands-requires-else-is_empty c =
    let some = eqb-false _ _ (sym c.is_empty.ensures ∙ c.if-is_empty.false) in
    let l = last-at c.args.body.now c.as_chunks.result.1.now c.loop-pair.pair-index c.requires.0.even
    c.as_chunks.ensures.back c.as_chunks.ensures.back_len (omega (arith, c.as_chunks.ensures.front_len)) some in (
      omega (arith, c.as_chunks.ensures.back_len, l.1),
      rw l.0 (low c.args.body.now (4 * c.loop-pair.pair-index) (omega (arith, l.1)) c.loop-pair.invariant.low),
      c.requires.1,
    )

pub returns-then-is_empty : goal.returns-then-is_empty
returns-then-is_empty c =
    let none = eqb-true _ _ (sym c.is_empty.ensures ∙ c.if-is_empty.true) in
    c.if-is_empty.true
    ∙ sym (c.loop-pair.invariant.same
    ∙ none-left c.args.body.now (4 * c.loop-pair.pair-index) (up_to c.args.table.now c.args.r)
    (omega (arith, c.as_chunks.ensures.back_len, c.as_chunks.ensures.front_len, none)))

pub returns-else-is_empty : goal.returns-else-is_empty
returns-else-is_empty c =
    let some = eqb-false _ _ (sym c.is_empty.ensures ∙ c.if-is_empty.false) in
    let l = last-at c.args.body.now c.as_chunks.result.1.now c.loop-pair.pair-index c.requires.0.even
    c.as_chunks.ensures.back c.as_chunks.ensures.back_len (omega (arith, c.as_chunks.ensures.front_len)) some in
    let X = up_to c.args.table.now c.args.r in
    c.fact_stands-else-is_empty.ensures ∙ ap (λ (b : List ℕ). X (word b)) l.0
    ∙ sym (c.loop-pair.invariant.same ∙ one_left c.args.body.now (4 * c.loop-pair.pair-index) X l.1)
