-- What stands at the start of what is left is a clause, and does to the table what the clause does.
use Rattle.std.proofs.Common.{sym, ap, ◌∙◌, arith, map}
use borrow.Author.Tests.{eqb-true}
use Rattle.records.proofs.Sections.{rest_of, records_empty}
use Rattle.files.specs.Files.{clause_of, clauses_in}
use Rattle.closing.proofs.Clauses.{clause-fits, clause-first, head-is, body_stands}
use Rattle.closing.proofs.Sweeps.{sweep-skip, sweep_fail, sweep-fire, sweep-end}
use Rattle.closing.proofs.sweep.Goals as goal
use Rattle.closing.proofs.sweep.Goals.{else-table-head-via-then-table-head+else-stands}
use Rattle.closing.proofs.sweep.Goals.{else-table-head-via-else-table-head}

pub word_at-requires : goal.word_at-requires
word_at-requires c =
    let inv = c.loop-rest.invariant in
    omega (arith, clause-fits c.loop-rest.rest.now c.loop-rest-test.ensures inv.cut)

pub overflow_add-word_at : goal.overflow_add-word_at
overflow_add-word_at c =
    let inv = c.loop-rest.invariant in
    omega (arith, clause-fits c.loop-rest.rest.now c.loop-rest-test.ensures inv.cut, c.word_at.ensures)

pub split_at-requires : goal.split_at-requires
split_at-requires c =
    let inv = c.loop-rest.invariant in
    omega (arith, clause-fits c.loop-rest.rest.now c.loop-rest-test.ensures inv.cut, c.word_at.ensures)

pub word_at-head-requires : goal.word_at-head-requires
word_at-head-requires c =
    let inv = c.loop-rest.invariant in
    let f = clause-first c.loop-rest.rest.now c.loop-rest-test.ensures inv.cut inv.bounded _ c.word_at.ensures
    c.split_at.ensures.front c.split_at.ensures.back in
    f.long

pub offset_bounds-table-head : goal.offset_bounds-table-head
offset_bounds-table-head c =
    let inv = c.loop-rest.invariant in
    let f = clause-first c.loop-rest.rest.now c.loop-rest-test.ensures inv.cut inv.bounded _ c.word_at.ensures
    c.split_at.ensures.front c.split_at.ensures.back in
    omega (arith, f.head, c.word_at-head.ensures)

pub bounds-table-head : goal.bounds-table-head
bounds-table-head c =
    let inv = c.loop-rest.invariant in
    let f = clause-first c.loop-rest.rest.now c.loop-rest-test.ensures inv.cut inv.bounded _ c.word_at.ensures
    c.split_at.ensures.front c.split_at.ensures.back in
    omega (arith, f.head, c.word_at-head.ensures, inv.sweeping.as_long, c.requires.2)

pub slice_bounds-stands-count : goal.slice_bounds-stands-count
slice_bounds-stands-count c =
    let inv = c.loop-rest.invariant in
    let f = clause-first c.loop-rest.rest.now c.loop-rest-test.ensures inv.cut inv.bounded _ c.word_at.ensures
    c.split_at.ensures.front c.split_at.ensures.back in
    f.long

pub slice_bounds-stands-start : goal.slice_bounds-stands-start
slice_bounds-stands-start c =
    let inv = c.loop-rest.invariant in
    let f = clause-first c.loop-rest.rest.now c.loop-rest-test.ensures inv.cut inv.bounded _ c.word_at.ensures
    c.split_at.ensures.front c.split_at.ensures.back in
    f.long

pub stands-requires : goal.stands-requires
stands-requires c =
    let inv = c.loop-rest.invariant in
    let f = clause-first c.loop-rest.rest.now c.loop-rest-test.ensures inv.cut inv.bounded _ c.word_at.ensures
    c.split_at.ensures.front c.split_at.ensures.back in
    (rw (rest_of c.split_at.result.0.now 4) f.body, omega (arith, inv.sweeping.as_long, c.requires.2))

pub loop-rest-preserved-then-stands : goal.loop-rest-preserved-then-stands
loop-rest-preserved-then-stands c =
    let inv = c.loop-rest.invariant in
    let f = clause-first c.loop-rest.rest.now c.loop-rest-test.ensures inv.cut inv.bounded _ c.word_at.ensures
    c.split_at.ensures.front c.split_at.ensures.back in
    record {
      within = omega (arith, inv.within, c.split_at.ensures.back_len);
      cut = f.cut;
      bounded = f.bounded;
      sweeping =
          sweep-fire (clause_of c.split_at.result.0.now) (rw f.next at inv.sweeping) _
          (head-is _ _ c.word_at-head.ensures)
          (omega (arith, f.head, c.word_at-head.ensures, inv.sweeping.as_long, c.requires.2))
          (omega (arith, f.head, c.word_at-head.ensures)) c.requires.3 c.if-table-head.true
          (sym (body_stands _ _ _ c.stands.ensures) ∙ c.if-stands.true);
    }

pub loop-rest-preserved : goal.loop-rest-preserved
loop-rest-preserved c =
    let inv = c.loop-rest.invariant in
    let f = clause-first c.loop-rest.rest.now c.loop-rest-test.ensures inv.cut inv.bounded _ c.word_at.ensures
    c.split_at.ensures.front c.split_at.ensures.back in
    record {
      within = omega (arith, inv.within, c.split_at.ensures.back_len);
      cut = f.cut;
      bounded = f.bounded;
      sweeping = elim c.else-table-head.branch [
        | else-table-head-via-then-table-head+else-stands w ↦
            sweep_fail (clause_of c.split_at.result.0.now) (rw f.next at inv.sweeping)
            (sym (body_stands _ _ _ w.stands.ensures) ∙ w.if-stands.false)
        | else-table-head-via-else-table-head w ↦
            sweep-skip (clause_of c.split_at.result.0.now) (rw f.next at inv.sweeping) _
            (head-is _ _ c.word_at-head.ensures) w.if-table-head.false
      ];
    }

pub returns : goal.returns
unfolding clauses_in
returns c =
    let none = eqb-true _ _ (sym c.is_empty.ensures ∙ c.loop-rest-test.false) in
    let no_clause = ap (map clause_of) (records_empty c.loop-rest.rest.now none) in
    sweep-end (rw no_clause at c.loop-rest.invariant.sweeping)
