-- The trace is judged in document 01's order.
use mathlib.Core.Logic.{inl, inr}
use native.Mathlib.Omega.{arith}
use Prim.Native.Nat.{◌-◌}
use lib.ListN.{take, drop}
use borrow.Author.Tests.{eq-eqb, ne_eqb}
use Rattle.sections.proofs.Parts.{fits-ended, ended-bytes}
use Rattle.files.proofs.Entries.{Counted, answer-unfit, answer-shape, answer-left, answer-count, answer-name, answer-fine}
use Rattle.files.proofs.trace.judge_trace.Goals as goal
use Rattle.files.proofs.trace.judge_trace.Goals.{then-size-lt2-via-then-size-lt2, then-size-lt2-via-else-size-lt2+then-size-eq1}

pub returns-in_default : goal.returns-in_default
returns-in_default c = rw (c.rest_fault.ensures) (answer-unfit _ _ _ c.in_default.ensures)

pub slice_bounds-entries-count : goal.slice_bounds-entries-count
slice_bounds-entries-count c = (fits-ended _ 1 _ c.in-Some.ensures).start

pub slice_bounds-entries-start : goal.slice_bounds-entries-start
slice_bounds-entries-start c = let e = fits-ended _ 1 _ c.in-Some.ensures in omega (arith, e)

pub slice_bounds-entries-end : goal.slice_bounds-entries-end
slice_bounds-entries-end c = let e = fits-ended _ 1 _ c.in-Some.ensures in omega (arith, e)

pub returns-then-size-lt2 : goal.returns-then-size-lt2
returns-then-size-lt2 c =
    let e = fits-ended _ 1 _ c.in-Some.ensures in
    answer-shape _ _ _ _ e _ (ended-bytes _ 1 _ e)
    (elim c.then-size-lt2.branch [
      | then-size-lt2-via-then-size-lt2 w ↦ inl w.if-size-lt2.true
      | then-size-lt2-via-else-size-lt2+then-size-eq1 w ↦ inr (eq-eqb _ _ w.if-size-eq1.true)
    ])

pub returns-then-end-trace : goal.returns-then-end-trace
returns-then-end-trace c =
    let e = fits-ended _ 1 _ c.in-Some.ensures in
    rw (c.rest_fault-then-end-trace.ensures)
    (answer-left _ _ _ _ e _ (ended-bytes _ 1 _ e) c.if-size-lt2.false (ne_eqb _ _ c.if-size-eq1.false)
    c.if-end-trace.true)

pub returns-then-steps-gt1024 : goal.returns-then-steps-gt1024
returns-then-steps-gt1024 c =
    let e = fits-ended _ 1 _ c.in-Some.ensures in
    answer-count _ _ _ _ e _ (ended-bytes _ 1 _ e) c.if-size-lt2.false (ne_eqb _ _ c.if-size-eq1.false)
    c.if-end-trace.false c.if-steps-gt1024.true

pub returns-then-at-size : goal.returns-then-at-size
returns-then-at-size c =
    let e = fits-ended _ 1 _ c.in-Some.ensures in
    let counted : Counted c.args.trace.now c.in-Some.end (take (c.in-Some.end - 5) (drop 5 c.args.trace.now)) = record {
      ended = e;
      entries = ended-bytes _ 1 _ e;
      long = c.if-size-lt2.false;
      even = ne_eqb _ _ c.if-size-eq1.false;
      done = c.if-end-trace.false;
      few = c.if-steps-gt1024.false;
    } in
    answer-name _ _ counted c.lacking-at.ensures c.if-at-size.true

pub returns : goal.returns
returns c =
    let e = fits-ended _ 1 _ c.in-Some.ensures in
    let counted : Counted c.args.trace.now c.in-Some.end (take (c.in-Some.end - 5) (drop 5 c.args.trace.now)) = record {
      ended = e;
      entries = ended-bytes _ 1 _ e;
      long = c.if-size-lt2.false;
      even = ne_eqb _ _ c.if-size-eq1.false;
      done = c.if-end-trace.false;
      few = c.if-steps-gt1024.false;
    } in
    answer-fine _ _ counted c.lacking-at.ensures c.if-at-size.false
