-- Each sweep makes the next round's numbers of the table, until one adds nothing.
use Rattle.std.proofs.Common.{add-one, arith}
use Rattle.facts.specs.Facts.{members}
use Rattle.files.specs.Files.{clauses_in}
use Rattle.closing.proofs.Rounds.{start-numbers, round_small, more_rounds, no-more_rounds, next-numbers, last-numbers}
use Rattle.closing.proofs.close_clauses.Goals as goal

pub loop-r-init : goal.loop-r-init
loop-r-init c = record { within = omega arith; holds = start-numbers _ _ c.start.ensures }

pub sweep-requires : goal.sweep-requires
sweep-requires c =
    let cs = clauses_in c.args.clauses.now in
    let S = members c.args.state.now in
    let inv = c.loop-r.invariant in
    let small = round_small cs S c.requires.1 c.loop-r.r inv.within inv.holds in
    (c.requires.0, c.requires.1, omega (arith, inv.holds.as_long, c.requires.2), omega (arith, small))

pub overflow_add-r : goal.overflow_add-r
overflow_add-r c =
    let cs = clauses_in c.args.clauses.now in
    let S = members c.args.state.now in
    let inv = c.loop-r.invariant in
    omega (arith, round_small cs S c.requires.1 c.loop-r.r inv.within inv.holds)

pub loop-r-smaller : goal.loop-r-smaller
loop-r-smaller c =
    let cs = clauses_in c.args.clauses.now in
    let S = members c.args.state.now in
    let inv = c.loop-r.invariant in
    omega (arith, more_rounds cs S c.requires.1 c.loop-r.r inv.within inv.holds c.sweep.ensures.0 c.loop-r-test.true)

pub loop-r-preserved : goal.loop-r-preserved
loop-r-preserved c =
    let cs = clauses_in c.args.clauses.now in
    let S = members c.args.state.now in
    let inv = c.loop-r.invariant in
    record {
      within =
          omega (
            arith,
            more_rounds cs S c.requires.1 c.loop-r.r inv.within inv.holds c.sweep.ensures.0 c.loop-r-test.true,
          );
      holds = rw add-one (next-numbers cs S c.requires.1 c.loop-r.r inv.within inv.holds c.sweep.ensures.1);
    }

pub overflow_cast-result : goal.overflow_cast-result
overflow_cast-result c =
    let cs = clauses_in c.args.clauses.now in
    let S = members c.args.state.now in
    let inv = c.loop-r.invariant in
    omega (arith, round_small cs S c.requires.1 c.loop-r.r inv.within inv.holds)

pub returns : goal.returns
returns c =
    let cs = clauses_in c.args.clauses.now in
    let S = members c.args.state.now in
    let inv = c.loop-r.invariant in
    record {
      number = no-more_rounds cs S c.requires.1 c.loop-r.r inv.within inv.holds c.sweep.ensures.0 c.loop-r-test.false;
      filled =
          last-numbers cs S c.requires.1 c.loop-r.r inv.within inv.holds c.sweep.ensures.0 c.loop-r-test.false
          (next-numbers cs S c.requires.1 c.loop-r.r inv.within inv.holds c.sweep.ensures.1);
    }
