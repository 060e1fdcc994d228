-- A byte's entries are written where it has facts, and stay where it has none.
use Rattle.std.proofs.Common.{◌≡◌, ◌<◌, get_or, take, arith}
use lib.ListN.{length-take}
use Rattle.std.proofs.lemmas.List.{get_or-take}
use Rattle.closing.proofs.Starting.{begun-clear, begun-all, begun-some, begun-none}
use Rattle.closing.proofs.start.Goals as goal
use Rattle.closing.proofs.start.Goals.{then-byte-gt0, else-byte-gt0}

pub loop-i-init : goal.loop-i-init
loop-i-init c = begun-clear c.clear.ensures

pub loop-i-preserved : goal.loop-i-preserved
loop-i-preserved c =
    let i = c.loop-i.i in
    let state = c.args.state.now in
    let long = length-take c.min.result state in
    let in-time : i < 512 = omega (arith, c.min.ensures) in
    let byte : get_or (take c.min.result state) i 0 ≡ get_or state i 0 =
    get_or-take c.min.result state i 0 (omega (arith, long)) in
    elim c.if-byte-gt0.branch [
      | then-byte-gt0 w ↦
          rw w.table-is
          (begun-some i c.loop-i.invariant in-time _ _ (omega arith)
          (omega (arith, c.loop-i.invariant.as_long, c.requires)) w.start_byte.auto.eight
          (rw byte at w.start_byte.ensures))
      | else-byte-gt0 w ↦
          rw w.table-is (begun-none i c.loop-i.invariant in-time (omega (arith, byte, w.if-byte-gt0.false)))
    ]

pub returns : goal.returns
returns c =
    begun-all c.loop-i.i c.loop-i.invariant
    (omega (arith, c.loop-i-test.false, c.min.ensures, length-take c.min.result c.args.state.now))
