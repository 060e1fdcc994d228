use Rattle.std.proofs.Common.{◌<◌, ◌∙◌, sym, arith}
use lib.ListN.{length-take}
use lib.Seq.{get_or-take}
use Rattle.worklist.proofs.Starting.{gathering_start, gathering_one, gathering_none, gathering_end}
use Rattle.worklist.proofs.Queue.gather.Goals as goal
use Rattle.worklist.proofs.Queue.gather.Goals.{then-round-eq0, else-round-eq0}

pub loop-f-init : goal.loop-f-init
loop-f-init c = gathering_start _ _ c.requires.1

pub bounds-self-n : goal.bounds-self-n
bounds-self-n c = omega (arith, length-take 4096 c.args.table.now)

pub loop-f-preserved : goal.loop-f-preserved
loop-f-preserved c =
    let low : c.loop-f.f < 4096 = omega (arith, length-take 4096 c.args.table.now) in
    let round = get_or-take 4096 c.args.table.now c.loop-f.f 0 low in
    elim c.if-round-eq0.branch [
      | then-round-eq0 w ↦ rw w.n-is (gathering_one c.loop-f.invariant low (sym round ∙ w.if-round-eq0.true))
      | else-round-eq0 w ↦
          rw w.n-is (gathering_none c.loop-f.invariant low (λ e. w.if-round-eq0.false (round ∙ e)))
    ]

pub returns : goal.returns
returns c = gathering_end c.loop-f.invariant (omega (arith, length-take 4096 c.args.table.now))
