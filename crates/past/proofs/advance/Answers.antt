-- `advance` meets its contract.
use Prim.Native.Nat.{suc, ◌-◌}
use mathlib.Core.Path.{◌≡◌}
use native.Mathlib.Omega.{arith}
use Rattle.past.specs.Keeping.{top}
use Rattle.past.proofs.Bits.{passed_none, passed-more, passed-all}
use Rattle.past.proofs.advance.Goals as goal

pub loop-i-init : goal.loop-i-init
loop-i-init c = passed_none c.args.codes.now c.args.table.now c.args.kept.now

pub loop-i-preserved : goal.loop-i-preserved
loop-i-preserved c =
    let more : suc (c.loop-i.i - 1) ≡ c.loop-i.i = omega arith in
    passed-more c.args.codes.now c.args.table.now c.args.kept.now (c.loop-i.i - 1) _ (omega arith)
    c.word_at.ensures (rw more c.loop-i.invariant) c.step-waiting.ensures

pub returns : goal.returns
unfolding top
returns c =
    let none : c.loop-i.i ≡ 0 = omega arith in
    passed-all c.args.codes.now c.args.table.now c.args.kept.now (rw none at c.loop-i.invariant)
