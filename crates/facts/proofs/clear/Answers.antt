-- `facts::clear` meets its contract: it writes 0 over the bytes that the set has.
use Prim.Native.Nat.{min}
use mathlib.Core.Path.{◌≡◌, ap, ◌∙◌}
use native.Mathlib.Omega.{arith}
use lib.ListN.{length, length-take}
use Rattle.facts.proofs.Laws.{cleared_zeros}
use Rattle.facts.proofs.clear.Goals as goal

pub returns : goal.returns
returns c =
    let set = c.args.set.now in
    let long = ap length c.held-all.ensures ∙ length-take c.args.width set in
    let all : min (length c.held-all.result.now) (length set) ≡ length c.held-all.result.now = omega (arith, long) in
    rw (c.fill.ensures.after (λ y e. e), length-take (length c.held-all.result.now) set, all)
    (cleared_zeros c.args.width set (length c.held-all.result.now) long)
