-- `facts::has` meets its contract: the mask tests the number's bit, and a byte that the set lacks has no bits.
use Prim.Native.Nat.{◌/◌, ◌%◌}
use mathlib.Core.Path.{◌≡◌, sym, ap, ◌∙◌}
use native.Mathlib.Omega.{arith}
use lib.ListN.{length, get_or, take, length-take}
use Rattle.facts.specs.Facts.{within, bit}
use Rattle.facts.proofs.Byte.{on_test}
use Rattle.facts.proofs.Laws.{held_bytes, missing}
use Rattle.facts.proofs.has.Goals as goal

pub returns-in-Some : goal.returns-in-Some
unfolding within bit
returns-in-Some c =
    let byte : c.in-Some.byte.now ≡ get_or (take c.args.width c.args.set.now) (c.args.n / 8) 0 =
    c.in-Some.ensures.lookup.4 (omega arith) 0 ∙ rw c.held.ensures in
    let bytes = held_bytes c.args.width c.args.set.now (λ i. omega (arith, c.type_inv.set i)) in
    rw (c.mask.ensures, byte) (on_test _ (c.args.n % 8) (bytes (c.args.n / 8)) (omega arith))

pub returns-in-None : goal.returns-in-None
returns-in-None c =
    let long = ap length c.held.ensures ∙ length-take c.args.width c.args.set.now in
    sym (missing c.args.width c.args.set.now c.args.n (omega (arith, long, c.in-None.ensures.lookup.3)))
