-- `facts::count` meets its contract: the sum of the ones of the set's bytes is its size.
use Prim.Native.Nat.{◌*◌}
use mathlib.Core.Path.{◌∙◌}
use native.Mathlib.Omega.{arith}
use lib.ListN.{take}
use lib.Count.{ones}
use Rattle.std.proofs.Common.{rules, tests}
use Rattle.std.proofs.lemmas.Iterator.{YieldsList-from_slice, YieldsList-from_map}
use Rattle.std.proofs.lemmas.Iterator.Consumers.{sum_by_from_yields_List, fits_by_from_yields_list}
use Rattle.sets.proofs.Size.{size_le}
use Rattle.facts.specs.Facts.{within}
use Rattle.facts.proofs.Laws.{count_ones}
use Rattle.facts.proofs.count.Goals as goal

pub sum-requires-clause-fits : goal.sum-requires-clause-fits
sum-requires-clause-fits c =
    let w = c.args.width in
    let l = c.args.set.now in
    let all = count_ones w l (λ i. omega (arith, c.type_inv.set i)) in
    fits_by_from_yields_list ones (take w l) c.map.result _
    (YieldsList-from_map _ ones (YieldsList-from_slice _ (cc)) c.map.ensures.closure (λ x r q k. search (rules, tests)))
    (omega (arith, all, size_le (within w l) (8 * w)))

pub returns : goal.returns
returns c =
    let w = c.args.width in
    let l = c.args.set.now in
    sum_by_from_yields_List ones (take w l) c.map.result c.sum.result c.sum.ensures.ran
    (YieldsList-from_map _ ones (YieldsList-from_slice _ (cc)) c.map.ensures.closure (λ x r q k. search (rules, tests)))
    ∙ count_ones w l (λ i. omega (arith, c.type_inv.set i))
