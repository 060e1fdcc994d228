-- `facts::any_from` meets its contract: it looks at the bytes of the set from that of `from` on, where there are any.
use Prim.Native.Nat.{ℕ, ◌-◌, ◌/◌, ◌%◌, ◌^◌}
use mathlib.Core.Path.{◌≡◌, ap, ◌∙◌}
use mathlib.Core.Bool.{◌||◌}
use mathlib.Core.List.{List}
use native.Mathlib.Omega.{arith}
use lib.Dec.{ltb}
use lib.ListN.{length, get_or, take, drop, length-take, length-drop}
use borrow.Author.Tests.{lt-ltb, le-ltb}
use Rattle.std.proofs.Common.{rules, tests}
use Rattle.std.specs.List.{list_any, slice_range}
use Rattle.std.proofs.lemmas.List.{take_all}
use Rattle.std.proofs.lemmas.Iterator.{YieldsList-from_slice}
use Rattle.std.proofs.lemmas.Iterator.Search.{any_from_yields_List}
use Rattle.facts.specs.Facts.{AnyFrom}
use Rattle.facts.proofs.Laws.{Bytes, any_part, none_past}
use Rattle.facts.proofs.any_from.Goals as goal

-- `any_part`, with the two ranges as the code takes them
from_ranges : (w : ℕ) (l : List ℕ) (from : ℕ) (held part : List ℕ) → Bytes l → held ≡ take w l
    → part ≡ slice_range held (from / 8) (length held)
    → AnyFrom w l from (ltb 0 (get_or part 0 0 / 2 ^ (from % 8)) || list_any (ltb 0) (slice_range part 1 (length part)))
from_ranges w l from held part b h e =
    let whole = take_all (length held - from / 8) (drop (from / 8) held) (omega (arith, length-drop (from / 8) held)) in
    let rest : part ≡ drop (from / 8) (take w l) = e ∙ whole ∙ rw h in
    rw (take_all (length part - 1) (drop 1 part) (omega (arith, length-drop 1 part))) (any_part w l from part b rest)

pub returns-then-first-from-gt0 : goal.returns-then-first-from-gt0
returns-then-first-from-gt0 c =
    let found =
    from_ranges c.args.width c.args.set.now c.args.from _ _ (λ i. omega (arith, c.type_inv.set i)) c.held.ensures
    c.in-Some.ensures.lookup.0.2 in
    let yes = lt-ltb _ _ c.if-first-from-gt0.true in
    rw yes (rw yes at found)

pub returns-else-first-from-gt0 : goal.returns-else-first-from-gt0
returns-else-first-from-gt0 c =
    let found =
    from_ranges c.args.width c.args.set.now c.args.from _ _ (λ i. omega (arith, c.type_inv.set i)) c.held.ensures
    c.in-Some.ensures.lookup.0.2 in
    let any =
    any_from_yields_List (ltb 0) _ _ c.any.result c.any.ensures.ran (YieldsList-from_slice _ c.iter.ensures.rest)
    (λ x b q k. search (rules, tests)) in
    rw any (rw (le-ltb _ _ c.if-first-from-gt0.false) at found)

pub returns-in_default : goal.returns-in_default
returns-in_default c =
    let long = ap length c.held.ensures ∙ length-take c.args.width c.args.set.now in
    none_past c.args.width c.args.set.now c.args.from (omega (arith, long, c.in_default.ensures.lookup.0))

pub returns-in-empty : goal.returns-in-empty
returns-in-empty c =
    let long = ap length c.held.ensures ∙ length-take c.args.width c.args.set.now in
    none_past c.args.width c.args.set.now c.args.from
    (omega (arith, long, c.in-Some.ensures.lookup.0.3, c.in-empty.len_below))
