-- The condition at hand is the next one: it is the first unmet one, or those behind it are searched.
use Rattle.std.proofs.Common.{◌≡◌, refl, sym, ◌∙◌}
use mathlib.Core.List.Memᴰ
use Rattle.stepping.specs.Conditions.{condition_of}
use Rattle.stepping.proofs.Looking.{unmet-here, unmet-later, unmet_none}
use Rattle.stepping.proofs.conditions.first_of.Goals as goal

pub meets-requires : goal.meets-requires
meets-requires g c =
    let listed = c.loop-f.invariant.of_list _ (rw c.in-Some.ensures.steps (Memᴰ.head refl)) in
    (c.requires.1 _ _ listed c.asked-c.ensures, c.requires.2)

pub returns-then-not-meets : goal.returns-then-not-meets
returns-then-not-meets g c k is =
    let here = c.in-Some.ensures.steps in
    let listed = c.loop-f.invariant.of_list _ (rw here (Memᴰ.head refl)) in
    let e : condition_of c.asked-c.result ≡ k c.in-Some.f = is _ _ listed c.asked-c.ensures in
    let unmet = rw e at (sym c.meets.ensures ∙ c.if-not-meets.true) in
    rw (e, ← c.loop-f.invariant.ahead k is, here) (sym (unmet-here _ _ _ _ unmet))

pub loop-f-preserved : goal.loop-f-preserved
loop-f-preserved g c =
    let here = c.in-Some.ensures.steps in
    let so_far = c.loop-f.invariant in
    record {
      of_list = λ f i. so_far.of_list f (rw here (Memᴰ.tail i));
      ahead = λ k is.
          let listed = so_far.of_list _ (rw here (Memᴰ.head refl)) in
          let e : condition_of c.asked-c.result ≡ k c.in-Some.f = is _ _ listed c.asked-c.ensures in
          let met = rw e at (sym c.meets.ensures ∙ c.if-not-meets.false) in
          rw (← so_far.ahead k is, here) (sym (unmet-later _ _ _ _ met));
    }

pub returns : goal.returns
returns g c k is = rw (← c.loop-f.invariant.ahead k is, c.in-None.ensures.steps.0) (sym (unmet_none _ _))
