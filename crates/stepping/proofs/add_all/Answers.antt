-- Adding a number does what the list does at it.
use Rattle.std.proofs.Common.{ℕ, ◌*◌, ◌<◌, ◌≡◌, ◌||◌, refl, sym, ap, ◌∙◌, Bool, arith}
use mathlib.Core.Bool.{and-true}
use mathlib.Core.List.Memᴰ
use lib.Dec.{eqb}
use Rattle.facts.specs.Facts.{within}
use Rattle.facts.proofs.Laws.{kept_trans, room_in}
use Rattle.stepping.proofs.Changing.{done-one, done_all, add_idle, add_twice}
use Rattle.stepping.proofs.add_all.Goals as goal

pub loop-number-preserved : goal.loop-number-preserved
loop-number-preserved c =
    let here = c.in-Some.ensures.steps in
    let so_far = c.loop-number.invariant in
    let w = c.args.width in
    let set = c.loop-number.set in
    let n = c.in-Some.number in
    let small : n < 8 * w = so_far.known n (rw here (Memᴰ.head refl)) in
    let one : (g : ℕ) → within w c.add.new.set g ≡ (within w set g || eqb g n) =
    λ g. c.add.ensures.set g
    ∙ rw (room_in w set n (omega (arith, so_far.kept.as_long, c.requires.1)))
    (ap (λ (b : Bool). within w set g || b) (and-true _)) in
    record {
      known = λ f i. so_far.known f (rw here (Memᴰ.tail i));
      kept = kept_trans so_far.kept c.add.ensures.kept;
      is = λ g. done-one w (λ g. ◌||◌) add_idle add_twice set c.add.new.set here one g ∙ so_far.is g;
    }

pub returns : goal.returns
returns c =
    let done = done_all c.args.width (λ g. ◌||◌) add_idle add_twice c.loop-number.set c.in-None.ensures.steps.0 in
    record { set = λ g. sym (done g) ∙ c.loop-number.invariant.is g; kept = c.loop-number.invariant.kept }
