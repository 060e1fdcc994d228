-- `records::end` meets its contract. The loop's invariant: the operators at hand are those at the start, without some
-- that have ended.
use Prim.Native.Nat.{◌<◌}
use mathlib.Core.Path.{◌≡◌, refl, ◌∙◌}
use mathlib.Core.Bool.{Bool}
use mathlib.Core.List.{List}
use native.Mathlib.Omega.{arith}
use Rattle.records.specs.Above.{bits, ended}
use Rattle.records.proofs.Codes.{ended-even, ended-odd}
use Rattle.records.proofs.end.Statement.{statement}
use Rattle.records.proofs.end.Tie as tie

abbrev invariant-loop : tie.invariant-loop-above
invariant-loop above above₀ above' =
    (0 < above')
    × ((l : List Bool) → above ≡ bits l → (others : List Bool) × (above' ≡ bits others) × (ended l ≡ ended others))

abbrev decreases-loop : tie.decreases-loop-above
decreases-loop above above₀ above' = above'

loop-holds : tie.Need-loop-above-init invariant-loop decreases-loop
loop-holds c = (c.requires, λ l e. (l, e, refl))

loop-less : tie.Need-loop-above-smaller invariant-loop decreases-loop
loop-less c = omega arith

loop-again : tie.Need-loop-above-preserved invariant-loop decreases-loop
loop-again c = (
  omega arith,
  λ l e.
      let (others, is, same) = c.loop-above.invariant.1 l e in
      let (next, half, later) = ended-even others (rw (← is) c.loop-above-test.true) in
      (next, rw is half, same ∙ later),
)

sub-result : tie.Need-overflow_sub-result invariant-loop decreases-loop
sub-result c = omega arith

returns : tie.Need-returns invariant-loop decreases-loop
returns c = λ l e.
    let (others, is, same) = c.loop-above.invariant.1 l e in
    rw (is, same) (ended-odd others (rw (← is) c.loop-above-test.false))

pub end_spec : {M : Type 1} → statement M
end_spec = tie.close (tie.spec invariant-loop decreases-loop loop-holds loop-less loop-again sub-result returns)
