-- The list that is asked for is so many lists ahead where the walk begins, and each turn passes one.
use Rattle.std.proofs.Common.{ℕ, List, arith, sym, ap, ◌∙◌, ◌≡◌, length-drop, ◌+◌, ◌-◌, ◌*◌, ◌≤◌, length, drop}
use lib.Seq.{drop-drop}
use Rattle.records.specs.Words.{word}
use Rattle.lists.specs.Lists.{list_at_lem}
use Rattle.lists.proofs.Cuts.{Ahead, ahead-fits, ahead-next, ahead-here, list_ahead, list_bytes_lem}
use Rattle.lists.proofs.list_of.Goals as goal

-- one that is ahead of a place fits behind it
fits_at : (j at : ℕ) (whole : List ℕ) → Ahead j (drop at whole) → at + (2 + 2 * word (drop at whole)) ≤ length whole
fits_at j at whole a = omega (arith, ahead-fits j (drop at whole) a, length-drop at whole)

pub loop-init : goal.loop-init
loop-init c =
    let whole = c.args.whole.now in
    let here = list_ahead _ whole c.args.j c.requires.0 c.requires.1 in
    let none : c.args.j ≡ c.args.j - 0 = omega arith in
    record {
      fits = fits_at c.args.j 2 whole here;
      ahead = rw none at here;
      same = ap (λ k. list_at_lem k (drop 2 whole)) (sym none);
    }

pub loop-preserved : goal.loop-preserved
loop-preserved c =
    let at = c.loop.at in
    let whole = c.args.whole.now in
    let size : 2 + 2 * word (drop at whole) ≡ 2 + c.word_at.result * 2 = omega (arith, c.word_at.ensures) in
    let left : c.args.j - c.loop.counter - 1 ≡ c.args.j - (c.loop.counter + 1) = omega arith in
    let moved : drop (2 + 2 * word (drop at whole)) (drop at whole) ≡ drop (at + (2 + c.word_at.result * 2)) whole =
    drop-drop _ at whole ∙ ap (λ n. drop (at + n) whole) size in
    let (later, next) = rw (left, moved) at (ahead-next _ (drop at whole) (omega arith) c.loop.invariant.ahead) in
    record { fits = fits_at _ _ whole later; ahead = later; same = next ∙ c.loop.invariant.same }

pub returns : goal.returns
returns c =
    let at = c.loop.at in
    let whole = c.args.whole.now in
    let size : at + 2 + c.word_at-2.result * 2 - (at + 2) ≡ 2 * word (drop at whole) =
    omega (arith, c.word_at-2.ensures) in
    let here = sym (ahead-here (c.args.j - c.loop.counter) (drop at whole) (omega arith)) in
    rw (size, ← drop-drop 2 at whole, here, c.loop.invariant.same)
    (list_bytes_lem _ _ _ c.requires.0 c.requires.1)
