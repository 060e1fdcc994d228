-- A read puts its bytes behind those that are there, and the reader loses them.
use Rattle.std.proofs.Common.{rules, ◌≡◌, ◌+◌, ◌-◌, ◌≤◌, ℕ, List, ◌++◌, length, take, drop, sym, ap, ◌∙◌}
use Rattle.std.proofs.Common.{subst, le_refl, drop_at, length-take-le}
use Rattle.std.proofs.lemmas.Slice.{take-put_mid_below}
use Rattle.std.proofs.KnownBytes.{Consumes-trans}
use Rattle.std.specs.Io.KnownBytes.{Consumes}
use borrow.Rule.Slice.PartMut.{put_mid, post_of}
use lib.Seq.{take-add, take-append-le}
use Rattle.cantivorex.proofs.fill.Goals as goal

-- after a write from a on: what stood before it, and the first n that were written
take-put_mid_front : (a k n : ℕ) (xs ys : List ℕ) → a ≤ length xs → n ≤ length ys
    → take (a + n) (put_mid a k xs ys) ≡ take a xs ++ take n ys
take-put_mid_front a k n xs ys within fits =
    let new = put_mid a k xs ys in
    take-add a n new
    ∙ ap (λ l. l ++ take n (drop a new)) (take-put_mid_below a k xs ys a (le_refl a) within)
    ∙ ap (λ l. take a xs ++ take n l) (drop_at (take a xs) (ys ++ post_of a k xs) a (length-take-le a xs within))
    ∙ ap (λ l. take a xs ++ l) (take-append-le n ys (post_of a k xs) fits)

pub loop-at-preserved : goal.loop-at-preserved
loop-at-preserved g c =
    let from = c.loop-at.at in
    let read = c.in_ok-n.ensures in
    let joined =
    take-put_mid_front from (length c.loop-at.buffer - from) c.in_ok-n.n c.loop-at.buffer c.read.new.buf
    c.loop-at.invariant.1 read.bound.0 in (
      search rules,
      search rules,
      subst (Consumes _ _) (sym joined) (Consumes-trans _ _ _ _ _ c.loop-at.invariant.2 read.bytes.0),
    )
