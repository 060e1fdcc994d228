-- `both::part` meets its contract: one case for each mark.
use Prim.Native.Nat.{ℕ, zero, suc}
use mathlib.Core.Path.{◌≡◌, refl, sym}
use mathlib.Core.List.{List, []}
use borrow.Author.Rules.{rules}
use Rattle.files.specs.Answers.{part_of, bytes_at}
use Rattle.files.proofs.both.part.Statement.{statement}
use Rattle.files.proofs.both.part.Tie as tie

-- any other mark has no bytes
other : (m t : List ℕ) (mark start size : ℕ) → (mark ≡ 0 → ⊥) → (mark ≡ 1 → ⊥) → bytes_at m t mark start size ≡ []
unfolding bytes_at
other m t zero start size h k = absurd (h refl)
other m t (suc zero) start size h k = absurd (k refl)
other m t (suc (suc mark)) start size h k = refl

cut-requires : tie.Need-cut-requires
cut-requires c κs = search rules

cut-requires-2 : tie.Need-cut-requires-then-mark-eq1
cut-requires-2 c κs = search rules

slice-aggregate-result : tie.Need-slice_bounds-result-end
slice-aggregate-result c = search rules

returns : tie.Need-returns-then-mark-eq0
unfolding part_of bytes_at
returns c = rw c.if-mark-eq0.true c.cut.ensures

returns-2 : tie.Need-returns-then-mark-eq1
unfolding part_of bytes_at
returns-2 c = rw c.if-mark-eq1.true c.cut-then-mark-eq1.ensures

returns-3 : tie.Need-returns-else-mark-eq1
unfolding part_of
returns-3 c = sym (other _ _ _ _ _ c.if-mark-eq0.false c.if-mark-eq1.false)

pub part_spec : {M : Type 1} → statement M
part_spec =
    tie.close
    (tie.spec cut-requires cut-requires-2 slice-aggregate-result returns returns-2 returns-3)
