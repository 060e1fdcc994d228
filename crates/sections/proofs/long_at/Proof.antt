-- `sections::long_at` meets its contract: the number is made of the two that `word_at` reads.
use Prim.Native.Nat.{◌+◌, ◌<◌}
use native.Mathlib.Omega.{arith}
use Rattle.records.proofs.Words.{word_small}
use Rattle.sections.proofs.Parts.{long-at}
use borrow.Author.Rules.{rules}
use Rattle.sections.proofs.long_at.Statement.{statement}
use Rattle.sections.proofs.long_at.Tie as tie

word-at-requires : tie.Need-word_at-high-requires
word-at-requires c κs = search rules

add-word-at : tie.Need-overflow_add-at
add-word-at c = search rules

word-at-requires-2 : tie.Need-word_at-low-requires
word-at-requires-2 c κs = search rules

-- how large the two numbers are
small : (c : tie.After-word_at-low) → (c.word_at-high.result < 65536) × (c.word_at-low.result < 65536)
small c =
    let file = c.args.file.now in
    let at = c.args.at in
    let byte = c.shared_slice_known-1.given in (
      rw c.word_at-high.ensures (word_small file at byte),
      rw c.word_at-low.ensures (word_small file (at + 2) byte),
    )

mul-result : tie.Need-overflow_mul-result
mul-result c = omega (arith, small c)

add-result : tie.Need-overflow_add-result
add-result c = omega (arith, small c)

returns : tie.Need-returns
returns c =
    let args = c.args in
    rw (long-at args.file.now args.at) (cc)

pub long_at_spec : {M : Type 1} → statement M
long_at_spec = tie.close (tie.spec word-at-requires add-word-at word-at-requires-2 mul-result add-result returns)
