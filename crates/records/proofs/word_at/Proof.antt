-- `records::word_at` meets its contract. That the sum fits follows from the bytes being below 256.
use Prim.Native.Nat.{◌+◌, ◌<◌}
use native.Mathlib.Nat.{add-zero}
use native.Mathlib.Omega.{arith}
use lib.Seq.{get_or-drop}
use borrow.Author.Rules.{rules}
use Rattle.records.specs.Words.{word}
use Rattle.records.proofs.word_at.Statement.{statement}
use Rattle.records.proofs.word_at.Tie as tie

shared-slice-read-wide : tie.Need-bounds-bytes-at
shared-slice-read-wide c = search rules

wide-requires : tie.Need-wide-high-requires
wide-requires c κs = search rules

add_wide : tie.Need-overflow_add-at
add_wide c = search rules

shared-slice-read-wide-2 : tie.Need-bounds-bytes-at-2
shared-slice-read-wide-2 c = search rules

wide-requires-2 : tie.Need-wide-low-requires
wide-requires-2 c κs = search rules

-- both bytes are below 256
small : (c : tie.After-wide-low) → (c.wide-high.result < 256) × (c.wide-low.result < 256)
small c =
    let at = c.args.at in
    let byte = c.shared_slice_known-3-1.given in
    omega (arith, byte at, byte (at + 1))

mul-result : tie.Need-overflow_mul-result
mul-result c = omega (arith, small c)

add-result : tie.Need-overflow_add-result
add-result c = omega (arith, small c)

returns : tie.Need-returns
unfolding word
returns c =
    let at = c.args.at in
    let bytes = c.args.bytes.now in
    rw (get_or-drop at bytes 0 0, get_or-drop at bytes 1 0, add-zero) (omega arith)

pub word_at_spec : {M : Type 1} → statement M
word_at_spec =
    tie.close
    (tie.spec
    shared-slice-read-wide
    wide-requires
    add_wide
    shared-slice-read-wide-2
    wide-requires-2
    mul-result
    add-result
    returns)
