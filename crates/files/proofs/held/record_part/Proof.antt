-- `held::record_part` meets its contract: the record stands at its place in its section, and that in the model.
use Prim.Native.Nat.{◌+◌, ◌≤◌}
use lib.ListN.{length}
use Rattle.records.proofs.Places.{place-record, place_le}
use Rattle.files.specs.Files.{section_of}
use Rattle.files.proofs.Roles.{record-there}
use Rattle.files.proofs.Shaped.{role-ends}
use native.Mathlib.Omega.{arith}
use Rattle.files.specs.Answers.{record_part_lem}
use borrow.Author.Rules.{rules}
use Rattle.files.proofs.held.record_part.Statement.{statement}
use Rattle.files.proofs.held.record_part.Tie as tie

-- the place lies in the model
within : (c : tie.After-place_of)
    → c.place_of.result + 4 + c.place-at.result
    ≤ length c.args.model.now
within c =
    let model = c.args.model.now in
    let role = c.args.role in
    let (fine, below) = c.requires in
    let at = c.place-at.ensures in
    let inside : c.place-at.result ≤ length (section_of model role) =
    rw (at, c.section-bytes.ensures) (place_le (section_of model role) c.args.k) in
    omega (arith, c.place_of.ensures, role-ends model fine role (record-there model role below))

section-requires : tie.Need-section-bytes-requires
section-requires c κs = search rules

place-requires : tie.Need-place-at-requires
place-requires c κs = search rules

record-at-requires : tie.Need-record_at-record-requires
record-at-requires c κs = search rules

place-of-requires : tie.Need-place_of-requires
place-of-requires c κs = search rules

add-t8 : tie.Need-overflow_add-result
add-t8 c = omega (arith, within c)

add-t9 : tie.Need-overflow_add-result-2
add-t9 c = omega (arith, within c)

returns : tie.Need-returns
unfolding record_part_lem
returns c =
    let section = section_of c.args.model.now c.args.role in
    let this = place-record section c.args.k c.requires.1 in
    let is = rw (c.place-at.ensures, c.section-bytes.ensures, this) at c.record_at-record.ensures in
    rw (c.place_of.ensures, is, c.place-at.ensures, c.section-bytes.ensures)

pub record_part_spec : {M : Type 1} → statement M
record_part_spec =
    tie.close
    (tie.spec
    section-requires
    place-requires
    record-at-requires
    place-of-requires
    add-t8
    add-t9
    returns)
