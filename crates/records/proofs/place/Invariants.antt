-- The place of record n is what was passed and then where it is among the records that are left.
use Prim.Native.Nat.{◌+◌}
use mathlib.Core.Path.{◌≡◌}
use lib.ListN.{length}
use Rattle.std.specs.Iterator.Adapters.{take_source, take_count}
use Rattle.records.specs.Records.{records, place_of}
use Rattle.records.proofs.Places.{total}
use Rattle.records.proofs.place.Given as goal

abbrev pub invariant-loop-record : goal.invariant-loop-record
invariant-loop-record l =
    let left = records (take_source l.record-iterator).0.now in
    (l.at + total left ≡ length l.section)
    × (place_of l.n (records l.section) ≡ l.at + place_of (take_count l.record-iterator) left)
