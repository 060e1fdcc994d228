-- What it says that nothing is at fault, and where a section that fits ends.
use Prim.Native.Nat.{ℕ, ◌+◌, ◌-◌, ◌≤◌}
use mathlib.Core.Path.{◌≡◌, refl}
use mathlib.Core.Bool.{Bool, true, false, cond}
use mathlib.Core.List.{List}
use mathlib.Core.Option.{Option, none, some, map, some-ne-none}
use native.Mathlib.Omega.{arith}
use lib.ListN.{length, take, drop, length-drop}
use borrow.Author.Tests.{leb-true, ltb-false}
use Rattle.records.specs.Records.{given, ◌or_else◌}
use Rattle.records.specs.Refusals.{Fault}
use Rattle.sections.specs.Sections.{long, end_at, fits, payload, rest_fault_lem, moved, in_section, left_over}

-- ---- nothing at fault

-- Where there is no first of two faults, neither is there.
pub neither {ℓ} : {A : Type ℓ} (x y : Option A) → (x or_else y) ≡ none → (x ≡ none) × (y ≡ none)
unfolding ◌or_else◌
neither none y e = (refl, e)
neither (some a) y e = absurd (some-ne-none a e)

-- Where what a test gives is not there, the test fails.
pub not-given {ℓ} : {A : Type ℓ} (test : Bool) (x : A) → given test x ≡ none → test ≡ false
unfolding given
not-given true x e = absurd (some-ne-none x e)
not-given false x e = refl

-- A section with no fault fits, and its reader finds nothing.
pub section-fine : (reader : List ℕ → Option Fault) (file : List ℕ) (at : ℕ) → in_section reader file at ≡ none
    → (fits file at ≡ true) × (reader (payload file at) ≡ none)
unfolding in_section
section-fine reader file at e = go (fits file at) (reader (payload file at)) e
  where
    go : (b : Bool) (found : Option Fault)
        → cond b (map (moved (at + 4)) found) (some (rest_fault_lem file at)) ≡ none → (b ≡ true) × (found ≡ none)
    go true none e = (refl, refl)
    go true (some f) e = absurd (some-ne-none _ e)
    go false found e = absurd (some-ne-none _ e)

-- Nothing stands after the last section where that is no fault.
pub nothing_left : (file : List ℕ) (at : ℕ) → left_over file at ≡ none → length file ≤ at
unfolding left_over
nothing_left file at e = ltb-false _ _ (not-given _ _ e)

-- ---- a section that fits

-- It ends within the file, after its length.
pub fits-within : (file : List ℕ) (at : ℕ) → fits file at ≡ true
    → (at + 4 ≤ end_at file at) × (end_at file at ≤ length file)
unfolding fits end_at
fits-within file at e = omega (arith, leb-true, length-drop at file)

-- A section's bytes are those between its length and its end.
pub payload-part : (file : List ℕ) (at : ℕ) → take (end_at file at - (at + 4)) (drop (at + 4) file) ≡ payload file at
unfolding end_at payload
payload-part file at =
    let size : at + (4 + long (drop at file)) - (at + 4) ≡ long (drop at file) = omega arith in
    rw size
