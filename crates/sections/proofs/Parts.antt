-- Laws on one section of a file: the number that its length is, where it ends, what its bytes are, and the answer for
-- them.
use Prim.Native.Nat.{ℕ, suc, ◌+◌, ◌-◌, ◌*◌, ◌≤◌, ◌<◌}
use mathlib.Core.Path.{◌≡◌, refl, ap, ◌∙◌, sym}
use mathlib.Core.Bool.{true, false, true≢false}
use Rattle.std.specs.Prelude.{MatchOption, IsSome, Some, None, Option as RustOption}
use mathlib.Core.List.{List, [], ◌∷◌}
use mathlib.Core.Option.{Option, none, some, map, none-ne-some}
use native.Mathlib.Omega.{arith}
use lib.ListN.{length, take, drop, length-drop}
use lib.Seq.{get_or-drop, drop-drop, length-take-le}
use borrow.Author.Tests.{le-leb, lt-leb}
use Rattle.records.specs.Words.{word}
use Rattle.records.specs.Records.{records, bare, judge, first_from, first_fault_lem, place_of}
use Rattle.records.specs.Refusals.{Fault}
use Rattle.records.specs.declared.Kind.TheVariants as kind
use Rattle.records.proofs.Sections.{first-here, first-later}
use Rattle.records.proofs.Places.{records_sum}
use Rattle.sections.specs.Sections.{long, end_at, fits, payload, rest_fault_lem, moved, in_section, all_of, sizes}
use Rattle.sections.specs.Sections.{rule_kind_lem, reader}
use Rattle.sections.specs.declared.Role.{Role}
use Rattle.sections.specs.declared.Role.TheVariants.{Sizes, Initial, Persistent, Names, Clauses, Rules}
use Rattle.sections.specs.declared.Role.TheVariants.{Goals, Formulas}
use Rattle.sections.proofs.Fits.{fits-within, payload-part}

-- ---- a length

-- A 4-byte number is two 2-byte numbers.
long-words : (bytes : List ℕ) → long bytes ≡ word bytes * 65536 + word (drop 2 bytes)
unfolding long word
long-words bytes = rw (get_or-drop 2 bytes 0 0, get_or-drop 2 bytes 1 0) (omega arith)

-- The same at a place of a file.
pub long-at : (file : List ℕ) (at : ℕ) → long (drop at file) ≡ word (drop at file) * 65536 + word (drop (at + 2) file)
long-at file at = rw (long-words, drop-drop)

-- ---- where a record at fault stands

module _ (refuses : ℕ → List ℕ → Option ℕ) where
  -- The first record at fault, from record n on, stands within the records.
  first-within : (n at : ℕ) (rs : List (List ℕ)) (f : Fault) → first_from refuses n at rs ≡ some f
      → f.start + f.size ≤ at + place_of (length rs) rs
  unfolding first_from place_of
  first-within n at [] f e = absurd (none-ne-some f e)
  first-within n at (r ∷ rs) f e = go (refuses n r) refl (first-within (suc n) (at + length r) rs f)
    where
      go : (number : Option ℕ) → refuses n r ≡ number
          → (first_from refuses (suc n) (at + length r) rs ≡ some f
          → f.start + f.size ≤ at + length r + place_of (length rs) rs)
          → f.start + f.size ≤ at + (length r + place_of (length rs) rs)
      go none h later = omega (arith, later (sym (first-later refuses n at r rs h) ∙ e))
      go (some k) h later =
          let here = sym (first-here refuses n at r rs k h) ∙ e in
          let start_is : at ≡ f.start = cc in
          let size_is : length r ≡ f.size = cc in
          omega arith

  -- So it does in its section.
  fault-within : (section : List ℕ) (f : Fault) → first_fault_lem refuses section ≡ some f
      → f.start + f.size ≤ length section
  unfolding first_fault_lem
  fault-within section f e = omega (arith, first-within 0 0 (records section) f e, records_sum section)

-- A fault for all of some bytes lies within them.
all-within : (number : Option ℕ) (bytes : List ℕ) (f : Fault) → all_of number bytes ≡ some f
    → f.start + f.size ≤ length bytes
unfolding all_of
all-within none bytes f e = absurd (none-ne-some f e)
all-within (some k) bytes f e =
    let start_is : 0 ≡ f.start = cc in
    let size_is : length bytes ≡ f.size = cc in
    omega arith

-- What the reader of a section finds lies within its bytes.
pub reader-within : (version : ℕ) (role : Role) (F : ℕ) (bytes : List ℕ) (f : Fault)
    → reader version role F bytes ≡ some f → f.start + f.size ≤ length bytes
unfolding reader
reader-within version Sizes F bytes f e = all-within (sizes bytes) bytes f e
reader-within version Initial F bytes f e = all-within (bare false F bytes) bytes f e
reader-within version Persistent F bytes f e = all-within (bare false F bytes) bytes f e
reader-within version Names F bytes f e = all-within (bare true 1024 bytes) bytes f e
reader-within version Clauses F bytes f e = fault-within (judge kind.Clause F) bytes f e
reader-within version Rules F bytes f e = fault-within (judge (rule_kind_lem version) F) bytes f e
reader-within version Goals F bytes f e = fault-within (judge kind.Goal F) bytes f e
reader-within version Formulas F bytes f e = fault-within (judge kind.Formula F) bytes f e

-- ---- where a section ends

-- the section's length is there and fits, and the section ends here
pub record Ended (file : List ℕ) (at end : ℕ) : Type 0 where
  pub fit : fits file at ≡ true
  pub is : end ≡ end_at file at
  pub start : at + 4 ≤ end
  pub within : end ≤ length file

module _ (file : List ℕ) (at : ℕ) where
  -- A section that ends within the file has a length that is there and fits.
  pub within-fits : at + 4 + long (drop at file) ≤ length file → fits file at ≡ true
  unfolding fits
  within-fits h = le-leb (4 + long (drop at file)) (length (drop at file)) (omega (arith, length-drop at file))

  -- One that ends further on has none that fits.
  pub beyond-fits : length file < at + 4 + long (drop at file) → fits file at ≡ false
  unfolding fits
  beyond-fits h = lt-leb (4 + long (drop at file)) (length (drop at file)) (omega (arith, length-drop at file))

  -- A section whose length fits ends within the file.
  pub fit-ended : fits file at ≡ true → Ended file at (end_at file at)
  fit-ended fit =
      let (start, within) = fits-within file at fit in record { fit = fit; is = refl; start = start; within = within }

  -- So it does where `section_end` says.
  pub fits-ended : (end : ℕ) → (fits file at ≡ true) × (end ≡ end_at file at) → Ended file at end
  fits-ended end (fit, is) = rw is (fit-ended fit)

  -- Where the length fits, `section_end` has an end,
  pub some_end : (o : RustOption ℕ)
      → MatchOption o (fits file at ≡ false) (λ end. (fits file at ≡ true) × (end ≡ end_at file at))
      → fits file at ≡ true → IsSome o
  some_end None e fit = absurd (true≢false (sym fit ∙ e))
  some_end (Some end) e fit = refl

  -- and the section ends there.
  pub end_some : (o : RustOption ℕ) (end : ℕ)
      → MatchOption o (fits file at ≡ false) (λ end. (fits file at ≡ true) × (end ≡ end_at file at))
      → o ≡ Some end → Ended file at end
  end_some (Some x) end e is = let same : x ≡ end = cc in fits-ended end (rw (← same) e)
  end_some None end e is = let z : ◌≡◌ {A = ℕ} 0 1 = cc in absurd (omega arith)

  -- ---- the answer for a section

  -- The section's bytes, as the code cuts them.
  pub ended-bytes : (end : ℕ) → Ended file at end → take (end - (at + 4)) (drop (at + 4) file) ≡ payload file at
  ended-bytes end s = rw s.is (payload-part file at)

  -- A section whose length doesn't fit is at fault there, whatever its reader would find.
  pub unfit-fault : (reader : List ℕ → Option Fault) → fits file at ≡ false
      → in_section reader file at ≡ some (rest_fault_lem file at)
  unfolding in_section
  unfit-fault reader unfit = rw unfit

  -- Of any other the reader's fault tells, at its place in the file.
  pub fit-fault : (reader : List ℕ → Option Fault) → fits file at ≡ true
      → in_section reader file at ≡ map (moved (at + 4)) (reader (payload file at))
  unfolding in_section
  fit-fault reader fit = rw fit

  -- There are as many bytes as the length says.
  pub ended-size : (end : ℕ) → Ended file at end → length (payload file at) ≡ end - (at + 4)
  ended-size end s =
      ap length (sym (ended-bytes end s))
      ∙ length-take-le (end - (at + 4)) (drop (at + 4) file) (rw length-drop (omega (arith, s.within)))
