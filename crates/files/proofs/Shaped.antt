-- What a model is that was judged for 4 to 7: each section's length fits, each section's reader finds nothing, and
-- nothing stands after the last section.
use Prim.Native.Nat.{ℕ, zero, suc, ◌+◌, ◌≤◌, ◌<◌}
use mathlib.Core.Path.{◌≡◌, refl}
use mathlib.Core.Bool.{true, false}
use mathlib.Core.List.{List, [], ◌∷◌}
use mathlib.Core.Option.{none}
use native.Mathlib.Nat.{add-zero, zero-add, not-suc-le-zero, le_of_suc-le-suc}
use native.Mathlib.Omega.{arith}
use borrow.Author.Tests.{ltb-false}
use lib.ListN.{length, get_or}
use Rattle.sections.specs.Sections.{section_at, fits, payload, in_section, reader}
use Rattle.sections.specs.declared.Role.{Role}
use Rattle.sections.specs.declared.Role.TheVariants.{Formulas}
use Rattle.sections.proofs.Fits.{neither, nothing_left, section-fine}
use Rattle.sections.proofs.Parts.{fit-ended, ended-size}
use Rattle.files.specs.Files.{roles_of, index_of, has, place_of_role, section_of, fact_count, fault_from, shape_fault}
use Rattle.files.specs.Files.{There}
use Rattle.files.proofs.Roles.Later.{persistent, names, formulas}
use Rattle.files.proofs.Roles.{Later, absent-role, index-within, role-there, section-there, section-absent}
use Rattle.files.proofs.Roles.{there_or_absent}

-- ---- sections without a fault, from section j on

module _ (F : ℕ) (file : List ℕ) where
  -- After a section without a fault come the others.
  others : (r : Role) (rs : List Role) (j : ℕ) → fault_from (r ∷ rs) F file (section_at file j) ≡ none
      → (in_section (reader (get_or file 0 0) r F) file (section_at file j) ≡ none)
      × (fault_from rs F file (section_at file (suc j)) ≡ none)
  unfolding fault_from section_at
  others r rs j e = neither (in_section (reader (get_or file 0 0) r F) file (section_at file j)) _ e

  -- Section j + i fits, and its reader finds nothing.
  fine-at : (rs : List Role) (j : ℕ) → fault_from rs F file (section_at file j) ≡ none → (i : ℕ) → i < length rs
      → (fits file (section_at file (j + i)) ≡ true)
      × (reader (get_or file 0 0) (get_or rs i Formulas) F (payload file (section_at file (j + i))) ≡ none)
  fine-at [] j e i h = absurd (not-suc-le-zero h)
  fine-at (r ∷ rs) j e zero h =
      rw add-zero (section-fine (reader (get_or file 0 0) r F) file (section_at file j) (others r rs j e).0)
  fine-at (r ∷ rs) j e (suc i) h =
      let same : suc j + i ≡ j + suc i = omega arith in
      rw (← same) (fine-at rs (suc j) (others r rs j e).1 i (le_of_suc-le-suc h))

  -- Nothing stands after the last of them.
  fine_end : (rs : List Role) (j : ℕ) → fault_from rs F file (section_at file j) ≡ none
      → length file ≤ section_at file (j + length rs)
  unfolding fault_from
  fine_end [] j e = rw add-zero (nothing_left file (section_at file j) e)
  fine_end (r ∷ rs) j e =
      let same : suc j + length rs ≡ j + suc (length rs) = omega arith in
      rw (← same) (fine_end rs (suc j) (others r rs j e).1)

-- ---- a judged model

-- Nothing is found in a section that a model's version lacks.
absent-fine : (version F : ℕ) {r : Role} → Later r → reader version r F [] ≡ none
unfolding reader
absent-fine version F persistent = refl
absent-fine version F names = refl
absent-fine version F formulas = refl

module _ (file : List ℕ) (fine : shape_fault file ≡ none) where
  -- Each of its sections fits, by number,
  pub section-fits : (i : ℕ) → i < length (roles_of file) → fits file (section_at file i) ≡ true
  unfolding shape_fault
  section-fits i h = rw zero-add at (fine-at (fact_count file) file (roles_of file) 0 fine i h).0

  -- and by role.
  pub role-fits : (r : Role) → There file r → fits file (place_of_role file r) ≡ true
  unfolding place_of_role
  role-fits r there = section-fits (index_of r (roles_of file)) there

  -- In each its reader finds nothing.
  pub judged-section : (r : Role) → reader (get_or file 0 0) r (fact_count file) (section_of file r) ≡ none
  unfolding shape_fault place_of_role
  judged-section r =
      let rs = roles_of file in
      there_or_absent file r
      (λ there.
      let found = (fine-at (fact_count file) file rs 0 fine (index_of r rs) there).1 in
      rw (section-there file r there) (rw (role-there rs r there, zero-add) at found))
      (λ absent. rw (section-absent file r absent) (absent-fine _ (fact_count file) (absent-role file r absent)))

  -- Nothing stands after the last.
  pub file-end : length file ≤ section_at file (length (roles_of file))
  unfolding shape_fault
  file-end = rw zero-add at (fine_end (fact_count file) file (roles_of file) 0 fine)

  -- So the place of a section that the version lacks is the file's end.
  pub absent-end : (r : Role) → has file r ≡ false → length file ≤ place_of_role file r
  unfolding place_of_role has
  absent-end r absent =
      let past : length (roles_of file) ≤ index_of r (roles_of file) = ltb-false _ _ absent in
      let last : index_of r (roles_of file) ≡ length (roles_of file) = omega (arith, index-within r (roles_of file)) in
      rw last file-end

  -- Each ends within the file.
  pub role-ends : (r : Role) → There file r → place_of_role file r + 4 + length (section_of file r) ≤ length file
  role-ends r there =
      let end = fit-ended file (place_of_role file r) (role-fits r there) in
      rw (section-there file r there) (omega (arith, end, ended-size file (place_of_role file r) _ end))
