-- Every fault of a model by itself has its cause (specs/Causes), and a model without a fault is right.
use Prim.Native.Nat.{ℕ, zero, suc, ◌+◌, ◌≤◌, ◌<◌}
use mathlib.Core.Path.{◌≡◌, refl, sym, ◌∙◌}
use mathlib.Core.Logic.{◌⊎◌, inl, inr, ⊎_elim}
use mathlib.Core.Bool.{true}
use mathlib.Core.List.{List, [], ◌∷◌}
use mathlib.Core.Option.{none, some}
use native.Mathlib.Nat.{add-zero, zero-add}
use native.Mathlib.Omega.{arith}
use borrow.Author.Tests.{ltb-true}
use lib.ListN.{length, take, drop, get_or}
use Rattle.records.specs.Records.{place_of}
use Rattle.records.specs.Refusals.{Fault}
use Rattle.lists.proofs.Laws.{passed-at}
use Rattle.sections.specs.Sections.{section_at, fits, in_section, left_over, reader}
use Rattle.sections.specs.declared.Role.{Role}
use Rattle.sections.specs.declared.Role.TheVariants.{Formulas}
use Rattle.sections.proofs.Fits.{fits-within, section-fine}
use Rattle.files.specs.Files.{roles_of, index_of, place_of_role, section_of, fact_count, fault_from, shape_fault}
use Rattle.files.specs.Files.{There}
use Rattle.causes.specs.Causes.{judged_records, record_in, RightBefore, RightSection, ModelCause}
use Rattle.causes.specs.Causes.{RightModel}
use Rattle.causes.proofs.Wrong.{number_in, number-some, number-none}
use Rattle.files.proofs.Roles.{role-there, role-at, in_order, section-there}
use Rattle.files.proofs.Shaped.{role-fits, judged-section, file-end}
use Rattle.causes.proofs.Found.{either-found, given-found, Found, rest-found, moved-found, section-found}
use Rattle.causes.proofs.Found.{fits-is, unfit-is}
use Rattle.causes.proofs.Found.{first-at, judged-placed, reader-first}

-- A section that fits and in which nothing is found is right.
right-section : (m : List ℕ) (r : Role) → fits m (place_of_role m r) ≡ true
    → reader (get_or m 0 0) r (fact_count m) (section_of m r) ≡ none → RightSection m r
right-section m r fit fine = record {
  fits = fits-is m (place_of_role m r) fit;
  records = λ n h. number-none (get_or m 0 0) r (fact_count m) n (record_in m r n) (clear n h);
}
  where
    clear : (n : ℕ) → n < length (judged_records r (section_of m r))
        → number_in (get_or m 0 0) r (fact_count m) n (record_in m r n) ≡ none
    clear n h =
        let found = sym (reader-first (get_or m 0 0) r (fact_count m) (section_of m r)) ∙ fine in
        let number = number_in (get_or m 0 0) r (fact_count m) in
        rw zero-add at (passed-at number 0 0 (judged_records r (section_of m r)) found n h)

-- A model without a fault is right.
pub right-model : (m : List ℕ) → shape_fault m ≡ none → RightModel m
right-model m fine = record {
  sections = λ q there. right-section m q (role-fits m fine q there) (judged-section m fine q);
  ends = file-end m fine;
}

-- The fault of a section whose earlier ones are right is a cause for the model.
module _ (m : List ℕ) (r : Role) (there : There m r) (before : RightBefore m r) (f : Fault) where
  section-cause : place_of_role m r ≤ length m
      → in_section (reader (get_or m 0 0) r (fact_count m)) m (place_of_role m r) ≡ some f
      → Found m (ModelCause m) f
  section-cause low e =
      ⊎_elim
      (λ (short, is).
      rest-found m (ModelCause m) (place_of_role m r) is low (ModelCause.unfit r there before (unfit-is m _ short)))
      (λ (fit, g, found, is).
      let here = section-there m r there in
      moved-found m (place_of_role m r) fit (ModelCause m) is (rw here at (inside fit g (rw (← here) at found))))
      (section-found (reader (get_or m 0 0) r (fact_count m)) m (place_of_role m r) f e)
    where
      inside : fits m (place_of_role m r) ≡ true → (g : Fault)
          → reader (get_or m 0 0) r (fact_count m) (section_of m r) ≡ some g
          → Found (section_of m r) (ModelCause m) g
      inside fit g found =
          let F = fact_count m in
          let rs = judged_records r (section_of m r) in
          let number = number_in (get_or m 0 0) r F in
          let at = first-at number 0 0 rs g (sym (reader-first (get_or m 0 0) r F (section_of m r)) ∙ found) in
          let n = at.index in
          let here : number_in (get_or m 0 0) r F n (get_or rs n []) ≡ some g.number = rw zero-add at at.refused in
          let (is, within) = judged-placed r (section_of m r) n at.there in
          let start : g.start ≡ place_of n rs = omega (arith, at.start_is) in
          let bytes : take g.size (drop g.start (section_of m r)) ≡ record_in m r n = cc (is, start, at.size_is) in
          let (wrong, least) = number-some (get_or m 0 0) r F n (record_in m r n) g.number here in
          record {
            within = omega (arith, at.size_is, within);
            cause = rw bytes
                (ModelCause.wrong r there before (fits-is m _ fit) n at.there
                (λ i j l w. number-none (get_or m 0 0) r F i (record_in m r i) (rw zero-add at (at.earlier i l)) j w)
                wrong least);
          }

-- The sections from section j on: the first that is at fault, or bytes after the last.
module _ (F : ℕ) (file : List ℕ) (f : Fault) where
  -- the sections of these roles, from section j on, have no fault before section i of them
  abbrev Clear : List Role → ℕ → ℕ → Type 0
  Clear rs j i =
      (q : ℕ) → q < i → in_section (reader (get_or file 0 0) (get_or rs q Formulas) F) file (section_at file (j + q)) ≡ none

  -- there is the fault
  record Stop (rs : List Role) (j : ℕ) : Type 0 where
    index : ℕ
    clear : Clear rs j index
    here : ((index < length rs)
        × (in_section (reader (get_or file 0 0) (get_or rs index Formulas) F) file (section_at file (j + index)) ≡ some f))
        ⊎ ((index ≡ length rs) × (left_over file (section_at file (j + index)) ≡ some f))

  stops : (rs : List Role) (j : ℕ) → fault_from rs F file (section_at file j) ≡ some f → Stop rs j
  unfolding fault_from section_at
  stops [] j e = record { index = 0; clear = λ q l. absurd (omega arith); here = inr (refl, rw (add-zero j) e) }
  stops (r ∷ rs) j e = go (either-found _ _ f e) (stops rs (suc j))
    where
      go : (in_section (reader (get_or file 0 0) r F) file (section_at file j) ≡ some f)
          ⊎ ((in_section (reader (get_or file 0 0) r F) file (section_at file j) ≡ none)
          × (fault_from rs F file (section_at file (suc j)) ≡ some f))
          → (fault_from rs F file (section_at file (suc j)) ≡ some f → Stop rs (suc j)) → Stop (r ∷ rs) j
      go (inl here) later =
          record { index = 0; clear = λ q l. absurd (omega arith); here = inl (omega arith, rw (add-zero j) here) }
      go (inr (fine, rest)) later =
          let s = later rest in
          let same : j + suc s.index ≡ suc j + s.index = omega arith in
          record {
            index = suc s.index;
            clear = λ q l. passed fine q l s.clear;
            here = rw same (⊎_elim (λ (l, h). inl (omega arith, h)) (λ (l, h). inr (omega arith, h)) s.here);
          }
        where
          passed : in_section (reader (get_or file 0 0) r F) file (section_at file j) ≡ none → {i : ℕ} (q : ℕ) → q < suc i
              → Clear rs (suc j) i
              → in_section (reader (get_or file 0 0) (get_or (r ∷ rs) q Formulas) F) file (section_at file (j + q)) ≡ none
          passed fine zero l clear = rw (add-zero j) fine
          passed fine (suc q) l clear =
              let same : j + suc q ≡ suc j + q = omega arith in
              rw same (clear q (omega arith))

-- Where the sections so far have no fault, the next one starts within the file.
reached : (m : List ℕ) (f : Fault) → 1 ≤ length m → (i : ℕ) → Clear (fact_count m) m f (roles_of m) 0 i
    → section_at m i ≤ length m
unfolding section_at
reached m f some_byte zero clear = some_byte
reached m f some_byte (suc i) clear =
    let fine = rw zero-add at (clear i (omega arith)) in
    let r = get_or (roles_of m) i Formulas in
    let (fit, _) = section-fine (reader (get_or m 0 0) r (fact_count m)) m (section_at m i) fine in
    (fits-within m (section_at m i) fit).1

-- The fault of a model that has a byte has its cause.
pub model-cause : (m : List ℕ) → 1 ≤ length m → (f : Fault) → shape_fault m ≡ some f → Found m (ModelCause m) f
unfolding shape_fault place_of_role left_over roles_of
model-cause m some_byte f e = ⊎_elim there left s.here
  where
    rs : List Role
    rs = roles_of m

    s : Stop (fact_count m) m f rs 0
    s = stops (fact_count m) m f rs 0 e

    -- a section before the fault is right
    right : (q : Role) → index_of q rs < s.index → There m q → RightSection m q
    right q l there-q =
        let fine = rw (zero-add, role-there rs q there-q) at (s.clear (index_of q rs) l) in
        let (fit, None-found) = section-fine (reader (get_or m 0 0) q (fact_count m)) m (place_of_role m q) fine in
        right-section m q fit (rw (section-there m q there-q) None-found)

    there : (s.index < length rs)
        × (in_section (reader (get_or m 0 0) (get_or rs s.index Formulas) (fact_count m)) m (section_at m (0 + s.index))
        ≡ some f)
        → Found m (ModelCause m) f
    there (l, found) =
        let r = get_or rs s.index Formulas in
        let is : index_of r rs ≡ s.index = role-at (get_or m 0 0) s.index l in
        let place : place_of_role m r ≡ section_at m s.index = rw is in
        let there-r : There m r = omega arith in
        let before : RightBefore m r = λ q there-q h. right q (rw is at (in_order m q r there-q there-r h)) there-q in
        section-cause m r there-r before f
        (rw place (reached m f some_byte s.index s.clear)) (rw place (rw zero-add at found))

    left : (s.index ≡ length rs) × (left_over m (section_at m (0 + s.index)) ≡ some f) → Found m (ModelCause m) f
    left (l, found) =
        let (more, is) = given-found _ _ f (rw (zero-add, l) at found) in
        let less : section_at m (length rs) < length m = ltb-true _ _ more in
        rest-found m (ModelCause m) (section_at m (length rs)) is (omega arith)
        (ModelCause.after (λ q there-q. right q (omega arith) there-q) less)
