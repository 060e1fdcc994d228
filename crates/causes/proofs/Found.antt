-- Laws on a fault that is found in a file: where it stands, and that its bytes are those at its place.
use Prim.Native.Nat.{ℕ, zero, suc, ◌+◌, ◌≤◌, ◌<◌}
use mathlib.Core.Path.{◌≡◌, refl, sym, ap, ◌∙◌}
use mathlib.Core.Logic.{◌⊎◌, inl, inr}
use mathlib.Core.Bool.{Bool, true, false, true≢false, cond}
use mathlib.Core.List.{List, [], ◌∷◌}
use mathlib.Core.Option.{Option, none, some, map, none-ne-some}
use native.Mathlib.Nat.{add-zero}
use native.Mathlib.Omega.{arith}
use borrow.Author.Tests.{leb-true, leb-false}
use lib.Dec.{leb}
use lib.ListN.{length, take, drop, get_or, length-take, length-drop, take-append-drop}
use lib.Seq.{drop-drop, drop-append-le, take-append-le, take-length, length-take-le}
use Rattle.sets.proofs.Laws.{by-test}
use Rattle.records.specs.Words.{word}
use Rattle.records.specs.Records.{given, ◌or_else◌, record_of_lem, records, place_of, bare, first_from, first_fault_lem}
use Rattle.records.specs.Refusals.{Fault}
use Rattle.records.proofs.Sections.{rest_of, record-fits, record-rest, first-here, first-later}
use Rattle.records.proofs.Places.{place-record, place_le}
use Rattle.sections.specs.Sections.{long, end_at, fits, payload, rest_fault_lem, moved, in_section, all_of, sizes, reader}
use Rattle.sections.specs.declared.Role.{Role}
use Rattle.sections.specs.declared.Role.TheVariants.{Sizes, Initial, Persistent, Names, Clauses, Rules, Goals}
use Rattle.sections.specs.declared.Role.TheVariants.{Formulas}
use Rattle.sections.proofs.Parts.{fit-ended, ended-size, within-fits}
use Rattle.sections.proofs.Fits.{fits-within}
use Rattle.causes.specs.Causes.{judged_records, Fits}
use Rattle.causes.proofs.Wrong.{number_in}

-- ---- what is found

module _ {A : Type 0} where
  -- The first of two that are looked for is the one found, or the second where there is no first.
  pub either-found : (x y : Option A) (a : A) → (x or_else y) ≡ some a → (x ≡ some a) ⊎ ((x ≡ none) × (y ≡ some a))
  unfolding ◌or_else◌
  either-found none y a e = inr (refl, e)
  either-found (some b) y a e = inl e

  -- What a test gives is there where the test holds.
  pub given-found : (test : Bool) (x a : A) → given test x ≡ some a → (test ≡ true) × (a ≡ x)
  unfolding given
  given-found true x a e = (refl, cc)
  given-found false x a e = absurd (none-ne-some a e)

-- a fault of a file: its place lies in the file, and its number has this cause with the bytes there
pub record Found (file : List ℕ) (C : ℕ → List ℕ → Type 0) (f : Fault) : Type 0 where
  pub within : f.start + f.size ≤ length file
  pub cause : C f.number (take f.size (drop f.start file))

-- "the rest of the file"
pub rest-found : (file : List ℕ) (C : ℕ → List ℕ → Type 0) (at : ℕ) {f : Fault} → f ≡ rest_fault_lem file at
    → at ≤ length file
    → C 4 (drop at file) → Found file C f
unfolding rest_fault_lem
rest-found file C at e h c = rw e (record { within = omega arith; cause = rw (rest_of file at) c })

-- ---- a section's bytes

-- A section's length fits, in numbers,
pub fits-is : (file : List ℕ) (at : ℕ) → fits file at ≡ true → Fits file at
unfolding Fits end_at
fits-is file at e = omega (arith, fits-within file at e)

-- or it doesn't.
pub unfit-is : (file : List ℕ) (at : ℕ) → fits file at ≡ false → Fits file at → ⊥
unfolding Fits
unfit-is file at e h = true≢false (sym (within-fits file at h) ∙ e)

-- The bytes at a place within a section are those at that place of the file.
pub inner : (file : List ℕ) (at start size : ℕ) → start + size ≤ length (payload file at)
    → take size (drop (at + 4 + start) file) ≡ take size (drop start (payload file at))
unfolding payload
inner file at start size h =
    let rest = drop (at + 4) file in
    let p = take (long (drop at file)) rest in
    let q = drop (long (drop at file)) rest in
    ap (take size) (sym (drop-drop start (at + 4) file))
    ∙ ap (λ (x : List ℕ). take size (drop start x)) (sym (take-append-drop (long (drop at file)) rest))
    ∙ ap (take size) (drop-append-le start p q (omega arith))
    ∙ take-append-le size (drop start p) q (rw length-drop (omega arith))

-- a fault in a section's bytes, at its place in the file
module _ (file : List ℕ) (at : ℕ) (fit : fits file at ≡ true) where
  pub moved-found : (C : ℕ → List ℕ → Type 0) {f g : Fault} → f ≡ moved (at + 4) g → Found (payload file at) C g
      → Found file C f
  unfolding moved
  moved-found C {f} {g} e found =
      let end = fit-ended file at fit in
      rw e (record {
        within = omega (arith, found.within, end, ended-size file at _ end);
        cause = rw (inner file at g.start g.size found.within) found.cause;
      })

-- The fault of a section is that of its length, or what its reader finds.
pub section-found : (find : List ℕ → Option Fault) (file : List ℕ) (at : ℕ) (f : Fault)
    → in_section find file at ≡ some f
    → ((fits file at ≡ false) × (f ≡ rest_fault_lem file at))
    ⊎ ((fits file at ≡ true) × (g : Fault) × (find (payload file at) ≡ some g) × (f ≡ moved (at + 4) g))
unfolding in_section
section-found find file at f e = go (fits file at) (find (payload file at)) refl refl e
  where
    go : (b : Bool) (found : Option Fault) → fits file at ≡ b → find (payload file at) ≡ found
        → cond b (map (moved (at + 4)) found) (some (rest_fault_lem file at)) ≡ some f
        → ((fits file at ≡ false) × (f ≡ rest_fault_lem file at))
        ⊎ ((fits file at ≡ true) × (g : Fault) × (find (payload file at) ≡ some g) × (f ≡ moved (at + 4) g))
    go true none b e h = absurd (none-ne-some f h)
    go true (some g) b e h = inr (b, g, e, cc)
    go false found b e h = inl (b, cc)

-- ---- the first record at fault

-- record i, of those from record n on, is the first that is refused
pub record FirstAt (refuses : ℕ → List ℕ → Option ℕ) (n at : ℕ) (rs : List (List ℕ)) (f : Fault) : Type 0 where
  pub index : ℕ
  pub there : index < length rs
  pub refused : refuses (n + index) (get_or rs index []) ≡ some f.number
  pub earlier : (j : ℕ) → j < index → refuses (n + j) (get_or rs j []) ≡ none
  pub start_is : f.start ≡ at + place_of index rs
  pub size_is : f.size ≡ length (get_or rs index [])

module _ (refuses : ℕ → List ℕ → Option ℕ) where
  pub first-at : (n at : ℕ) (rs : List (List ℕ)) (f : Fault) → first_from refuses n at rs ≡ some f
      → FirstAt refuses n at rs f
  unfolding first_from place_of
  first-at n at [] f e = absurd (none-ne-some f e)
  first-at n at (r ∷ rs) f e = go (refuses n r) refl (first-at (suc n) (at + length r) rs f)
    where
      go : (number : Option ℕ) → refuses n r ≡ number
          → (first_from refuses (suc n) (at + length r) rs ≡ some f → FirstAt refuses (suc n) (at + length r) rs f)
          → FirstAt refuses n at (r ∷ rs) f
      go (some k) h further =
          let here = sym (first-here refuses n at r rs k h) ∙ e in
          let start : at ≡ f.start = cc in
          let size : length r ≡ f.size = cc in
          let number : k ≡ f.number = cc in
          record {
            index = 0;
            there = omega arith;
            refused = rw (add-zero n) (rw number at h);
            earlier = λ j l. absurd (omega arith);
            start_is = omega arith;
            size_is = sym size;
          }
      go none h further =
          let later = further (sym (first-later refuses n at r rs h) ∙ e) in
          let next : (j : ℕ) → n + suc j ≡ suc n + j = λ j. omega arith in
          record {
            index = suc later.index;
            there = omega (arith, later.there);
            refused = rw (next later.index) later.refused;
            earlier = λ j l. before j l later.earlier;
            start_is = omega (arith, later.start_is);
            size_is = later.size_is;
          }
        where
          before : {i : ℕ} (j : ℕ) → j < suc i → ((j : ℕ) → j < i → refuses (suc n + j) (get_or rs j []) ≡ none)
              → refuses (n + j) (get_or (r ∷ rs) j []) ≡ none
          before zero l all = rw (add-zero n) h
          before (suc j) l all = let same : n + suc j ≡ suc n + j = omega arith in rw same (all j (omega arith))

-- A record's bytes are the first of those from its place on.
record-front : (bytes : List ℕ) → take (length (record_of_lem bytes)) bytes ≡ record_of_lem bytes
record-front bytes =
    by-test (leb (2 + word bytes) (length bytes))
    (λ e. let h = leb-true _ _ e in rw (record-fits bytes h, length-take-le (2 + word bytes) bytes h))
    (λ e. rw (record-rest bytes (leb-false _ _ e)) (take-length bytes))

-- the bytes at the place of a section's record n are that record's
abbrev pub Placed : List ℕ → List (List ℕ) → ℕ → Type 0
Placed bytes rs n =
    (take (length (get_or rs n [])) (drop (place_of n rs) bytes) ≡ get_or rs n [])
    × (place_of n rs + length (get_or rs n []) ≤ length bytes)

pub record-placed : (bytes : List ℕ) (n : ℕ) → n < length (records bytes) → Placed bytes (records bytes) n
record-placed bytes n h =
    let r = get_or (records bytes) n [] in
    let is : take (length r) (drop (place_of n (records bytes)) bytes) ≡ r =
    rw (← place-record bytes n h) (record-front (drop (place_of n (records bytes)) bytes)) in
    (is, omega (arith, simp (length-take, length-drop) at (ap length is), place_le bytes n))

-- A record is as many bytes from its place on as its length says or, where that doesn't fit, "the rest of the section,
-- from that length on".
pub record_or_rest : (section : List ℕ) (n : ℕ) → n < length (records section)
    → ((2 + word (drop (place_of n (records section)) section) ≤ length (drop (place_of n (records section)) section))
    × (get_or (records section) n []
    ≡ take (2 + word (drop (place_of n (records section)) section)) (drop (place_of n (records section)) section)))
    ⊎ ((length (drop (place_of n (records section)) section) < 2 + word (drop (place_of n (records section)) section))
    × (get_or (records section) n [] ≡ drop (place_of n (records section)) section))
record_or_rest section n h =
    let here = drop (place_of n (records section)) section in
    let is = sym (place-record section n h) in
    by-test (leb (2 + word here) (length here))
    (λ e. let fits = leb-true (2 + word here) (length here) e in inl (fits, is ∙ record-fits here fits))
    (λ e. let short = leb-false (2 + word here) (length here) e in inr (short, is ∙ record-rest here short))

-- the section is one record
whole-placed : (bytes : List ℕ) (n : ℕ) → n < 1 → Placed bytes (bytes ∷ []) n
unfolding place_of
whole-placed bytes zero h = (take-length bytes, omega arith)
whole-placed bytes (suc n) h = absurd (omega arith)

pub judged-placed : (role : Role) (bytes : List ℕ) (n : ℕ) → n < length (judged_records role bytes)
    → Placed bytes (judged_records role bytes) n
unfolding judged_records
judged-placed Sizes bytes = whole-placed bytes
judged-placed Initial bytes = whole-placed bytes
judged-placed Persistent bytes = whole-placed bytes
judged-placed Names bytes = whole-placed bytes
judged-placed Clauses bytes = record-placed bytes
judged-placed Rules bytes = record-placed bytes
judged-placed Goals bytes = record-placed bytes
judged-placed Formulas bytes = record-placed bytes

-- A number for all of some bytes is that of the only record.
all_first : (find : List ℕ → Option ℕ) (bytes : List ℕ)
    → all_of (find bytes) bytes ≡ first_from (λ n r. find r) 0 0 (bytes ∷ [])
unfolding all_of first_from
all_first find bytes = go (find bytes) refl
  where
    go : (number : Option ℕ) → find bytes ≡ number
        → all_of (find bytes) bytes ≡ first_from (λ n r. find r) 0 0 (bytes ∷ [])
    go none e = rw (e, first_from)
    go (some k) e = rw (e, first_from)

-- A section's reader finds the first of its records that is refused.
pub reader-first : (version : ℕ) (role : Role) (F : ℕ) (bytes : List ℕ)
    → reader version role F bytes ≡ first_from (number_in version role F) 0 0 (judged_records role bytes)
unfolding reader number_in judged_records first_fault_lem
reader-first version Sizes F bytes = all_first sizes bytes
reader-first version Initial F bytes = all_first (bare false F) bytes
reader-first version Persistent F bytes = all_first (bare false F) bytes
reader-first version Names F bytes = all_first (bare true 1024) bytes
reader-first version Clauses F bytes = refl
reader-first version Rules F bytes = refl
reader-first version Goals F bytes = refl
reader-first version Formulas F bytes = refl
