-- Laws on where the records of a section start.
use Prim.Native.Nat.{ℕ, zero, suc, ◌+◌, ◌≤◌, ◌<◌}
use mathlib.Core.Path.{◌≡◌, refl, ap, ◌∙◌, sym}
use mathlib.Core.List.Memᴰ
use mathlib.Core.List.{List, [], ◌∷◌}
use native.Mathlib.Nat.{not-suc-le-zero, le_of_suc-le-suc, le_refl}
use native.Mathlib.Omega.{arith}
use lib.ListN.{length, drop, get_or, length-drop}
use lib.Seq.{drop-drop}
use Rattle.sets.specs.Sets.{◌∈◌}
use Rattle.records.specs.Records.{record_of_lem, records, place_of}
use Rattle.records.proofs.Sections.{record-size, records-none, records-next}

-- how many bytes these records take together
abbrev pub total : List (List ℕ) → ℕ
total [] = 0
total (r ∷ rs) = length r + total rs

-- the bytes after a section's first record
abbrev later : List ℕ → List ℕ
later section = drop (length (record_of_lem section)) section

-- What holds of no bytes, and of a section where it holds of the bytes after the first record, holds of every section.
pub by-records : (P : List ℕ → Type 0) → P []
    → ((section : List ℕ) → 0 < length section → P (later section) → P section)
    → (section : List ℕ) → P section
by-records P none next section = go (length section) section (le_refl (length section))
  where
    go : (turns : ℕ) (bytes : List ℕ) → length bytes ≤ turns → P bytes
    go zero [] h = none
    go zero (b ∷ bytes) h = absurd (not-suc-le-zero h)
    go (suc turns) [] h = none
    go (suc turns) (b ∷ bytes) h =
        let size = record-size (b ∷ bytes) (omega arith) in
        next (b ∷ bytes) (omega arith) (go turns (later (b ∷ bytes)) (rw length-drop (omega arith)))

-- each record of the section is the one at its place
abbrev Placed : List ℕ → Type 0
Placed section =
    (n : ℕ) → n < length (records section)
    → record_of_lem (drop (place_of n (records section)) section) ≡ get_or (records section) n []

-- Record n of a section is the one at its place.
pub place-record : (section : List ℕ) (n : ℕ) → n < length (records section)
    → record_of_lem (drop (place_of n (records section)) section) ≡ get_or (records section) n []
unfolding place_of
place-record = by-records Placed (λ n h. absurd (not-suc-le-zero (rw records-none at h))) next
  where
    next : (section : List ℕ) → 0 < length section → Placed (later section) → Placed section
    next section h ih zero k = ap (λ (rs : List (List ℕ)). get_or rs 0 []) (sym (records-next section h))
    next section h ih (suc n) k =
        rw (records-next section h)
        (ap record_of_lem (sym (drop-drop _ (length (record_of_lem section)) section))
        ∙ ih n (le_of_suc-le-suc (rw (records-next section h) at k)))

-- no place of the section's records is past its end
abbrev Inside : List ℕ → Type 0
Inside section = (n : ℕ) → place_of n (records section) ≤ length section

-- No record's place is past the section's end.
pub place_le : (section : List ℕ) (n : ℕ) → place_of n (records section) ≤ length section
unfolding place_of
place_le = by-records Inside none next
  where
    none : Inside []
    none zero = le_refl 0
    none (suc n) = rw records-none (le_refl 0)

    next : (section : List ℕ) → 0 < length section → Inside (later section) → Inside section
    next section h ih zero = omega arith
    next section h ih (suc n) =
        rw (records-next section h)
        (omega (arith, ih n, record-size section h, length-drop (length (record_of_lem section)) section))

-- A record starts where the one before it ends.
pub place-next : (rs : List (List ℕ)) (k : ℕ) → k < length rs
    → place_of (suc k) rs ≡ place_of k rs + length (get_or rs k [])
unfolding place_of
place-next [] k h = absurd (not-suc-le-zero h)
place-next (r ∷ rs) zero h = omega arith
place-next (r ∷ rs) (suc k) h = omega (arith, place-next rs k (le_of_suc-le-suc h))

-- The lengths of the records add up to the section's.
pub records_sum : (section : List ℕ) → place_of (length (records section)) (records section) ≡ length section
unfolding place_of
records_sum =
    by-records (λ section. place_of (length (records section)) (records section) ≡ length section) (rw records-none)
    (λ section h ih.
    let left = length-drop (length (record_of_lem section)) section in
    rw (records-next section h) (omega (arith, ih, record-size section h, left)))

pub total_records : (section : List ℕ) → total (records section) ≡ length section
total_records =
    by-records (λ section. total (records section) ≡ length section) (rw records-none)
    (λ section h ih.
    let left = length-drop (length (record_of_lem section)) section in
    rw (records-next section h) (omega (arith, ih, record-size section h, left)))

-- A record takes a byte at least.
pub few_records : (section : List ℕ) → length (records section) ≤ length section
few_records =
    by-records (λ section. length (records section) ≤ length section) (rw records-none (le_refl 0))
    (λ section h ih.
    let left = length-drop (length (record_of_lem section)) section in
    rw (records-next section h) (omega (arith, ih, record-size section h, left)))

-- Record n of a list that has so many is one of the list's.
pub record_in_lem : (rs : List (List ℕ)) (n : ℕ) → n < length rs → get_or rs n [] ∈ rs
record_in_lem [] n h = absurd (not-suc-le-zero h)
record_in_lem (r ∷ rs) zero h = Memᴰ.head refl
record_in_lem (r ∷ rs) (suc n) h = Memᴰ.tail (record_in_lem rs n (le_of_suc-le-suc h))

-- Once a record is passed, the place is that of one record fewer among the others.
pub place_passed : (r : List ℕ) (rs others : List (List ℕ)) (n left : ℕ) → rs ≡ r ∷ others → left + 1 ≡ n
    → place_of n rs ≡ length r + place_of left others
unfolding place_of
place_passed r rs others n left e h = let more : n ≡ suc left = omega (arith, h) in rw (e, more)

-- With none to pass, or none left, it is the place at hand.
pub place_end : (rs : List (List ℕ)) (n : ℕ) → (0 < n → rs ≡ []) → place_of n rs ≡ 0
unfolding place_of
place_end rs zero none = refl
place_end rs (suc n) none = rw (none (omega arith))
