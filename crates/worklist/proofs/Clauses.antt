-- Clause k of a judged section, where its record starts.
use Prim.Native.Nat.{ℕ, suc, ◌+◌, ◌-◌, ◌*◌, ◌/◌, ◌≤◌, ◌<◌}
use mathlib.Core.Path.{◌≡◌, sym, ap, ◌∙◌}
use mathlib.Core.List.{List, []}
use native.Mathlib.Numerals.{add-one}
use native.Mathlib.Omega.{arith}
use lib.ListN.{length, get_or, take, drop, length-drop, length-map, get_or-map}
use lib.Seq.{drop-drop, get_or-drop, get_or-take}
use Rattle.meaning.specs.Model.{Clause}
use Rattle.meaning.specs.Working.{clause_at}
use Rattle.records.specs.Words.{word, words}
use Rattle.records.specs.Records.{record_of_lem, records}
use Rattle.records.specs.declared.Kind.{Kind}
use Rattle.records.proofs.Words.{length-words}
use Rattle.records.proofs.Places.{place-record, place-next, record_in_lem}
use Rattle.lists.specs.Lists.{AllCut}
use Rattle.lists.proofs.Clauses.{clause-bytes}
use Rattle.files.specs.Files.{clause_of, clauses_in}
use Rattle.worklist.specs.Working.{Placed}

-- Clause k stands at a place: its length, which is its head's 2 bytes and 2 for each body fact, then its head.
pub record ClauseAt (section : List ℕ) (k at : ℕ) : Type 0 where
  pub fits : at + 4 ≤ length section
  pub size : word (drop at section) ≡ 2 + 2 * length (clause_at (clauses_in section) k).body
  pub head : word (drop (at + 2) section) ≡ (clause_at (clauses_in section) k).head

-- the number that stands within a part is the one in the whole
word-within : (m : ℕ) (bytes : List ℕ) → 4 ≤ m → word (drop 2 (take m bytes)) ≡ word (drop 2 bytes)
unfolding word
word-within m bytes h =
    let byte : (i : ℕ) → 2 + i < m → get_or (drop 2 (take m bytes)) i 0 ≡ get_or (drop 2 bytes) i 0 =
    λ i l. get_or-drop 2 (take m bytes) i 0 ∙ get_or-take m bytes (2 + i) 0 l ∙ sym (get_or-drop 2 bytes i 0)
    in
    rw (byte 0 (omega arith), byte 1 (omega arith))

module _ (section : List ℕ) (all : AllCut Kind.Clause section) {starts : List ℕ} (placed : Placed section starts)
    (k : ℕ) (h : k < length starts) where
  pub clause-there : ClauseAt section k (get_or starts k 0)
  unfolding AllCut clauses_in clause_of words word
  clause-there =
      let rs = records section in
      let at = get_or starts k 0 in
      let from = drop at section in
      let r = get_or rs k [] in
      let number : k < length rs = omega (arith, length-map rs clause_of) in
      let there : record_of_lem from ≡ r = rw (placed.places k h) (place-record section k number) in
      let b = clause-bytes from (rw there (all r (record_in_lem rs k number))) in
      let is : r ≡ take (2 + word from) from = sym there ∙ b.is in
      let nth : clause_at (clauses_in section) k ≡ clause_of r = get_or-map clause_of rs k [] in
      let size : length r ≡ 2 + word from = rw there at b.size in
      let left : length from ≡ length section - at = length-drop at section in
      let four : length (drop 4 r) ≡ length r - 4 = length-drop 4 r in
      let facts : length (words (drop 4 r)) ≡ length (drop 4 r) / 2 = length-words (drop 4 r) in
      let body : length (clause_at (clauses_in section) k).body ≡ length (words (drop 4 r)) =
      ap (λ (c : Clause). length c.body) nth
      in
      record {
        fits = omega (arith, b.fits, b.head);
        size = omega (arith, b.head, b.even);
        head =
            ap word (sym (drop-drop 2 at section)) ∙ sym (word-within (2 + word from) from (omega (arith, b.head)))
            ∙ ap (λ (bytes : List ℕ). word (drop 2 bytes)) (sym is) ∙ sym (ap (λ (c : Clause). c.head) nth);
      }

  -- Its record ends where the next one starts.
  pub clause-end : k + 1 < length starts
      → get_or starts (k + 1) 0 ≡ get_or starts k 0 + 4 + 2 * length (clause_at (clauses_in section) k).body
  unfolding AllCut clauses_in
  clause-end more =
      let rs = records section in
      let at = get_or starts k 0 in
      let number : k < length rs = omega (arith, placed.count, length-map rs clause_of) in
      let there : record_of_lem (drop at section) ≡ get_or rs k [] =
      rw (placed.places k h) (place-record section k number)
      in
      let b = clause-bytes (drop at section) (rw there (all (get_or rs k []) (record_in_lem rs k number))) in
      let size : length (get_or rs k []) ≡ 2 + word (drop at section) = rw there at b.size in
      let next = placed.places (suc k) (omega arith) in
      rw add-one (omega (arith, next, place-next rs k number, placed.places k h, clause-there.size))

-- Clause k is not the last one, and these are its start and the next one's.
pub record TwoStarts (section starts : List ℕ) (k : ℕ) (w : List ℕ) : Type 0 where
  pub more : k + 1 < length starts
  pub number : k < length (clauses_in section)
  pub ends : get_or w 1 0 ≡ get_or w 0 0 + 4 + 2 * length (clause_at (clauses_in section) k).body

module _ (section : List ℕ) (all : AllCut Kind.Clause section) {starts : List ℕ} (placed : Placed section starts) where
  -- The last clause, by the last start.
  pub clause-last : {at : ℕ} → (0 < length starts) × ((d : ℕ) → at ≡ get_or starts (length starts - 1) d)
      → ClauseAt section (length starts - 1) at
  clause-last (some, is) = rw (is 0) (clause-there section all placed (length starts - 1) (omega arith))

  -- A window of two, where what is left are the starts from the k-th on.
  pub two-starts : {left w : List ℕ} {k size : ℕ} → size ≡ 2 → left ≡ drop k starts → size ≤ length left
      → w ≡ take size left → TwoStarts section starts k w
  two-starts {left} {w} {k} {size} two is long these =
      let more : k + 1 < length starts = omega (arith, ap length is, length-drop k starts) in
      let at : (i : ℕ) → i < 2 → get_or w i 0 ≡ get_or starts (k + i) 0 =
      λ i h. rw (these, two, is) (get_or-take 2 (drop k starts) i 0 h ∙ get_or-drop k starts i 0)
      in
      let same : k + 0 ≡ k = omega arith in
      let here : get_or w 0 0 ≡ get_or starts k 0 = rw same at (at 0 (omega arith)) in
      record {
        more = more;
        number = omega (arith, placed.count);
        ends = omega (arith, here, at 1 (omega arith), clause-end section all placed k (omega arith) more);
      }
