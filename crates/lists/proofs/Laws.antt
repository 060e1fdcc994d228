-- What judging gives: every record of a section without a fault is fine, and its lists fill it.
use Prim.Native.Nat.{ℕ, zero, suc, ◌+◌, ◌≤◌, ◌<◌, suc-le-suc}
use mathlib.Core.Path.{◌≡◌, refl, ap, ◌∙◌, sym}
use mathlib.Core.Bool.{Bool, true, false, ◌||◌, cond, true≢false}
use mathlib.Core.List.Memᴰ
use mathlib.Core.List.{List, [], ◌∷◌}
use mathlib.Core.Option.{Option, none, some, none-ne-some, some-ne-none}
use native.Mathlib.Nat.{not-suc-le-zero, le_of_suc-le-suc, add-zero, zero-add, suc-add, add-suc, le_refl}
use native.Mathlib.Omega.{arith}
use lib.Dec.{leb, ltb}
use lib.ListN.{length, drop, get_or}
use lib.Seq.{drop-drop}
use borrow.Author.Tests.{leb-true, leb-false, le-leb}
use Rattle.sets.specs.Sets.{◌∈◌}
use Rattle.sets.proofs.Laws.{by-test}
use Rattle.records.specs.Words.{word, words, odd}
use Rattle.records.specs.Records.{records, whole, cut, lists_of}
use Rattle.records.specs.Records.{most, judge, first_from, first_fault_lem}
use Rattle.records.specs.Refusals.{code}
use Rattle.lists.specs.Lists.{Cut, AllCut, ListBytes}
use Rattle.records.specs.declared.Kind.{Kind}
use Rattle.records.specs.declared.Kind.TheVariants.{Clause}
use Rattle.records.proofs.Sections.{first-here, first-later}
use Rattle.records.proofs.Judging.{Judged, judged}

-- Two answers that meet the contract of `list_of` are equal.
pub list_unique : {K : Kind} {r : List ℕ} {j : ℕ} {x y : List ℕ} → ListBytes K r j x → ListBytes K r j y → x ≡ y
list_unique p q = p.these ∙ sym q.these

-- The lists of a clause are its head by itself and its body.
pub clause-lists : (r : List ℕ) → Cut Clause r
    → lists_of Clause r ≡ some ((word (drop 2 r) ∷ []) ∷ words (drop 4 r) ∷ [])
unfolding Cut lists_of cut
clause-lists r (lists, e) = rw (← drop-drop 2 2 r) (go (whole r) (odd body || ltb (length body) 2) e)
  where
    body : List ℕ
    body = drop 2 r

    go : (fits short : Bool)
        → cond fits (cond short none (some ((word body ∷ []) ∷ words (drop 2 body) ∷ []))) none ≡ some lists
        → cond fits (cond short none (some ((word body ∷ []) ∷ words (drop 2 body) ∷ []))) none
        ≡ some ((word body ∷ []) ∷ words (drop 2 body) ∷ [])
    go true true h = absurd (none-ne-some _ h)
    go true false h = refl
    go false short h = absurd (none-ne-some _ h)

-- ---- entries of a list

-- an entry stands at some index
index_of : {r : List ℕ} {rs : List (List ℕ)} → r ∈ rs → (i : ℕ) × (i < length rs) × (get_or rs i [] ≡ r)
index_of (Memᴰ.head e) = (0, omega arith, sym e)
index_of (Memᴰ.tail m) = let (i, h, e) = index_of m in (suc i, suc-le-suc h, e)

-- ---- a section with no fault

module _ (refuses : ℕ → List ℕ → Option ℕ) where
  -- with no fault the first record is passed, and there is none after it
  first_passes : (n at : ℕ) (r : List ℕ) (rs : List (List ℕ)) → first_from refuses n at (r ∷ rs) ≡ none
      → (refuses n r ≡ none) × (first_from refuses (suc n) (at + length r) rs ≡ none)
  first_passes n at r rs h = go (refuses n r) refl
    where
      go : (number : Option ℕ) → refuses n r ≡ number
          → (refuses n r ≡ none) × (first_from refuses (suc n) (at + length r) rs ≡ none)
      go none e = (e, rw (first-later refuses n at r rs e) at h)
      go (some k) e = absurd (some-ne-none _ (sym (first-here refuses n at r rs k e) ∙ h))

  -- Where no record from record n on is refused, each is passed at its own number.
  pub passed-at : (n at : ℕ) (rs : List (List ℕ)) → first_from refuses n at rs ≡ none → (i : ℕ) → i < length rs
      → refuses (n + i) (get_or rs i []) ≡ none
  passed-at n at [] h i l = absurd (not-suc-le-zero l)
  passed-at n at (r ∷ rs) h zero l = rw add-zero (first_passes n at r rs h).0
  passed-at n at (r ∷ rs) h (suc i) l =
      rw (add-suc, ← suc-add)
      (passed-at (suc n) (at + length r) rs (first_passes n at r rs h).1 i (le_of_suc-le-suc l))

  -- In a section with no fault each record is passed.
  passed-record : (section : List ℕ) → first_fault_lem refuses section ≡ none → (r : List ℕ) → r ∈ records section
      → (n : ℕ) × (refuses n r ≡ none)
  unfolding first_fault_lem
  passed-record section fine r member =
      let (i, h, e) = index_of member in
      (0 + i, rw e at (passed-at 0 0 (records section) fine i h))

module _ (K : Kind) (F : ℕ) (section : List ℕ) (fine : first_fault_lem (judge K F) section ≡ none) where
  -- A judged section has no more records than its bound.
  pub judged-count : length (records section) ≤ most K
  unfolding first_fault_lem
  judged-count =
      by-test (leb (length (records section)) (most K)) (leb-true _ _)
      (λ e. absurd (true≢false (sym (le-leb (most K) (most K) (le_refl (most K))) ∙ beyond (leb-false _ _ e))))
    where
      beyond : most K < length (records section) → leb (most K) (most K) ≡ false
      beyond h =
          let last = get_or (records section) (most K) [] in
          let passed = rw zero-add at (passed-at (judge K F) 0 0 (records section) fine (most K) h) in
          (judged K F (most K) last (sym (ap code passed))).counted

  module _ (r : List ℕ) (member : r ∈ records section) where
    -- the record was judged under some number, and nothing is wrong with it
    pub judged_as : (n : ℕ) × Judged K F n r
    judged_as = let (n, e) = passed-record (judge K F) section fine r member in (n, judged K F n r (sym (ap code e)))

  -- The lists of every record of a judged section fill it.
  pub judged-cut : AllCut K section
  unfolding AllCut Cut
  judged-cut r member = let j = (judged_as r member).1 in (j.lists, j.fill)
