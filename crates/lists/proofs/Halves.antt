-- Laws on searching a number among pairs of bytes by halves.
use Rattle.std.proofs.Common.{ℕ, zero, suc, ◌+◌, ◌*◌, ◌/◌, ◌≤◌, ◌<◌, ◌≡◌, refl, sym, ap, ◌∙◌, true}
use Rattle.std.proofs.Common.{List, [], length, get_or, take, drop, arith}
use Rattle.std.specs.Prelude.{Result, Ok, Err, MatchResult, is_ok}
use Rattle.std.specs.Ordering.{nat_cmp}
use Rattle.std.specs.List.Sorted.{IsBinarySearchResult, IsSearchInRange}
use Rattle.std.specs.Simd.{first_chunks}
use Rattle.std.proofs.lemmas.List.{get_or_default}
use Rattle.std.proofs.lemmas.List.Sorted.{searched}
use mathlib.Core.Logic.{⊎_elim}
use native.Mathlib.Nat.{not-suc-le-zero, le_of_suc-le-suc, le_refl}
use lib.Seq.{drop-drop}
use Rattle.sets.specs.Sets.{listed}
use Rattle.sets.proofs.Laws.{below_or_from}
use Rattle.records.specs.Words.{word, words, ascending}
use Rattle.records.proofs.Words.{length-words, words-index, word-take}
use Rattle.lists.proofs.Sorted.{ascending-at, found, not_found}

-- chunk i of 2 bytes is the two bytes at its place
chunk_index : (k : ℕ) (bytes : List ℕ) (i : ℕ) (d : List ℕ) → i < k
    → get_or (first_chunks 2 k bytes) i d ≡ take 2 (drop (2 * i) bytes)
chunk_index zero bytes i d h = absurd (not-suc-le-zero h)
chunk_index (suc k) bytes zero d h = refl
chunk_index (suc k) bytes (suc i) d h =
    let place : 2 + 2 * i ≡ 2 * suc i = omega arith in
    chunk_index k (drop 2 bytes) i d (le_of_suc-le-suc h)
    ∙ ap (take 2) (drop-drop (2 * i) 2 bytes ∙ ap (λ m. drop m bytes) place)

-- A search for a number among pairs of bytes is one among the numbers that they are.
pub among_numbers : (cs : List (List ℕ)) (xs : List ℕ) (n : ℕ) (r : Result ℕ ℕ) → length cs ≡ length xs
    → ((i : ℕ) (d : List ℕ) → i < length xs → word (get_or cs i d) ≡ get_or xs i 0) → IsSearchInRange r (length xs)
    → IsBinarySearchResult (λ y. nat_cmp (word y) n) cs r → IsBinarySearchResult (λ y. nat_cmp y n) xs r
among_numbers cs xs n (Ok i) long same within h = λ d.
    ap (λ z. nat_cmp z n) (get_or_default xs i d 0 within ∙ sym (same i [] within)) ∙ h []
among_numbers cs xs n (Err i) long same within h = λ up.
    let here : (k d : ℕ) (l : k < length xs) → nat_cmp (get_or xs k d) n ≡ nat_cmp (word (get_or cs k [])) n =
    λ k d l. ap (λ z. nat_cmp z n) (get_or_default xs k d 0 l ∙ sym (same k [] l)) in
    let parted = h (λ a b d le lt. rw (same a d (omega arith), same b d (omega arith)) (up a b 0 le (omega arith))) in (
      λ k d from l. here k d (omega arith) ∙ parted.0 k [] from l,
      λ k d from l. here k d l ∙ parted.1 k [] from (omega arith),
    )

-- What it answers says whether the number is there.
pub searched-listed : (xs : List ℕ) (n : ℕ) (r : Result ℕ ℕ) → ascending xs ≡ true
    → IsBinarySearchResult (λ y. nat_cmp y n) xs r → is_ok r ≡ listed xs n
searched-listed xs n r sorted h = go r (searched xs n r h rises)
  where
    rises : (i j : ℕ) → i ≤ j → j < length xs → get_or xs i 0 ≤ get_or xs j 0
    rises i j le l = ⊎_elim (λ k. omega (arith, ascending-at xs sorted i j k l))
        (λ k. let same : i ≡ j = omega arith in rw same (le_refl (get_or xs j 0))) (below_or_from i j)

    go : (r : Result ℕ ℕ)
        → MatchResult r (λ i. (i < length xs) × (get_or xs i 0 ≡ n))
        (λ i. (i ≤ length xs) × ((k : ℕ) → k < i → get_or xs k 0 < n)
        × ((k : ℕ) → i ≤ k → k < length xs → n < get_or xs k 0))
        → is_ok r ≡ listed xs n
    go (Ok i) (l, e) = sym (found xs n i l e)
    go (Err i) (l, below, above) =
        sym (not_found xs n (record { ends = l; smaller = below; larger = above }) (omega arith))

-- The numbers of bytes, by a search among their chunks of 2 bytes.
pub chunks_listed : (bytes : List ℕ) (n : ℕ) (cs : List (List ℕ)) (r : Result ℕ ℕ) → ascending (words bytes) ≡ true
    → cs ≡ first_chunks 2 (length bytes / 2) bytes → length cs ≡ length bytes / 2 → IsSearchInRange r (length cs)
    → IsBinarySearchResult (λ y. nat_cmp (word y) n) cs r → is_ok r ≡ listed (words bytes) n
chunks_listed bytes n cs r sorted chunked long within h =
    let xs = words bytes in
    let many : length cs ≡ length xs = long ∙ sym (length-words bytes) in
    let same : (i : ℕ) (d : List ℕ) → i < length xs → word (get_or cs i d) ≡ get_or xs i 0 = λ i d l.
    ap (λ c. word (get_or c i d)) chunked
    ∙ ap word (chunk_index (length bytes / 2) bytes i d (omega (arith, length-words bytes)))
    ∙ word-take (drop (2 * i) bytes) ∙ sym (words-index bytes i l) in
    searched-listed xs n r sorted (among_numbers cs xs n r many same (rw (← many) within) h)
