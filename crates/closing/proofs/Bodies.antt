-- A body's facts from a place on, one by one and by two, and in the chunks of two facts that a body is cut into.
use Prim.Native.Nat.{ℕ, zero, suc, ◌+◌, ◌*◌, ◌/◌, ◌%◌, ◌≤◌, ◌<◌}
use mathlib.Core.Path.{◌≡◌, refl, sym, ap, ◌∙◌}
use mathlib.Core.Bool.{Bool, true, ◌&&◌, and_assoc, and-true}
use mathlib.Core.List.Memᴰ
use mathlib.Core.List.{List, [], ◌∷◌}
use native.Mathlib.Nat.{not-suc-le-zero, le_of_suc-le-suc}
use native.Mathlib.Omega.{arith}
use lib.ListN.{length, get_or, take, drop, length-drop, drop_of_length-le}
use lib.Seq.{drop-drop, get_or-drop, get_or-take, length-take-le}
use Rattle.std.specs.Simd.{first_chunks}
use Rattle.sets.specs.Sets.{Facts, every, ◌∈◌}
use Rattle.records.specs.Words.{word, words}
use Rattle.records.proofs.Words.{words-at}

-- The facts from a place on are below 4,096.
abbrev pub Low : List ℕ → ℕ → Type 0
Low body i = (b : ℕ) → b ∈ words (drop i body) → b < 4096

-- The facts from a place on are the one there and those after it.
module _ (body : List ℕ) (i : ℕ) (fits : i + 2 ≤ length body) where
  facts : words (drop i body) ≡ word (drop i body) ∷ words (drop (i + 2) body)
  facts = words-at body i (rw length-drop (omega arith))

  pub low : Low body i → word (drop i body) < 4096
  low below = below (word (drop i body)) (rw facts (Memᴰ.head refl))

  pub low-after : Low body i → Low body (i + 2)
  low-after below b m = below b (rw facts (Memᴰ.tail m))

  pub all_stand : (X : Facts)
      → every X (words (drop i body)) ≡ (X (word (drop i body)) && every X (words (drop (i + 2) body)))
  unfolding every
  all_stand X = rw facts

-- The same with two facts.
module _ (body : List ℕ) (i : ℕ) (fits : i + 4 ≤ length body) where
  four : i + 2 + 2 ≡ i + 4
  four = omega arith

  pub first_fits : i + 2 ≤ length body
  first_fits = omega (arith, fits)

  pub second_fits : i + 2 + 2 ≤ length body
  second_fits = omega (arith, fits)

  pub low_second : Low body i → word (drop (i + 2) body) < 4096
  low_second below = low body (i + 2) second_fits (low-after body i first_fits below)

  pub low-after-both : Low body i → Low body (i + 4)
  low-after-both below b m = low-after body (i + 2) second_fits (low-after body i first_fits below) b (rw four m)

  pub both_stand : (X : Facts)
      → every X (words (drop i body))
      ≡ ((X (word (drop i body)) && X (word (drop (i + 2) body))) && every X (words (drop (i + 4) body)))
  both_stand X =
      all_stand body i first_fits X
      ∙ ap (λ (t : Bool). X (word (drop i body)) && t) (rw four at (all_stand body (i + 2) second_fits X))
      ∙ sym (and_assoc (X (word (drop i body))) (X (word (drop (i + 2) body))) (every X (words (drop (i + 4) body))))

-- ---- chunks of two facts

-- chunk k of some bytes
chunk-is : (count : ℕ) (bytes : List ℕ) (k : ℕ) → k < count
    → get_or (first_chunks 4 count bytes) k [] ≡ take 4 (drop (4 * k) bytes)
chunk-is zero bytes k h = absurd (not-suc-le-zero h)
chunk-is (suc count) bytes zero h = refl
chunk-is (suc count) bytes (suc k) h =
    chunk-is count (drop 4 bytes) k (le_of_suc-le-suc h)
    ∙ ap (take 4) (drop-drop (4 * k) 4 bytes ∙ ap (λ (n : ℕ). drop n bytes) (omega arith))

-- its two facts
word-first : (bytes : List ℕ) → word (take 4 bytes) ≡ word bytes
unfolding word
word-first bytes = rw (get_or-take 4 bytes 0 0 (omega arith), get_or-take 4 bytes 1 0 (omega arith))

word-second : (bytes : List ℕ) → word (drop 2 (take 4 bytes)) ≡ word (drop 2 bytes)
unfolding word
word-second bytes =
    rw (
      get_or-drop 2 (take 4 bytes) 0 0,
      get_or-drop 2 (take 4 bytes) 1 0,
      get_or-take 4 bytes 2 0 (omega arith),
      get_or-take 4 bytes 3 0 (omega arith),
      get_or-drop 2 bytes 0 0,
      get_or-drop 2 bytes 1 0,
    )

-- These four bytes are the two facts from a place on.
pub record Pair (body : List ℕ) (k : ℕ) (pair : List ℕ) : Type 0 where
  pub fits : 4 * k + 4 ≤ length body
  pub long : length pair ≡ 4
  pub first : word pair ≡ word (drop (4 * k) body)
  pub second : word (drop 2 pair) ≡ word (drop (4 * k + 2) body)

-- Each chunk of a body is.
pub pair-at : (body : List ℕ) (chunks : List (List ℕ)) (k : ℕ) → chunks ≡ first_chunks 4 (length body / 4) body
    → k < length body / 4 → Pair body k (get_or chunks k [])
pair-at body chunks k is h =
    let fits : 4 * k + 4 ≤ length body = omega arith in
    let left : 4 ≤ length (drop (4 * k) body) = rw length-drop (omega arith) in
    rw (is, chunk-is (length body / 4) body k h)
    (record {
      fits = fits;
      long = length-take-le 4 (drop (4 * k) body) left;
      first = word-first (drop (4 * k) body);
      second = word-second (drop (4 * k) body) ∙ ap word (drop-drop 2 (4 * k) body);
    })

module _ {body : List ℕ} {k : ℕ} {pair : List ℕ} (p : Pair body k pair) where
  pub low_pair : Low body (4 * k) → (word pair < 4096) × (word (drop 2 pair) < 4096)
  low_pair below =
      rw (p.first, p.second)
      (low body (4 * k) (omega (arith, p.fits)) below, low_second body (4 * k) p.fits below)

  pub low-after-pair : Low body (4 * k) → Low body (4 * (k + 1))
  low-after-pair below =
      let next : 4 * (k + 1) ≡ 4 * k + 4 = omega arith in
      rw next (low-after-both body (4 * k) p.fits below)

  pub pair_stands : (X : Facts) (a b : Bool) → a ≡ X (word pair) → b ≡ X (word (drop 2 pair))
      → every X (words (drop (4 * k) body)) ≡ ((a && b) && every X (words (drop (4 * (k + 1)) body)))
  pair_stands X a b e h =
      let next : 4 * (k + 1) ≡ 4 * k + 4 = omega arith in
      rw (next, e, h, p.first, p.second) (both_stand body (4 * k) p.fits X)

-- After the chunks: no fact is left, or one.
pub none-left : (body : List ℕ) (i : ℕ) (X : Facts) → length body ≤ i → every X (words (drop i body)) ≡ true
unfolding every words
none-left body i X h = rw (drop_of_length-le body h)

pub one_left : (body : List ℕ) (i : ℕ) (X : Facts) → length body ≡ i + 2
    → every X (words (drop i body)) ≡ X (word (drop i body))
one_left body i X h =
    all_stand body i (omega arith) X
    ∙ ap (λ (t : Bool). X (word (drop i body)) && t) (none-left body (i + 2) X (omega arith))
    ∙ and-true (X (word (drop i body)))

-- What is behind the chunks is that fact, where there is something.
pub last-at : (body last : List ℕ) (k : ℕ) → length body % 2 ≡ 0 → last ≡ drop (length body / 4 * 4) body
    → length last ≡ length body % 4 → k ≡ length body / 4 → (length last ≡ 0 → ⊥)
    → (last ≡ drop (4 * k) body) × (length body ≡ 4 * k + 2)
last-at body last k even back long all some =
    (back ∙ ap (λ (n : ℕ). drop n body) (omega arith), omega arith)
