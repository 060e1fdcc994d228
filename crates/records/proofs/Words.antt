-- Laws on the numbers in bytes: how large they are, how many there are, and the next one at a place.
use Prim.Native.Nat.{ℕ, zero, suc, ◌+◌, ◌*◌, ◌/◌, ◌%◌, ◌≤◌, ◌<◌}
use mathlib.Core.Path.{◌≡◌, refl, ◌∙◌, sym}
use mathlib.Core.Bool.{true, false, ◌&&◌, and-true, true≢false, false≢true}
use mathlib.Core.List.{List, [], ◌∷◌}
use native.Mathlib.Nat.{not-suc-le-zero, le_of_suc-le-suc}
use native.Mathlib.Omega.{arith}
use lib.Dec.{leb, ltb, eqb}
use lib.ListN.{length, get_or, take, drop}
use lib.Seq.{drop-drop, get_or-drop}
use borrow.Author.Tests.{eq-eqb, lt-ltb}
use mir.Syntax.{w8}
use mir.Val.{Fits}
use Rattle.sets.specs.Sets.{any}
use Rattle.sets.proofs.Laws.{by-test}
use Rattle.records.specs.Words.{word, words, odd}

-- two bytes make a number below 65,536
pub word_small : (bytes : List ℕ) (at : ℕ) → ((i : ℕ) → Fits w8 (get_or bytes i 0)) → word (drop at bytes) < 65536
unfolding word
word_small bytes at byte =
    rw (get_or-drop at bytes 0 0, get_or-drop at bytes 1 0) (omega (arith, byte (at + 0), byte (at + 1)))

-- so an end of 65,536 leaves none out
pub words-end : (limit : ℕ) (bytes : List ℕ) → ((i : ℕ) → Fits w8 (get_or bytes i 0))
    → any (λ x. leb limit x && ltb x 65536) (words bytes) ≡ any (leb limit) (words bytes)
unfolding words any
words-end limit [] byte = refl
words-end limit (a ∷ []) byte = refl
words-end limit (a ∷ b ∷ rest) byte =
    let small : a * 256 + b < 65536 = omega (arith, byte 0, byte 1) in
    rw (
      lt-ltb (a * 256 + b) 65536 small,
      and-true (leb limit (a * 256 + b)),
      words-end limit rest (λ i. byte (suc (suc i))),
    )

-- two bytes and what follows them
pub words-two : (bytes : List ℕ) → 2 ≤ length bytes → words bytes ≡ word bytes ∷ words (drop 2 bytes)
unfolding words word
words-two [] h = absurd (not-suc-le-zero h)
words-two (a ∷ []) h = absurd (not-suc-le-zero (le_of_suc-le-suc h))
words-two (a ∷ b ∷ rest) h = refl

-- fewer than two bytes are no number
pub words-none : (bytes : List ℕ) → length bytes < 2 → words bytes ≡ []
unfolding words
words-none [] h = refl
words-none (a ∷ []) h = refl
words-none (a ∷ b ∷ rest) h = absurd (not-suc-le-zero (le_of_suc-le-suc (le_of_suc-le-suc h)))

-- the next number at a place, and those from two bytes further on
pub words-at : (bytes : List ℕ) (at : ℕ) → 2 ≤ length (drop at bytes)
    → words (drop at bytes) ≡ word (drop at bytes) ∷ words (drop (at + 2) bytes)
words-at bytes at h = words-two (drop at bytes) h ∙ rw (drop-drop 2 at bytes)

-- Number i of some bytes is the two bytes at its place.
pub words-index : (bytes : List ℕ) (i : ℕ) → i < length (words bytes)
    → get_or (words bytes) i 0 ≡ word (drop (2 * i) bytes)
unfolding words word
words-index [] i h = absurd (not-suc-le-zero h)
words-index (a ∷ []) i h = absurd (not-suc-le-zero h)
words-index (a ∷ b ∷ rest) zero h = refl
words-index (a ∷ b ∷ rest) (suc i) h =
    let twice : 2 * suc i ≡ suc (suc (2 * i)) = omega arith in
    rw twice (words-index rest i (le_of_suc-le-suc h))

-- there is a number for every two bytes
pub length-words : (bytes : List ℕ) → length (words bytes) ≡ length bytes / 2
unfolding words
length-words [] = refl
length-words (a ∷ []) = refl
length-words (a ∷ b ∷ rest) = omega (arith, length-words rest)

-- a byte is left over exactly if their count is odd
pub odd-length : (bytes : List ℕ) → odd bytes ≡ true → length bytes % 2 ≡ 1
unfolding odd
odd-length [] e = absurd (false≢true e)
odd-length (a ∷ []) e = refl
odd-length (a ∷ b ∷ rest) e = omega (arith, odd-length rest e)

pub even-length : (bytes : List ℕ) → odd bytes ≡ false → length bytes % 2 ≡ 0
unfolding odd
even-length [] e = refl
even-length (a ∷ []) e = absurd (true≢false e)
even-length (a ∷ b ∷ rest) e = omega (arith, even-length rest e)

pub odd_is : (bytes : List ℕ) → odd bytes ≡ eqb (length bytes % 2) 1
odd_is bytes = by-test (odd bytes) (λ e. e ∙ sym (eq-eqb _ 1 (odd-length bytes e))) (λ e. rw (e, even-length bytes e))

-- A number's two bytes are enough to read it.
pub word-take : (bytes : List ℕ) → word (take 2 bytes) ≡ word bytes
unfolding word
word-take [] = refl
word-take (a ∷ []) = refl
word-take (a ∷ b ∷ rest) = refl
