-- Big-endian numbers and lists of them in bytes (document 01, "File layouts").
use Rattle.std.specs.Prelude.{ℕ, ◌+◌, ◌*◌, Bool, true, false, ◌&&◌, List, [], ◌∷◌, ltb, get_or}

-- "All numbers are big-endian.": the number that the first two bytes are
unfoldable pub word : List ℕ → ℕ
word bytes = get_or bytes 0 0 * 256 + get_or bytes 1 0

-- "2 bytes each": the numbers that the bytes are, two by two; an odd byte at the end is none
unfoldable pub words : List ℕ → List ℕ
words [] = []
words (a ∷ []) = []
words (a ∷ b ∷ rest) = (a * 256 + b) ∷ words rest

-- whether a byte is left over when they are taken two by two
unfoldable pub odd : List ℕ → Bool
odd [] = false
odd (a ∷ []) = true
odd (a ∷ b ∷ rest) = odd rest

-- "strictly ascending"
unfoldable pub ascending : List ℕ → Bool
ascending [] = true
ascending (x ∷ []) = true
ascending (x ∷ y ∷ rest) = ltb x y && ascending (y ∷ rest)
