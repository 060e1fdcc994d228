-- A set of numbers in lent bytes (document 01, "Buffers"): membership, and what each operation does to it. A set lies
-- in the first `width` bytes of its buffer.
use Rattle.std.specs.Prelude.{ℕ, ◌/◌, ◌%◌, ◌^◌, ◌≤◌, ◌≡◌, Bool, true, false, not, ◌&&◌, ◌||◌, List, T, eqb, ltb, length, get_or, take, drop}
use Rattle.sets.specs.Sets.{Facts}

-- "fact f is the bit of value 2^(f mod 8) in byte f/8"
unfoldable pub bit : List ℕ → Facts
bit bytes f = eqb (get_or bytes (f / 8) 0 / 2 ^ (f % 8) % 2) 1

-- the set that a buffer holds in its first `width` bytes
unfoldable pub within : ℕ → List ℕ → Facts
unfolding bit
within width bytes = bit (take width bytes)

-- the set of a state: "the first 512 bytes hold the last state reached"
abbrev pub members : List ℕ → Facts
members = within 512

-- "Anything beyond is unchanged": the buffer's length and every byte after the first `width`
pub record Kept (width : ℕ) (before after : List ℕ) : Type 0 where
  pub as_long : length after ≡ length before
  pub beyond : drop width after ≡ drop width before

-- whether the buffer has the number's byte, "byte f/8", among its first `width`
unfoldable pub room : ℕ → List ℕ → Facts
room width bytes n = ltb (n / 8) (length (take width bytes))

-- after `add`: the number is in the set where the buffer has its byte, and of every other number nothing changed
pub record Added (width : ℕ) (before : List ℕ) (n : ℕ) (after : List ℕ) : Type 0 where
  pub set : (g : ℕ) → within width after g ≡ (within width before g || (eqb g n && room width before n))
  pub kept : Kept width before after

-- after `remove`: the number is not in the set, and of every other number nothing changed
pub record Removed (width : ℕ) (before : List ℕ) (n : ℕ) (after : List ℕ) : Type 0 where
  pub set : (g : ℕ) → within width after g ≡ (within width before g && not (eqb g n))
  pub kept : Kept width before after

-- after `clear`: no number is in the set
pub record Cleared (width : ℕ) (before after : List ℕ) : Type 0 where
  pub set : (g : ℕ) → within width after g ≡ false
  pub kept : Kept width before after

-- "a bit set from F on in its first 512 bytes": the answer is true exactly if the set has a number of `from` or more
pub record AnyFrom (width : ℕ) (bytes : List ℕ) (from : ℕ) (answer : Bool) : Type 0 where
  pub none : answer ≡ false → (g : ℕ) → from ≤ g → within width bytes g ≡ false
  pub some : answer ≡ true → (g : ℕ) × (from ≤ g) × T (within width bytes g)
