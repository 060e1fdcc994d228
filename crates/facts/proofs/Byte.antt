-- The bits of one byte: what the masks, the shift and the count of src/ say of them, and the byte that has given bits.
-- There are 256 bytes of 8 bits each, so most of this is computed at every one.
use Prim.Native.Nat.{ℕ, zero, suc, ◌+◌, ◌-◌, ◌*◌, ◌/◌, ◌%◌, ◌^◌, ◌≤◌, ◌<◌}
use mathlib.Core.Path.{◌≡◌, refl, sym, ap, ap₂, ◌∙◌}
use mathlib.Core.Bool.{Bool, true, false, not, ◌&&◌, ◌||◌, beq, cond}
use mathlib.Core.Logic.{⊎_elim}
use native.Mathlib.Nat.{zero-div, add-sub_of_le, pow-suc, eq-or-lt_of_le, le_of_suc-le-suc, not-suc-le-zero}
use native.Mathlib.Numerals.{one-add}
use native.Mathlib.Omega.{arith}
use lib.Dec.{T, eqb, leb, ltb, eqb→eq, leb→le, ltb→lt, lit<}
use lib.Pow.{shr-shr}
use lib.Bits.{bit_and, bit_or}
use lib.Count.{ones, ones_in}
use borrow.Author.Tests.{eq-eqb, ne_eqb}
use Rattle.sets.specs.Sets.{Facts, size, first}
use Rattle.sets.proofs.Laws.{passes, both, either, first_hit}
use Rattle.sets.proofs.Size.{one, one_le}

-- whether b has the bit of value 2^k
abbrev pub on : ℕ → Facts
on b k = eqb (b / 2 ^ k % 2) 1

-- A shift moves each bit down.
on_shift : (b j k : ℕ) → on (b / 2 ^ j) k ≡ on b (j + k)
on_shift b j k = ap (λ (x : ℕ). eqb (x % 2) 1) (shr-shr b j k)

-- What a shift by j leaves nothing of has no bit of value 2^j or more.
pub on_none : (b j k : ℕ) → b / 2 ^ j ≡ 0 → j ≤ k → on b k ≡ false
on_none b j k e h =
    ap (on b) (sym (add-sub_of_le h)) ∙ sym (on_shift b j (k - j))
    ∙ ap (λ (x : ℕ). eqb (x % 2) 1) (ap (λ (x : ℕ). x / 2 ^ (k - j)) e ∙ zero-div (2 ^ (k - j)))

-- ---- a number by its bits

-- the number whose bits below n are the members of X, and that has no others
unfoldable pub packed : ℕ → Facts → ℕ
packed zero X = 0
packed (suc n) X = packed n (λ k. X (suc k)) * 2 + one (X 0)

-- It is below 2^n.
pub packed_lt : (n : ℕ) (X : Facts) → packed n X < 2 ^ n
unfolding packed
packed_lt zero X = lit< tt
packed_lt (suc n) X = omega (arith, pow-suc 2 n, one_le (X 0), packed_lt n (λ k. X (suc k)))

-- It has the bits that X says.
pub on-packed : (n : ℕ) (X : Facts) (k : ℕ) → k < n → on (packed n X) k ≡ X k
unfolding packed
on-packed zero X k h = absurd (not-suc-le-zero h)
on-packed (suc n) X zero h = lowest (packed n (λ k. X (suc k))) (X 0)
  where
    lowest : (p : ℕ) (t : Bool) → on (p * 2 + one t) 0 ≡ t
    lowest p true = eq-eqb ((p * 2 + 1) / 1 % 2) 1 (omega arith)
    lowest p false = ne_eqb ((p * 2 + 0) / 1 % 2) 1 (λ e. omega arith)
on-packed (suc n) X (suc k) h =
    ap (on (packed (suc n) X)) (sym (one-add k)) ∙ sym (on_shift (packed (suc n) X) 1 k)
    ∙ ap (λ (b : ℕ). on b k) (omega (arith, one_le (X 0)))
    ∙ on-packed n (λ k. X (suc k)) k (le_of_suc-le-suc h)

-- Sets that agree below n give one number.
packed-same : (n : ℕ) (X Y : Facts) → ((k : ℕ) → k < n → X k ≡ Y k) → packed n X ≡ packed n Y
unfolding packed
packed-same zero X Y e = refl
packed-same (suc n) X Y e =
    ap₂ (λ (p : ℕ) (t : Bool). p * 2 + one t)
    (packed-same n (λ k. X (suc k)) (λ k. Y (suc k)) (λ k h. e (suc k) (omega arith))) (e 0 (omega arith))

-- ---- what holds of every byte and every bit of it, by computing

-- the test passes at each number below n
abbrev all : ℕ → (ℕ → Bool) → Bool
all zero p = true
all (suc n) p = p n && all n p

-- So it passes at any of them.
all-at : (n : ℕ) (p : ℕ → Bool) → T (all n p) → (k : ℕ) → k < n → T (p k)
all-at zero p t k h = absurd (not-suc-le-zero h)
all-at (suc n) p t k h =
    let (here, below) = (both (p n) (all n p)).0 t in
    ⊎_elim (λ e. rw e here) (all-at n p below k) (eq-or-lt_of_le (le_of_suc-le-suc h))

-- A test that passes at every bit of every byte passes at one of a given byte.
table : (p : ℕ → ℕ → Bool) → T (all 256 (λ b. all 8 (p b))) → (b k : ℕ) → b < 256 → k < 8 → T (p b k)
table p t b k hb hk = all-at 8 (p b) (all-at 256 (λ c. all 8 (p c)) t b hb) k hk

-- A byte is the number of its bits.
byte-is : (b : ℕ) → b < 256 → packed 8 (on b) ≡ b
unfolding packed
byte-is b h = eqb→eq _ b (all-at 256 (λ c. eqb (packed 8 (on c)) c) tt b h)

-- Bytes with the same bits are equal.
pub same_bits : (a b : ℕ) → a < 256 → b < 256 → ((k : ℕ) → k < 8 → on a k ≡ on b k) → a ≡ b
same_bits a b ha hb e = sym (byte-is a ha) ∙ packed-same 8 (on a) (on b) e ∙ byte-is b hb

-- A byte has as many bits as ones.
pub size-on : (b : ℕ) → b < 256 → size (on b) 8 ≡ ones b
unfolding size ones ones_in
size-on b h = eqb→eq _ _ (all-at 256 (λ c. eqb (size (on c) 8) (ones c)) tt b h)

-- `b & (1 << k)` is not 0 exactly if b has the bit.
pub on_test : (b k : ℕ) → b < 256 → k < 8 → not (eqb (bit_and b (2 ^ k)) 0) ≡ on b k
on_test b k hb hk = same _ _ (table (λ c j. beq (not (eqb (bit_and c (2 ^ j)) 0)) (on c j)) tt b k hb hk)
  where
    same : (x y : Bool) → T (beq x y) → x ≡ y
    same true true t = refl
    same true false t = absurd t
    same false true t = absurd t
    same false false t = refl

-- the byte b with its bit j set, `b | (1 << j)`, or cleared, `b & !(1 << j)`
abbrev pub changed : Bool → ℕ → ℕ → ℕ
changed true b j = bit_or b (2 ^ j)
changed false b j = bit_and b (255 - 2 ^ j)

-- It has that bit or not, and every other one as before.
pub on-changed : (to : Bool) (b j k : ℕ) → b < 256 → j < 8 → k < 8 → on (changed to b j) k ≡ cond (eqb k j) to (on b k)
unfolding packed
on-changed to b j k hb hj hk =
    ap (λ (c : ℕ). on c k) (eqb→eq _ _ (table (same to) (computed to) b j hb hj)) ∙ on-packed 8 (bits to b j) k hk
  where
    bits : Bool → ℕ → ℕ → Facts
    bits to b j k = cond (eqb k j) to (on b k)

    same : Bool → ℕ → ℕ → Bool
    same to b j = eqb (changed to b j) (packed 8 (bits to b j))

    computed : (to : Bool) → T (all 256 (λ b. all 8 (same to b)))
    computed true = tt
    computed false = tt

-- A byte of which a shift by j leaves something has a bit of value 2^j or more: the first one will do.
pub on_some : (b j : ℕ) → b < 256 → j < 8 → 0 < b / 2 ^ j → (k : ℕ) × (j ≤ k) × (k < 8) × T (on b k)
unfolding first
on_some b j hb hj p =
    let k : ℕ = first (from b j) 8 in
    let left = table (λ c i. eqb (c / 2 ^ i) 0 || ltb (first (from c i) 8) 8) tt b j hb hj in
    let cases = (either (eqb (b / 2 ^ j) 0) (ltb k 8)).0 left in
    let low : k < 8 = ⊎_elim (λ z. absurd (omega (arith, eqb→eq (b / 2 ^ j) 0 z))) (ltb→lt k 8) cases in
    let (after, bit) = (both (leb j k) (on b k)).0 (passes (first_hit (from b j) 8 low)) in
    (k, leb→le j k after, low, bit)
  where
    from : ℕ → ℕ → Facts
    from b j k = leb j k && on b k
