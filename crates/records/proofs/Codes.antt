-- Laws on reading a formula's codes from the front, with the operators above the place at hand.
use Prim.Native.Nat.{ℕ, zero, suc, ◌+◌, ◌-◌, ◌/◌, ◌%◌, ◌^◌, ◌≤◌, ◌<◌}
use mathlib.Core.Path.{◌≡◌, refl, sym, ◌∙◌}
use mathlib.Core.Bool.{Bool, true, false, not, ◌||◌, cond, true≢false}
use mathlib.Core.List.{List, [], ◌∷◌}
use mathlib.Core.Option.{Option, none, some, bind}
use native.Mathlib.Nat.{pow-succ', one-le-pow}
use native.Mathlib.Omega.{arith}
use lib.Dec.{T, leb, ltb, eqb}
use lib.ListN.{length}
use borrow.Author.Tests.{le-ltb, ne_eqb, leb-true, leb-false, ltb-true, ltb-false, eqb-false}
use Rattle.sets.specs.Sets.{every, listed}
use Rattle.sets.proofs.Laws.{is_true, is_false, by-test, every_in, listed-is}
use Rattle.records.specs.Words.{words}
use Rattle.records.specs.Codes.{over_one_lem, over_two_lem, behind, is_formula_lem}
use Rattle.records.proofs.Judging.{or_clear}
use Rattle.records.specs.Above.{bits, bits_of, ended, after}

-- ---- operators as bits

pub bits_positive : (above : List Bool) → 0 < bits above
unfolding bits
bits_positive [] = omega arith
bits_positive (second ∷ above) = omega (arith, bits_positive above)

-- a bit is 0 or 1
bit : (b : Bool) → cond b 1 0 < 2
bit true = omega arith
bit false = omega arith

-- fewer than k operators take k bits at most, and no others do
few_bits : (k : ℕ) (above : List Bool) → bits above < 2 ^ k → length above < k
unfolding bits
few_bits zero above h = absurd (omega (arith, bits_positive above))
few_bits (suc k) [] h = omega arith
few_bits (suc k) (second ∷ above) h = omega (arith, few_bits k above (omega (arith, pow-succ' 2 k)))

many_bits : (k : ℕ) (above : List Bool) → 2 ^ k ≤ bits above → k ≤ length above
unfolding bits
many_bits zero above h = omega arith
many_bits (suc k) [] h = absurd (omega (arith, pow-succ' 2 k, one-le-pow k 2 (omega arith)))
many_bits (suc k) (second ∷ above) h = omega (arith, many_bits k above (omega (arith, pow-succ' 2 k, bit second)))

-- ---- operators as codes

-- from 32,768 to 32,775 an operator is over one formula or over two
operators : (c : ℕ) → 32768 ≤ c → c ≤ 32775 → over_one_lem c ≡ not (over_two_lem c)
unfolding over_one_lem over_two_lem
operators c h l = let is : c ≡ 32768 + (c - 32768) = omega arith in rw is (go (c - 32768) (omega arith))
  where
    go : (k : ℕ) → k < 8 → over_one_lem (32768 + k) ≡ not (over_two_lem (32768 + k))
    go zero h = refl
    go (suc zero) h = refl
    go (suc (suc zero)) h = refl
    go (suc (suc (suc zero))) h = refl
    go (suc (suc (suc (suc zero)))) h = refl
    go (suc (suc (suc (suc (suc zero))))) h = refl
    go (suc (suc (suc (suc (suc (suc zero)))))) h = refl
    go (suc (suc (suc (suc (suc (suc (suc zero))))))) h = refl
    go (suc (suc (suc (suc (suc (suc (suc (suc k)))))))) h = absurd (omega arith)

-- a number is not in a list of smaller ones
unlisted : (most c : ℕ) → most < c → (xs : List ℕ) → T (every (λ x. leb x most) xs) → listed xs c ≡ false
unlisted most c h xs all = is_false (λ t.
    let small = leb-true c most (is_true (every_in (λ x. leb x most) xs all c ((listed-is xs c).0 t))) in
    omega arith)

-- none is over 32,775
no_operator : (c : ℕ) → 32775 < c → (over_one_lem c ≡ false) × (over_two_lem c ≡ false)
unfolding over_one_lem over_two_lem every
no_operator c h = (
  unlisted 32775 c h (32768 ∷ 32772 ∷ 32773 ∷ 32774 ∷ []) tt,
  unlisted 32775 c h (32769 ∷ 32770 ∷ 32771 ∷ 32775 ∷ []) tt,
)

-- ---- what the codes still to come have to be

-- nothing
nothing : List ℕ → Bool
nothing [] = true
nothing (c ∷ codes) = false

-- a formula, and behind it what a test asks for
fed : (List ℕ → Bool) → Option (List ℕ) → Bool
fed test none = false
fed test (some codes) = test codes

-- where a formula has ended, with these operators above it: the second formulas that are still to come
resume : List Bool → List ℕ → Bool
unfolding nothing fed
resume [] codes = nothing codes
resume (false ∷ above) codes = resume above codes
resume (true ∷ above) codes = fed (resume above) (behind (32 - suc (length above)) codes)

-- where one starts, or the whole has ended
pub left : Option (List Bool) → List ℕ → Bool
unfolding resume
left none codes = nothing codes
left (some above) codes = fed (resume above) (behind (32 - length above) codes)

-- At the start nothing is above.
pub left-start : (codes : List ℕ) → is_formula_lem codes ≡ left (some []) codes
unfolding is_formula_lem left
left-start codes = go (behind 32 codes)
  where
    go : (rest : Option (List ℕ))
        → elim rest [ none ↦ false | some [] ↦ true | some (c ∷ codes) ↦ false ] ≡ fed nothing rest
    go none = refl
    go (some []) = refl
    go (some (c ∷ rest)) = refl

-- With no codes left the whole has to have ended.
pub left_end : (above : Option (List Bool)) → left above [] ≡ eqb (bits_of above) 0
unfolding left bits_of behind
left_end none = refl
left_end (some above) = go (32 - length above) ∙ sym (ne_eqb (bits above) 0 (λ e. omega (arith, bits_positive above)))
  where
    go : (deep : ℕ) → fed (resume above) (behind deep []) ≡ false
    go zero = refl
    go (suc deep) = refl

-- no code may stand too deep
left-deep : (above : List Bool) (codes : List ℕ) → 32 ≤ length above → left (some above) codes ≡ false
unfolding left behind
left-deep above codes h = let none_left : 32 - length above ≡ 0 = omega arith in rw none_left

-- nor one over 32,775
left-large : (above : List Bool) (c : ℕ) (codes : List ℕ) → 32775 < c → left (some above) (c ∷ codes) ≡ false
unfolding left behind
left-large above c codes h = go (32 - length above)
  where
    go : (deep : ℕ) → fed (resume above) (behind deep (c ∷ codes)) ≡ false
    go zero = refl
    go (suc deep) =
        let (one, two) = no_operator c h in
        rw (le-ltb c 32768 (omega arith), one, two)

-- behind a formula there is what its operators ask for
left_ended : (above : List Bool) (codes : List ℕ) → resume above codes ≡ left (ended above) codes
unfolding left ended
left_ended [] codes = refl
left_ended (true ∷ above) codes = refl
left_ended (false ∷ above) codes = left_ended above codes

-- two formulas, one behind the other
fed-two : (test : List ℕ → Bool) (next : List ℕ → Option (List ℕ)) (codes : Option (List ℕ))
    → fed test (bind codes next) ≡ fed (λ rest. fed test (next rest)) codes
unfolding fed bind
fed-two test next none = refl
fed-two test next (some rest) = refl

-- behind any other code there is what the operators after it ask for
left_after : (above : List Bool) (c : ℕ) (codes : List ℕ) → length above < 32 → c ≤ 32775
    → left (some above) (c ∷ codes) ≡ left (after c above) codes
unfolding left behind after
left_after above c codes h small =
    let deep = 32 - suc (length above) in
    let more : 32 - length above ≡ suc deep = omega arith in
    rw more
    (by-test (ltb c 32768)
    (λ fact. rw fact (left_ended above codes))
    (λ fact.
    let kinds = operators c (ltb-false c 32768 fact) small in
    by-test (over_two_lem c)
    (λ two. rw (fact, kinds, two) (fed-two (resume above) (behind deep) (behind deep codes)))
    (λ two. rw (fact, kinds, two))))

-- ---- the turns of the loops

-- An even number has an operator whose last formula has ended too,
pub ended-even : (above : List Bool) → bits above % 2 ≡ 0
    → (others : List Bool) × (bits above / 2 ≡ bits others) × (ended above ≡ ended others)
unfolding bits ended
ended-even [] e = absurd (omega arith)
ended-even (true ∷ above) e = absurd (omega arith)
ended-even (false ∷ above) e = (above, omega arith, refl)

-- an odd one has one whose second formula starts, or none.
pub ended-odd : (above : List Bool) → (bits above % 2 ≡ 0 → ⊥) → bits above - 1 ≡ bits_of (ended above)
unfolding bits ended bits_of
ended-odd [] e = refl
ended-odd (true ∷ above) e = omega arith
ended-odd (false ∷ above) e = absurd (e (omega arith))

-- whether a code may not stand below these operators
abbrev pub stops : ℕ → ℕ → Bool
stops above c = (eqb above 0 || leb 4294967296 above) || ltb 32775 c

-- One that may not refuses the codes;
pub left-stops : (above : Option (List Bool)) (c : ℕ) (codes : List ℕ) → stops (bits_of above) c ≡ true
    → left above (c ∷ codes) ≡ false
unfolding left bits_of
left-stops none c codes e = refl
left-stops (some above) c codes e =
    by-test (leb 4294967296 (bits above))
    (λ deep. left-deep above (c ∷ codes) (many_bits 32 above (leb-true _ _ deep)))
    (λ deep.
    let some-above = ne_eqb (bits above) 0 (λ z. omega (arith, bits_positive above)) in
    left-large above c codes (ltb-true _ _ (rw (some-above, deep) at e)))

-- for one that may,
pub stops-not : (above c : ℕ) → stops above c ≡ false → ((0 < above) × (above < 4294967296)) × (c ≤ 32775)
stops-not above c e =
    let (bounds, small) = or_clear (eqb above 0 || leb 4294967296 above) (ltb 32775 c) e in
    let (started, shallow) = or_clear (eqb above 0) (leb 4294967296 above) bounds in
    let other : above ≡ 0 → ⊥ = eqb-false above 0 started in
    ((omega arith, leb-false _ _ shallow), ltb-false _ _ small)

-- the codes behind it tell.
pub left-next : (above : Option (List Bool)) (c : ℕ) (codes : List ℕ) → stops (bits_of above) c ≡ false
    → (r : ℕ) → ((l : List Bool) → bits_of above ≡ bits l → r ≡ bits_of (after c l))
    → (next : Option (List Bool)) × (r ≡ bits_of next) × (left above (c ∷ codes) ≡ left next codes)
unfolding bits_of
left-next none c codes e r is = absurd (true≢false e)
left-next (some above) c codes e r is =
    let ((some-above, shallow), small) = stops-not (bits above) c e in
    (after c above, is above refl, left_after above c codes (few_bits 32 above shallow) small)

-- the operators above, as bits, where these bytes of the codes are left
pub record Come (codes : List ℕ) (above : ℕ) (rest : List ℕ) : Type 0 where
  pub operators : Option (List Bool)
  pub number : above ≡ bits_of operators
  pub same : is_formula_lem (words codes) ≡ left operators (words rest)
