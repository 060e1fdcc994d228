-- Laws on what is written to the front of a list.
use Rattle.std.proofs.Common.{ℕ, ◌≡◌, ◌≤◌, List, ◌++◌, length, take, drop, min, ap, ◌∙◌, zero-add, arith}
use Rattle.std.proofs.lemmas.List.{take_min, drop_min}
use lib.Seq.{take_all, sets, sets-eq}
use Rattle.exports.specs.Exports.{over}

-- values stored one after the other, with room for all of them
pub stored : (vs out : List ℕ) → length vs ≤ length out → sets out 0 vs ≡ over vs out
unfolding over
stored vs out room = simp zero-add at (sets-eq vs out 0 (omega arith)) ∙ rw (take_all (length out) vs room)

-- as many as there are and as there is room for
pub over_min : {A : Type 0} (xs out : List A) (n : ℕ) → n ≡ min (length xs) (length out)
    → take n xs ++ drop n out ≡ over xs out
unfolding over
over_min xs out n e =
    let turned : n ≡ min (length out) (length xs) = omega arith in
    let taken : take n xs ≡ take (length out) xs = ap (λ k. take k xs) turned ∙ take_min (length out) xs in
    let left : drop n out ≡ drop (length xs) out = ap (λ k. drop k out) e ∙ drop_min (length xs) out in
    cc
