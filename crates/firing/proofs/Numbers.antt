-- Laws on the numbers of a list's entries that pass a test, while they are written to the front of a list.
use Prim.Native.Nat.{ℕ, suc, ◌+◌, ◌≤◌, ◌<◌}
use mathlib.Core.Path.{◌≡◌, refl, sym, ap, ◌∙◌}
use mathlib.Core.Bool.{Bool, true, false}
use mathlib.Core.List.{List, [], ◌∷◌, ◌++◌, append_assoc, append-nil}
use native.Mathlib.Omega.{arith}
use lib.ListN.{length, drop, set, length-append, length-drop}
use lib.Seq.{drop-cons, set_at}
use Rattle.firing.specs.Firing.{numbers_of, Numbered}

-- So far n entries of all passed, of the first k; these are the others, and the list has the numbers at its front.
pub record Listing {A : Type 0} (p : A → Bool) (all rest : List A) (k n : ℕ) (before list : List ℕ) : Type 0 where
  pub done : List ℕ
  pub whole : numbers_of p 0 all ≡ done ++ numbers_of p k rest
  pub front : list ≡ done ++ drop n before
  pub count : n ≡ length done
  pub few : n ≤ k
  pub left : k + length rest ≡ length all

module _ {A : Type 0} {p : A → Bool} {all : List A} where
  pub listing_start : (before : List ℕ) → Listing p all all 0 0 before before
  listing_start before = record {
    done = [];
    whole = refl;
    front = refl;
    count = refl;
    few = omega arith;
    left = omega arith;
  }

  module _ {x : A} {rest : List A} {k n : ℕ} {before list : List ℕ} (l : Listing p all (x ∷ rest) k n before list) where
    -- There is room for one number more.
    pub listing_room : length all ≤ length before → n < length before
    listing_room h = omega (arith, l.few, l.left)

    -- An entry passes,
    pub listing_hit : p x ≡ true → length all ≤ length before
        → Listing p all rest (k + 1) (n + 1) before (set list n k)
    unfolding numbers_of
    listing_hit e room =
        let next : k + 1 ≡ suc k = omega arith in
        let here = listing_room room in
        let one : n + 1 ≡ suc n = omega arith in
        let snoc = append_assoc l.done (k ∷ []) in
        record {
          done = l.done ++ k ∷ [];
          whole = l.whole ∙ rw (e, next) (sym (snoc (numbers_of p (suc k) rest)));
          front =
              rw (l.front, drop-cons before n 0 here, one)
              (set_at l.done _ (drop (suc n) before) k n (sym l.count) ∙ sym (snoc (drop (suc n) before)));
          count = omega (arith, l.count, length-append l.done (k ∷ []));
          few = omega (arith, l.few);
          left = omega (arith, l.left);
        }

    -- or it doesn't.
    pub listing_miss : p x ≡ false → Listing p all rest (k + 1) n before list
    unfolding numbers_of
    listing_miss e =
        let next : k + 1 ≡ suc k = omega arith in
        record {
          done = l.done;
          whole = l.whole ∙ rw (e, next);
          front = l.front;
          count = l.count;
          few = omega (arith, l.few);
          left = omega (arith, l.left);
        }

  -- At the end the numbers are those of all that passed.
  pub listing_end : {k n : ℕ} {before list : List ℕ} → Listing p all [] k n before list
      → Numbered (numbers_of p 0 all) before list n
  unfolding numbers_of
  listing_end {k} {n} {before} {list} l =
      let whole : numbers_of p 0 all ≡ l.done = l.whole ∙ append-nil l.done in
      let count : n ≡ length (numbers_of p 0 all) = l.count ∙ ap length (sym whole) in
      record { count = count; entries = l.front ∙ rw (← count, whole) }

  -- The list stays as long as it was.
  pub listing_long : {rest : List A} {k n : ℕ} {before list : List ℕ} → Listing p all rest k n before list
      → length all ≤ length before → length list ≡ length before
  listing_long {n = n} {before} l room =
      ap length l.front
      ∙ omega (arith, length-append l.done (drop n before), length-drop n before, l.count, l.few, l.left)
