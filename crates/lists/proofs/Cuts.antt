-- Laws on the lists of a record, and on a section all of whose records have them.
use Prim.Native.Nat.{ℕ, zero, suc, ◌+◌, ◌-◌, ◌*◌, ◌%◌, ◌≤◌, ◌<◌}
use mathlib.Core.Path.{◌≡◌, refl, ap, ◌∙◌}
use mathlib.Core.Bool.{Bool, true, false, cond}
use mathlib.Core.List.{List, [], ◌∷◌}
use mathlib.Core.Option.{Option, none, some, map, none-ne-some, map-eq-some_iff}
use native.Mathlib.Nat.{not-suc-le-zero, le_of_suc-le-suc}
use native.Mathlib.Omega.{arith}
use borrow.Author.Tests.{leb-true, ne_eqb}
use lib.Dec.{leb}
use lib.ListN.{length, take, drop, get_or, length-drop}
use lib.Seq.{length-take-le}
use Rattle.records.specs.Words.{word, words, odd}
use Rattle.records.specs.Records.{list_count_lem, cut_lists, cut, whole, lists_of, list_of}
use Rattle.lists.specs.Lists.{Cut, list_at_lem, ListBytes}
use Rattle.records.specs.declared.Kind.{Kind}
use Rattle.records.specs.declared.Kind.TheVariants.{Clause, Rule, Maker, Goal, Formula}
use Rattle.records.proofs.Words.{odd_is}

-- something behind a test that has to hold: the test holds
behind : {A : Type 0} {y : A} (test : Bool) (x : Option A) → cond test x none ≡ some y → (test ≡ true) × (x ≡ some y)
behind true x e = (refl, e)
behind {y} false x e = absurd (none-ne-some y e)

-- The lists of a record are those that the bytes after its length are cut into.
pub body-cut : (K : Kind) (r : List ℕ) (lists : List (List ℕ)) → lists_of K r ≡ some lists
    → cut K (drop 2 r) ≡ some lists
unfolding lists_of
body-cut K r lists e = (behind (whole r) (cut K (drop 2 r)) e).1

-- A formula has no lists.
pub formula-lists : (r : List ℕ) (lists : List (List ℕ)) → lists_of Formula r ≡ some lists → lists ≡ []
unfolding cut
formula-lists r lists e = go (odd (drop 2 r)) (body-cut Formula r lists e)
  where
    go : (uneven : Bool) → cond uneven none (some []) ≡ some lists → lists ≡ []
    go true e = absurd (none-ne-some lists e)
    go false e = cc

-- list j of these bytes fits, and so do those before it
pub Ahead : ℕ → List ℕ → Type 0
Ahead zero bytes = 2 + 2 * word bytes ≤ length bytes
Ahead (suc j) bytes = (2 + 2 * word bytes ≤ length bytes) × Ahead j (drop (2 + 2 * word bytes) bytes)

-- Where a list is ahead, the list at hand fits.
pub ahead-fits : (j : ℕ) (bytes : List ℕ) → Ahead j bytes → 2 + 2 * word bytes ≤ length bytes
unfolding Ahead
ahead-fits zero bytes a = a
ahead-fits (suc j) bytes a = a.0

-- One that is not at hand is ahead after the list at hand.
pub ahead-next : (j : ℕ) (bytes : List ℕ) → 0 < j → Ahead j bytes
    → let later = drop (2 + 2 * word bytes) bytes in Ahead (j - 1) later × (list_at_lem (j - 1) later ≡ list_at_lem j bytes)
unfolding Ahead list_at_lem
ahead-next zero bytes h a = absurd (not-suc-le-zero h)
ahead-next (suc j) bytes h a = let one : suc j - 1 ≡ j = omega arith in rw one (a.1, refl)

-- With none to pass it is the one at hand.
pub ahead-here : (j : ℕ) (bytes : List ℕ) → j ≤ 0 → list_at_lem j bytes ≡ take (2 * word bytes) (drop 2 bytes)
unfolding list_at_lem
ahead-here zero bytes h = refl
ahead-here (suc j) bytes h = absurd (not-suc-le-zero h)

-- The bytes of one that is ahead are in twos.
ahead-even : (j : ℕ) (bytes : List ℕ) → Ahead j bytes → odd (list_at_lem j bytes) ≡ false
unfolding Ahead list_at_lem
ahead-even zero bytes a =
    let facts = take (2 * word bytes) (drop 2 bytes) in
    let size = length-take-le (2 * word bytes) (drop 2 bytes) (rw length-drop (omega arith)) in
    odd_is facts ∙ ne_eqb (length facts % 2) 1 (λ e. omega arith)
ahead-even (suc j) bytes a = ahead-even j (drop (2 + 2 * word bytes) bytes) a.1

-- Bytes that are cut into lists are a list that fits and then what is cut into the others.
cut_split : (k : ℕ) (bytes : List ℕ) (lists : List (List ℕ)) → cut_lists (suc k) bytes ≡ some lists
    → (others : List (List ℕ))
    × (2 + 2 * word bytes ≤ length bytes)
    × (cut_lists k (drop (2 + 2 * word bytes) bytes) ≡ some others)
    × (words (take (2 * word bytes) (drop 2 bytes)) ∷ others ≡ lists)
unfolding cut_lists
cut_split k bytes lists e =
    let others = cut_lists k (drop (2 + 2 * word bytes) bytes) in
    let with_first : List (List ℕ) → List (List ℕ) = λ l. words (take (2 * word bytes) (drop 2 bytes)) ∷ l in
    let (fits, all) = behind (leb (2 + 2 * word bytes) (length bytes)) (map with_first others) e in
    let (rest, cut-rest, same) = (map-eq-some_iff with_first others).0 all in
    (rest, leb-true _ _ fits, cut-rest, same)

-- They are as many as asked for.
pub cut-length : (k : ℕ) (bytes : List ℕ) (lists : List (List ℕ)) → cut_lists k bytes ≡ some lists → length lists ≡ k
unfolding cut_lists
cut-length zero [] lists e = let none-there : [] ≡ lists = cc in rw (← none-there)
cut-length zero (b ∷ bytes) lists e = absurd (none-ne-some lists e)
cut-length (suc k) bytes lists e =
    let (others, fits, rest, same) = cut_split k bytes lists e in
    rw (← same) (ap suc (cut-length k (drop (2 + 2 * word bytes) bytes) others rest))

-- Each of the lists that bytes are cut into is ahead at their start.
cut-ahead : (k : ℕ) (bytes : List ℕ) (lists : List (List ℕ)) → cut_lists k bytes ≡ some lists → (j : ℕ) → j < k
    → Ahead j bytes × (words (list_at_lem j bytes) ≡ get_or lists j [])
unfolding Ahead list_at_lem
cut-ahead zero bytes lists e j h = absurd (not-suc-le-zero h)
cut-ahead (suc k) bytes lists e zero h =
    let (others, fits, rest, same) = cut_split k bytes lists e in
    (fits, ap (λ (l : List (List ℕ)). get_or l 0 []) same)
cut-ahead (suc k) bytes lists e (suc j) h =
    let (others, fits, rest, same) = cut_split k bytes lists e in
    let (ahead, facts) = cut-ahead k (drop (2 + 2 * word bytes) bytes) others rest j (le_of_suc-le-suc h) in
    rw (← same) ((fits, ahead), facts)

module _ (K : Kind) (r : List ℕ) (j : ℕ) (cuts : Cut K r) (h : j < list_count_lem K) where
  -- A record's list is ahead at the first byte after the record's length, and has its facts.
  list_there : Ahead j (drop 2 r) × (words (list_at_lem j (drop 2 r)) ≡ list_of K r j)
  unfolding Cut cut list_of
  list_there = rw cuts.1 (go K (body-cut K r cuts.0 cuts.1) h)
    where
      go : (K : Kind) → cut K (drop 2 r) ≡ some cuts.0 → j < list_count_lem K
          → Ahead j (drop 2 r) × (words (list_at_lem j (drop 2 r)) ≡ get_or cuts.0 j [])
      go Clause e h = absurd (not-suc-le-zero h)
      go Maker e h = cut-ahead _ (drop 2 r) cuts.0 e j h
      go Rule e h = cut-ahead _ (drop 2 r) cuts.0 e j h
      go Goal e h = cut-ahead _ (drop 2 r) cuts.0 e j h
      go Formula e h = absurd (not-suc-le-zero h)

  pub list_ahead : Ahead j (drop 2 r)
  list_ahead = list_there.0

  -- The bytes at its place are the list's.
  pub list_bytes_lem : ListBytes K r j (list_at_lem j (drop 2 r))
  list_bytes_lem = record { these = refl; facts = list_there.1; even = ahead-even j (drop 2 r) list_ahead }
