-- A fact's entries of the index: where they stand, and that they are its entries.
use Prim.Native.Nat.{ℕ, zero, suc, ◌+◌, ◌-◌, ◌≤◌, ◌<◌}
use mathlib.Core.Path.{◌≡◌, refl, sym, ap, ◌∙◌}
use mathlib.Core.List.{List, [], ◌++◌, append_assoc, append-nil}
use native.Mathlib.Omega.{arith}
use lib.ListN.{length, get_or, take, drop, length-append, length-take, take-append-drop}
use lib.Seq.{take_at, drop_at}
use Rattle.meaning.specs.Model.{Clause}
use Rattle.meaning.specs.Worklist.{entries_from_lem, index_below_lem, body_places}
use Rattle.worklist.specs.Working.{Listed}

-- The index of more facts starts with that of fewer.
module _ (cs : List Clause) where
  index-more : (m n : ℕ) → (rest : List ℕ) × (index_below_lem (m + n) cs ≡ index_below_lem m cs ++ rest)
  unfolding index_below_lem
  index-more m zero = let same : m + zero ≡ m = omega arith in ([], rw same (sym (append-nil (index_below_lem m cs))))
  index-more m (suc n) =
      let (rest, e) = index-more m n in
      let same : m + suc n ≡ suc (m + n) = omega arith in (
        rest ++ entries_from_lem 0 cs (m + n),
        rw (same, e) (append_assoc (index_below_lem m cs) rest (entries_from_lem 0 cs (m + n))),
      )

  index-next : (f : ℕ) → index_below_lem (suc f) cs ≡ index_below_lem f cs ++ entries_from_lem 0 cs f
  unfolding index_below_lem
  index-next f = refl

-- They stand from one entry on and before another.
pub record EntriesAt (cs : List Clause) (index : List ℕ) (f from end : ℕ) : Type 0 where
  pub order : from ≤ end
  pub fits : end ≤ length index
  pub count : end - from ≡ length (entries_from_lem 0 cs f)
  pub these : take (end - from) (drop from index) ≡ entries_from_lem 0 cs f

module _ {cs : List Clause} {index ends : List ℕ} (l : Listed cs index ends) where
  pub entries_at : (f : ℕ) → f < 4096 → EntriesAt cs index f (get_or ends f 0) (get_or ends (f + 1) 0)
  entries_at f h =
      let before = index_below_lem f cs in
      let these = entries_from_lem 0 cs f in
      let (rest, more) = index-more cs (suc f) (4095 - f) in
      let all : suc f + (4095 - f) ≡ 4096 = omega arith in
      let beyond = drop (body_places cs) index in
      let listed : take (body_places cs) index ≡ (before ++ these) ++ rest =
      l.entries ∙ (rw all at more) ∙ ap (λ (xs : List ℕ). xs ++ rest) (index-next cs f)
      in
      let parts : index ≡ before ++ (these ++ (rest ++ beyond)) =
      sym (take-append-drop (body_places cs) index)
      ∙ ap (λ (xs : List ℕ). xs ++ beyond) listed
      ∙ append_assoc (before ++ these) rest beyond ∙ append_assoc before these (rest ++ beyond)
      in
      let from : get_or ends f 0 ≡ length before = l.bounds f (omega arith) in
      let one : f + 1 ≡ suc f = omega arith in
      let end : get_or ends (f + 1) 0 ≡ length before + length these =
      l.bounds (f + 1) (omega arith) ∙ ap (λ (g : ℕ). length (index_below_lem g cs)) one
      ∙ ap length (index-next cs f) ∙ length-append before these
      in
      let whole = ap length parts in
      let first = length-append before (these ++ (rest ++ beyond)) in
      let second = length-append these (rest ++ beyond) in
      let span : get_or ends (f + 1) 0 - get_or ends f 0 ≡ length these = omega arith in
      record {
        order = omega arith;
        fits = omega arith;
        count = span;
        these =
            rw (span, from)
            (ap (λ (xs : List ℕ). take (length these) (drop (length before) xs)) parts
            ∙ ap (take (length these)) (drop_at before (these ++ (rest ++ beyond)) (length before) refl)
            ∙ take_at these (rest ++ beyond) (length these) refl);
      }

  -- There are as many entries at least as the clauses have body places.
  pub places-fit : length (index_below_lem 4096 cs) ≡ body_places cs → body_places cs ≤ length index
  places-fit e = let same = ap length l.entries in omega (arith, length-take (body_places cs) index)
