-- Laws on the search along the conditions of one list or of three: it stands at condition i, and what it finds from
-- there on is the first unmet one.
use Prim.Native.Nat.{ℕ, ◌+◌, ◌-◌, ◌*◌, ◌/◌, ◌≤◌, ◌<◌}
use mathlib.Core.Path.{◌≡◌, refl, ap, ◌∙◌}
use mathlib.Core.Bool.{true, false, not}
use mathlib.Core.Logic.{⊎_elim}
use mathlib.Core.List.{List, [], ◌∷◌, ◌++◌, map}
use mathlib.Core.Option.{none, some}
use native.Mathlib.Omega.{arith}
use lib.ListN.{length, get_or, drop}
use Rattle.sets.specs.Sets.{Facts}
use Rattle.sets.proofs.Laws.{below_or_from, by-test, get_or_in}
use Rattle.meaning.specs.Run.{Condition, met, conditions, find, unmet}
use Rattle.meaning.specs.Run.Condition.{positive, negative, unused}
use Rattle.meaning.proofs.Runs.{find-here, find-later, find-end, length-conditions}
use Rattle.meaning.proofs.Runs.{positive-at, negative-at, unused-at}
use Rattle.records.specs.Words.{word, words}
use Rattle.records.specs.Records.{◌or_else◌}
use Rattle.records.proofs.Words.{words-index, length-words}
use Rattle.files.specs.Known.{Known}
use Rattle.stepping.specs.Conditions.{KnownIn}

-- ---- three lists

module _ (p n names : List ℕ) where
  -- the conditions that the bytes are
  abbrev pub asks : List Condition
  asks = conditions (words p) (words n) (words names)

  pub asks-length : length asks ≡ length p / 2 + length n / 2 + length names / 2
  asks-length =
      length-conditions (words p) (words n) (words names) ∙ rw (length-words, length-words n, length-words names)

  module _ (i : ℕ) where
    -- condition i is the number at its place, of P, of N or of the names
    pub asks-positive : i < length p / 2 → get_or asks i (positive 0) ≡ positive (word (drop (2 * i) p))
    asks-positive h =
        let there : i < length (words p) = rw length-words h in
        positive-at (words p) (words n) (words names) i (positive 0) there ∙ ap positive (words-index p i there)

    pub asks-negative : length p / 2 ≤ i → i < length p / 2 + length n / 2
        → get_or asks i (positive 0) ≡ negative (word (drop (2 * (i - length p / 2)) n))
    asks-negative l h =
        let after : length (words p) ≤ i = rw length-words l in
        let there : i - length p / 2 < length (words n) = rw length-words (omega arith) in
        negative-at (words p) (words n) (words names) i (positive 0) after (rw (length-words, length-words) h)
        ∙ ap negative (rw length-words (words-index n (i - length p / 2) there))

    pub asks-unused : length p / 2 + length n / 2 ≤ i → i < length p / 2 + length n / 2 + length names / 2
        → get_or asks i (positive 0) ≡ unused (word (drop (2 * (i - (length p / 2 + length n / 2))) names))
    asks-unused l h =
        let before = length p / 2 + length n / 2 in
        let there : i - before < length (words names) = rw length-words (omega arith) in
        unused-at (words p) (words n) (words names) i (positive 0) (rw (length-words, length-words) l)
        (rw (length-words, length-words, length-words) h)
        ∙ ap unused (rw (length-words, length-words) (words-index names (i - before) there))

    -- a fact of it is known
    pub asks-known : Known p → Known n → i < length p / 2 + length n / 2 + length names / 2
        → KnownIn (get_or asks i (positive 0))
    unfolding KnownIn
    asks-known known-p known-n h =
        ⊎_elim near (λ l. ⊎_elim (far l) last (below_or_from i (length p / 2 + length n / 2)))
        (below_or_from i (length p / 2))
      where
        near : i < length p / 2 → KnownIn (get_or asks i (positive 0))
        near l =
            let there : i < length (words p) = rw length-words l in
            rw (asks-positive l, ← words-index p i there) (known-p.below _ (get_or_in (words p) i 0 there))

        far : length p / 2 ≤ i → i < length p / 2 + length n / 2 → KnownIn (get_or asks i (positive 0))
        far l m =
            let there : i - length p / 2 < length (words n) = rw length-words (omega arith) in
            rw (asks-negative l m, ← words-index n (i - length p / 2) there)
            (known-n.below _ (get_or_in (words n) _ 0 there))

        last : length p / 2 + length n / 2 ≤ i → KnownIn (get_or asks i (positive 0))
        last l = rw (asks-unused l h) tt

-- ---- the search

module _ (X used : Facts) (c : Condition) (cs : List Condition) where
  -- a condition that is not met is the first,
  pub unmet-here : met X used c ≡ false → unmet X used (c ∷ cs) ≡ some c
  unfolding unmet find
  unmet-here e = rw (e, find)

  -- after one that is met those behind it are searched
  pub unmet-later : met X used c ≡ true → unmet X used (c ∷ cs) ≡ unmet X used cs
  unfolding unmet find
  unmet-later e = rw (e, find)

-- none is unmet of none
pub unmet_none : (X used : Facts) → unmet X used [] ≡ none
unfolding unmet find
unmet_none X used = refl

module _ (cs : List Condition) where
  -- the search along conditions has come to condition i
  pub record Looking (X used : Facts) (i : ℕ) : Type 0 where
    pub within : i ≤ length cs
    pub ahead : unmet X used cs ≡ find (λ c. not (met X used c)) (drop i cs)

  pub looking_start : (X used : Facts) → Looking X used 0
  unfolding unmet
  looking_start X used = record { within = omega arith; ahead = refl }

  module _ {X used : Facts} {i : ℕ} (l : Looking X used i) where
    module _ (d : Condition) (h : i < length cs) where
      -- it is not met: it is the first
      pub looking_hit : met X used (get_or cs i d) ≡ false → unmet X used cs ≡ some (get_or cs i d)
      looking_hit e = l.ahead ∙ find-here (λ c. not (met X used c)) cs i d h (ap not e)

      -- it is: the next one's turn
      pub looking_next : met X used (get_or cs i d) ≡ true → Looking X used (i + 1)
      looking_next e = record {
        within = omega arith;
        ahead = l.ahead ∙ find-later (λ c. not (met X used c)) cs i d h (ap not e);
      }

    -- after the last none is unmet
    pub looking_end : length cs ≤ i → unmet X used cs ≡ none
    looking_end h = l.ahead ∙ find-end (λ c. not (met X used c)) cs i h

-- ---- one list after the other

-- The first unmet condition of two lists is the first list's, if it has one, otherwise the second's.
unmet_append : (X used : Facts) (cs ds : List Condition)
    → unmet X used (cs ++ ds) ≡ (unmet X used cs or_else unmet X used ds)
unfolding unmet find ◌or_else◌
unmet_append X used [] ds = refl
unmet_append X used (c ∷ cs) ds =
    by-test (met X used c) (λ e. rw (e, find) (unmet_append X used cs ds)) (λ e. rw (e, find))

-- So that of a rule is P's, if P has one, otherwise N's, if N has one, otherwise the names'.
pub unmet-lists : (X used : Facts) (P N names : List ℕ)
    → unmet X used (conditions P N names)
    ≡ ((unmet X used (map positive P) or_else unmet X used (map negative N)) or_else unmet X used (map unused names))
unfolding conditions
unmet-lists X used P N names =
    unmet_append X used (map positive P ++ map negative N) (map unused names)
    ∙ ap (λ o. o or_else unmet X used (map unused names)) (unmet_append X used (map positive P) (map negative N))
