-- Laws on judging a record: its number from its lists or its codes, and its lists from its bytes.
use Prim.Native.Nat.{ℕ, zero, suc, ◌+◌, ◌≤◌, ◌<◌}
use mathlib.Core.Path.{◌≡◌, refl, ap, sym, ◌∙◌}
use mathlib.Core.Bool.{Bool, true, false, not, ◌&&◌, ◌||◌, cond, true≢false}
use mathlib.Core.List.{List, [], ◌∷◌, ◌++◌}
use mathlib.Core.Logic.{◌⊎◌, inl, inr}
use mathlib.Core.Option.{Option, none, some, none-ne-some}
use native.Mathlib.Nat.{not-suc-le-zero, le_of_suc-le-suc, suc-add}
use native.Mathlib.Omega.{arith}
use lib.Dec.{leb, ltb}
use lib.ListN.{length, take, drop, replicate}
use lib.Seq.{length-take-le, take-add}
use borrow.Author.Tests.{eq-eqb, ne_eqb, leb-true, leb-false, not-false}
use Rattle.sets.specs.Sets.{any}
use Rattle.sets.proofs.Laws.{by-test}
use Rattle.records.specs.Words.{word, odd, ascending}
use Rattle.records.specs.Codes.{is_formula_lem}
use Rattle.records.specs.Records.{given, ◌or_else◌, record_of_lem, name_row, rows, list_count_lem, cut_lists, cut, lists_of}
use Rattle.records.specs.Records.{most, over_long, wrong_fact, wrong_name, any_list}
use Rattle.records.specs.Records.{whole, codes_in, cut_clause, judge_lists, judge_formula, judge}
use Rattle.records.specs.Refusals.{code}
use Rattle.records.specs.Marking.{picked_of, before, judge_codes}
use Rattle.records.specs.declared.Kind.{Kind}
use Rattle.records.specs.declared.Kind.TheVariants.{Clause, Rule, Maker, Goal, Formula}
use Rattle.records.specs.declared.Marks.{Marks}
use Rattle.records.specs.declared.Row.{Row}
use Rattle.records.proofs.Sections.{record-fits, record-rest}

-- A record of any kind but a formula is judged by its lists,
pub judge-lists : (K : Kind) → (K ≡ Formula → ⊥) → judge K ≡ judge_lists K
unfolding judge
judge-lists Clause other = refl
judge-lists Rule other = refl
judge-lists Maker other = refl
judge-lists Goal other = refl
judge-lists Formula other = absurd (other refl)

-- a formula by its codes.
pub judge-formula : judge Formula ≡ judge_formula
unfolding judge
judge-formula = refl

-- The number for lists is that for their marks, after the mark for the record's number.
pub lists_are : (K : Kind) (F n : ℕ) (r : List ℕ)
    → judge_lists K F n r ≡ picked_of (rows K F) (before K n) (lists_of K r)
unfolding judge_lists picked_of before
lists_are K F n r = go (lists_of K r) refl
  where
    go : (lists : Option (List (List ℕ))) → lists_of K r ≡ lists
        → judge_lists K F n r ≡ picked_of (rows K F) (before K n) (lists_of K r)
    go none e = rw (e, judge_lists)
    go (some lists) e = rw (e, judge_lists)

-- A record whose length does not fit is 4.
pub not-whole : (K : Kind) (F n : ℕ) (r : List ℕ) → whole r ≡ false → judge K F n r ≡ some 4
unfolding judge judge_formula picked_of lists_of
not-whole Clause F n r e = rw (lists_are, e)
not-whole Rule F n r e = rw (lists_are, e)
not-whole Maker F n r e = rw (lists_are, e)
not-whole Goal F n r e = rw (lists_are, e)
not-whole Formula F n r e = rw e

-- What is behind the length of one that is whole is judged by its kind, after the marks for its number: a clause's
-- head and body,
pub judged_clause : (K : Kind) (F n : ℕ) (r body : List ℕ) (m : Marks) → K ≡ Clause → m ≡ before K n
    → (whole r ≡ true) × (body ≡ drop 2 r) → picked_of (rows Clause F) m (cut_clause body) ≡ judge K F n r
unfolding judge lists_of cut
judged_clause K F n r body m kind marks (fits, is) = rw (kind, marks, is, lists_are) (rw (kind, fits))

-- the lists of a rule, a maker or an attack state,
pub judged_lists : (K : Kind) (F n : ℕ) (r body : List ℕ) (m : Marks) → (K ≡ Rule) ⊎ (K ≡ Maker) ⊎ (K ≡ Goal)
    → m ≡ before K n → (whole r ≡ true) × (body ≡ drop 2 r)
    → picked_of (rows K F) m (cut_lists (list_count_lem K) body) ≡ judge K F n r
unfolding judge lists_of cut
judged_lists K F n r body m (inl kind) marks (fits, is) = rw (marks, is, kind, lists_are) (rw fits)
judged_lists K F n r body m (inr (inl kind)) marks (fits, is) = rw (marks, is, kind, lists_are) (rw fits)
judged_lists K F n r body m (inr (inr kind)) marks (fits, is) = rw (marks, is, kind, lists_are) (rw fits)

-- and a formula's codes.
pub judged_codes : (K : Kind) (F n : ℕ) (r body : List ℕ) (m : Marks) → K ≡ Formula → m ≡ before K n
    → (whole r ≡ true) × (body ≡ drop 2 r) → judge_codes F m.count body ≡ judge K F n r
unfolding judge judge_formula judge_codes codes_in before
judged_codes K F n r body m kind marks (fits, is) = rw (kind, marks, is, kind) (rw fits)

-- ---- rows

-- a list with a count has a row
pub counted-row : (K : Kind) (F j : ℕ) → j < list_count_lem K → j < length (rows K F)
unfolding list_count_lem
counted-row Clause F j h = absurd (not-suc-le-zero h)
counted-row Rule F j h = h
counted-row Maker F j h = h
counted-row Goal F j h = h
counted-row Formula F j h = absurd (not-suc-le-zero h)

-- among rows that are all alike, and others after them, each list has the same one
pub alike : (row : Row) (others : List Row) (k j : ℕ) → j < k
    → drop j (replicate k row ++ others) ≡ row ∷ drop (j + 1) (replicate k row ++ others)
alike row others zero j h = absurd (not-suc-le-zero h)
alike row others (suc k) zero h = refl
alike row others (suc k) (suc j) h = rw suc-add (alike row others k j (le_of_suc-le-suc h))

-- a fourth list has names
pub fourth : (K : Kind) (F j : ℕ) → j < length (rows K F) → 3 ≤ j
    → drop j (rows K F) ≡ name_row ∷ drop (j + 1) (rows K F)
unfolding rows
fourth Clause F j h l = absurd (omega arith)
fourth Rule F j h l = absurd (omega arith)
fourth Maker F j h l = let is : j ≡ 3 = omega arith in rw is
fourth Goal F j h l = absurd (omega arith)
fourth Formula F j h l = absurd (omega arith)

-- A record without a list that has a count is a clause or a formula,
pub uncounted : (K : Kind) → (K ≡ Formula → ⊥) → list_count_lem K ≡ 0 → K ≡ Clause
unfolding list_count_lem rows
uncounted Clause other e = refl
uncounted Rule other e = absurd (omega arith)
uncounted Maker other e = absurd (omega arith)
uncounted Goal other e = absurd (omega arith)
uncounted Formula other e = absurd (other refl)

-- and one that has some is cut into them.
pub counted-cut : (K : Kind) → (list_count_lem K ≡ 0 → ⊥) → cut K ≡ cut_lists (list_count_lem K)
unfolding list_count_lem cut
counted-cut Clause e = absurd (e refl)
counted-cut Rule e = refl
counted-cut Maker e = refl
counted-cut Goal e = refl
counted-cut Formula e = absurd (e refl)

-- ---- the lists of a record

-- the lists of a record whose length fits
pub lists-cut : (K : Kind) (r : List ℕ) → length r ≡ 2 + word r → lists_of K r ≡ cut K (drop 2 r)
unfolding lists_of
lists-cut K r h = ap (λ (b : Bool). cond b (cut K (drop 2 r)) none) (eq-eqb (length r) (2 + word r) h)

-- a record whose length does not fit has none
pub lists-none : (K : Kind) (r : List ℕ) → (length r ≡ 2 + word r → ⊥) → lists_of K r ≡ none
unfolding lists_of
lists-none K r h = ap (λ (b : Bool). cond b (cut K (drop 2 r)) none) (ne_eqb (length r) (2 + word r) h)

-- the same of the record that some bytes start with, whose lists are in the bytes after its length
module _ (K : Kind) where
  pub first-cut : (bytes : List ℕ) → 2 + word bytes ≤ length bytes
      → lists_of K (record_of_lem bytes) ≡ cut K (take (word bytes) (drop 2 bytes))
  unfolding word
  first-cut [] h = absurd (omega arith)
  first-cut (a ∷ []) h = absurd (omega arith)
  first-cut (a ∷ b ∷ rest) h =
      let bytes = a ∷ b ∷ rest in
      let size = word bytes in
      let is : record_of_lem bytes ≡ a ∷ b ∷ take size rest = record-fits bytes h ∙ take-add 2 size bytes in
      rw is (lists-cut K (a ∷ b ∷ take size rest) (omega (arith, length-take-le size rest (omega arith))))

  pub first-none : (bytes : List ℕ) → length bytes < 2 + word bytes → lists_of K (record_of_lem bytes) ≡ none
  first-none bytes h = rw (record-rest bytes h) (lists-none K bytes (λ e. omega arith))

-- That record is whole, and its lists are where its length says,
pub first-whole : (bytes : List ℕ) → 2 + word bytes ≤ length bytes
    → (whole (record_of_lem bytes) ≡ true) × (take (word bytes) (drop 2 bytes) ≡ drop 2 (record_of_lem bytes))
unfolding whole word
first-whole [] h = absurd (omega arith)
first-whole (a ∷ []) h = absurd (omega arith)
first-whole (a ∷ b ∷ rest) h =
    let bytes = a ∷ b ∷ rest in
    let size = word bytes in
    let is : record_of_lem bytes ≡ a ∷ b ∷ take size rest = record-fits bytes h ∙ take-add 2 size bytes in
    rw is (eq-eqb _ _ (omega (arith, length-take-le size rest (omega arith))), refl)

-- and where its length doesn't fit, the bytes are a record that isn't whole.
pub first-not-whole : (bytes : List ℕ) → length bytes < 2 + word bytes
    → (record_of_lem bytes ≡ bytes) × (whole bytes ≡ false)
unfolding whole
first-not-whole bytes h = (record-rest bytes h, ne_eqb _ _ (λ e. omega arith))

-- ---- a number as a byte

-- a byte that is not 0 is the number
pub refused : (number : Option ℕ) (k : ℕ) → k ≡ code number → (k ≡ 0 → ⊥) → number ≡ some k
refused none k e h = absurd (h e)
refused (some j) k e h = ap {B = Option ℕ} some (sym e)

-- the byte 0 is no number, since none of the numbers is 0
clear : (p q u v : ℕ) (first second third fourth : Bool)
    → 0 ≡ code (given first (suc p) or_else given second (suc q) or_else given third (suc u) or_else given fourth (suc v))
    → (first ≡ false) × (second ≡ false) × (third ≡ false) × (fourth ≡ false)
unfolding given ◌or_else◌
clear p q u v true second third fourth e = absurd (omega arith)
clear p q u v false true third fourth e = absurd (omega arith)
clear p q u v false false true fourth e = absurd (omega arith)
clear p q u v false false false true e = absurd (omega arith)
clear p q u v false false false false e = (refl, refl, refl, refl)

-- neither of two tests holds where not one of them does
pub or_clear : (a b : Bool) → (a || b) ≡ false → (a ≡ false) × (b ≡ false)
or_clear true b e = absurd (true≢false e)
or_clear false b e = (refl, e)

-- what is known of record n of its section, once it is judged and nothing is wrong with it
pub record Judged (K : Kind) (F n : ℕ) (r : List ℕ) : Type 0 where
  pub lists : List (List ℕ)
  pub fill : lists_of K r ≡ some lists
  pub counted : leb (most K) n ≡ false
  pub short : any_list over_long (rows K F) lists ≡ false
  pub facts : any_list wrong_fact (rows K F) lists ≡ false
  pub names : any_list wrong_name (rows K F) lists ≡ false
  pub ordered : any (λ l. not (ascending l)) lists ≡ false

-- the same of a formula, by its codes
pub record Formed (F n : ℕ) (r : List ℕ) : Type 0 where
  pub fits : whole r ≡ true
  pub even : odd (drop 2 r) ≡ false
  pub counted : leb (most Formula) n ≡ false
  pub short : ltb 255 (length (codes_in r)) ≡ false
  pub facts : any (λ c. leb F c && ltb c 32768) (codes_in r) ≡ false
  pub formula : is_formula_lem (codes_in r) ≡ true

module _ (K : Kind) (F n : ℕ) (r : List ℕ) where
  -- lists for which the byte is 0
  pub lists-fine : 0 ≡ code (judge_lists K F n r) → Judged K F n r
  unfolding judge_lists
  lists-fine e = go (lists_of K r) refl e
    where
      go : (lists : Option (List (List ℕ))) → lists_of K r ≡ lists → 0 ≡ code (judge_lists K F n r) → Judged K F n r
      go none cut e =
          let four : ◌≡◌ {A = ℕ} 0 4 = rw (cut, judge_lists) at e in
          absurd (omega arith)
      go (some lists) cut e =
          let tests = clear 4 5 11 6 _ _ _ _ (rw (cut, judge_lists) at e) in
          let count = or_clear _ _ tests.0 in
          record {
            lists = lists;
            fill = cut;
            counted = count.0;
            short = count.1;
            facts = tests.1;
            names = tests.2;
            ordered = tests.3;
          }

  -- have no number
  pub lists-passed : 0 ≡ code (judge_lists K F n r) → judge_lists K F n r ≡ none
  unfolding judge_lists
  lists-passed e =
      let j = lists-fine e in
      rw (j.fill, judge_lists) (rw (j.counted, j.short, j.facts, j.names, j.ordered))

module _ (F n : ℕ) (r : List ℕ) where
  -- a formula for which it is 0
  pub formed : 0 ≡ code (judge_formula F n r) → Formed F n r
  unfolding judge_formula
  formed e =
      let tests = clear 3 4 5 16 _ _ _ _ e in
      let shape = or_clear _ _ tests.0 in
      let count = or_clear _ _ tests.1 in
      record {
        fits = not-false _ shape.0;
        even = shape.1;
        counted = count.0;
        short = count.1;
        facts = tests.2;
        formula = not-false _ tests.3;
      }

  -- has no number,
  pub formula-passed : 0 ≡ code (judge_formula F n r) → judge_formula F n r ≡ none
  unfolding judge_formula given ◌or_else◌
  formula-passed e =
      let f = formed e in
      rw (f.fits, f.even, f.counted, f.short, f.facts, f.formula)

  -- and no lists
  formula-fine : 0 ≡ code (judge_formula F n r) → Judged Formula F n r
  unfolding lists_of cut any_list any
  formula-fine e =
      let f = formed e in
      record {
        lists = [];
        fill = rw (f.fits, f.even);
        counted = f.counted;
        short = refl;
        facts = refl;
        names = refl;
        ordered = refl;
      }

-- a record of any kind for which it is 0
pub judged : (K : Kind) (F n : ℕ) (r : List ℕ) → 0 ≡ code (judge K F n r) → Judged K F n r
unfolding judge
judged Clause = lists-fine Clause
judged Rule = lists-fine Rule
judged Maker = lists-fine Maker
judged Goal = lists-fine Goal
judged Formula = formula-fine

-- the record that some bytes start with, if nothing is wrong with its lists, is as long as its length says
pub lists-size : (K : Kind) (F n : ℕ) (bytes : List ℕ) → 0 ≡ code (judge_lists K F n (record_of_lem bytes))
    → length (record_of_lem bytes) ≡ 2 + word bytes
lists-size K F n bytes e =
    by-test (leb (2 + word bytes) (length bytes))
    (λ q.
    let fits : 2 + word bytes ≤ length bytes = leb-true _ _ q in
    rw (record-fits bytes fits) (length-take-le (2 + word bytes) bytes fits))
    (λ q. absurd (none-ne-some _
    (sym (first-none K bytes (leb-false _ _ q)) ∙ (lists-fine K F n (record_of_lem bytes) e).fill)))
