-- Laws on the rows of a record's lists: that some list fails its row's test, said without rows; facts and names of a
-- judged record.
use Prim.Native.Nat.{ℕ, zero, suc, ◌<◌}
use mathlib.Core.Path.{◌≡◌, refl, ◌∙◌, sym}
use mathlib.Core.Bool.{Bool, false}
use mathlib.Core.List.Memᴰ
use mathlib.Core.List.{List, [], ◌∷◌}
use mathlib.Core.Option
use mathlib.Core.Option.{Option, none, some}
use native.Mathlib.Omega.{arith}
use lib.Dec.{leb, ltb}
use lib.ListN.{length, take, drop, get_or, get_or-eq_default}
use lib.Seq.{get_or-take, get_or-drop}
use borrow.Author.Tests.{leb-false}
use Rattle.sets.specs.Sets.{any, ◌∈◌}
use Rattle.sets.proofs.Laws.{is_false, fails, any_intro}
use Rattle.records.specs.Words.{word, words}
use Rattle.records.specs.Records.{records, judge, first_fault_lem, list_of}
use Rattle.records.specs.Records.{rows, list_count_lem, cut, lists_of, over_long, wrong_fact, wrong_name, any_list}
use Rattle.records.specs.declared.Kind.{Kind}
use Rattle.records.specs.declared.Kind.TheVariants.{Clause, Rule, Maker, Goal, Formula}
use Rattle.lists.specs.Lists.{Cut}
use Rattle.lists.proofs.Cuts.{body-cut, cut-length, formula-lists}
use Rattle.records.proofs.Judging.{or_clear}
use Rattle.lists.proofs.Laws.{clause-lists, judged_as}

-- how many facts the longest list of a kind may have
unfoldable pub longest : Kind → ℕ
longest Clause = 16
longest Rule = 32
longest Maker = 32
longest Goal = 32
longest Formula = 0

-- what asking the rows comes to, for the lists of a record: only a fourth list has names
pub record Asked (K : Kind) (F : ℕ) (lists : List (List ℕ)) : Type 0 where
  pub long : any_list over_long (rows K F) lists ≡ any (λ l. ltb (longest K) (length l)) lists
  pub fact : any_list wrong_fact (rows K F) lists ≡ any (any (leb F)) (take 3 lists)
  pub name : any_list wrong_name (rows K F) lists ≡ any (any (leb 1024)) (drop 3 lists)

asked-clause : (F head : ℕ) (body : List ℕ) → Asked Clause F ((head ∷ []) ∷ body ∷ [])
unfolding any_list any rows longest
asked-clause F head body = record { long = refl; fact = refl; name = refl }

asked-rule : (F : ℕ) (lists : List (List ℕ)) → length lists ≡ 3 → Asked Rule F lists
unfolding any_list any rows longest
asked-rule F [] e = absurd (omega arith)
asked-rule F (a ∷ []) e = absurd (omega arith)
asked-rule F (a ∷ b ∷ []) e = absurd (omega arith)
asked-rule F (a ∷ b ∷ c ∷ []) e = record { long = refl; fact = refl; name = refl }
asked-rule F (a ∷ b ∷ c ∷ d ∷ rest) e = absurd (omega arith)

asked-maker : (F : ℕ) (lists : List (List ℕ)) → length lists ≡ 4 → Asked Maker F lists
unfolding any_list any rows longest
asked-maker F [] e = absurd (omega arith)
asked-maker F (a ∷ []) e = absurd (omega arith)
asked-maker F (a ∷ b ∷ []) e = absurd (omega arith)
asked-maker F (a ∷ b ∷ c ∷ []) e = absurd (omega arith)
asked-maker F (a ∷ b ∷ c ∷ d ∷ []) e = record { long = refl; fact = refl; name = refl }
asked-maker F (a ∷ b ∷ c ∷ d ∷ x ∷ rest) e = absurd (omega arith)

asked-goal : (F : ℕ) (lists : List (List ℕ)) → length lists ≡ 2 → Asked Goal F lists
unfolding any_list any rows longest
asked-goal F [] e = absurd (omega arith)
asked-goal F (a ∷ []) e = absurd (omega arith)
asked-goal F (a ∷ b ∷ []) e = record { long = refl; fact = refl; name = refl }
asked-goal F (a ∷ b ∷ c ∷ rest) e = absurd (omega arith)

asked-formula : (F : ℕ) → Asked Formula F []
unfolding any_list any rows longest
asked-formula F = record { long = refl; fact = refl; name = refl }

pub asked : (K : Kind) (F : ℕ) (r : List ℕ) (lists : List (List ℕ)) → lists_of K r ≡ some lists → Asked K F lists
unfolding cut list_count_lem rows Cut
asked Clause F r lists e =
    let same = sym e ∙ clause-lists r (lists, e) in
    let is : lists ≡ (word (drop 2 r) ∷ []) ∷ words (drop 4 r) ∷ [] = cc in
    rw is (asked-clause F _ _)
asked Rule F r lists e = asked-rule F lists (cut-length 3 (drop 2 r) lists (body-cut Rule r lists e))
asked Maker F r lists e = asked-maker F lists (cut-length 4 (drop 2 r) lists (body-cut Maker r lists e))
asked Goal F r lists e = asked-goal F lists (cut-length 2 (drop 2 r) lists (body-cut Goal r lists e))
asked Formula F r lists e = rw (formula-lists r lists e) (asked-formula F)

-- A rule has no fourth list.
pub no_fourth : (r : List ℕ) → list_of Rule r 3 ≡ []
unfolding list_of cut list_count_lem rows
no_fourth r = go (lists_of Rule r) refl
  where
    go : (lists : Option (List (List ℕ))) → lists_of Rule r ≡ lists → get_or (Option.get_or lists []) 3 [] ≡ []
    go none e = refl
    go (some lists) e =
        get_or-eq_default lists [] (omega (arith, cut-length 3 (drop 2 r) lists (body-cut Rule r lists e)))

-- ---- the numbers of a judged record

module _ {ℓ} {A : Type ℓ} (p : A → Bool) where
  -- no entry of a list passes a test that none of its entries passes
  any-clear : {x : A} {xs : List A} → x ∈ xs → any p xs ≡ false → p x ≡ false
  any-clear {x} {xs} m h = is_false (λ t. fails h (any_intro p xs x m t))

-- a number of one of these lists is below a limit that none reaches
below_limit : (limit : ℕ) (lists : List (List ℕ)) → any (any (leb limit)) lists ≡ false → (j f : ℕ)
    → f ∈ get_or lists j [] → f < limit
unfolding any
below_limit limit [] e j f m = absurd (Memᴰ.not-nil m)
below_limit limit (l ∷ lists) e zero f m = leb-false limit f (any-clear (leb limit) m (or_clear _ _ e).0)
below_limit limit (l ∷ lists) e (suc j) f m = below_limit limit lists (or_clear (any (leb limit) l) _ e).1 j f m

module _ (K : Kind) (F : ℕ) (section : List ℕ) (fine : first_fault_lem (judge K F) section ≡ none)
    (r : List ℕ) (member : r ∈ records section) where
  -- Every number of the first three lists of a record of a judged section is below F;
  pub judged-facts : (j f : ℕ) → j < 3 → f ∈ list_of K r j → f < F
  unfolding list_of
  judged-facts j f h m =
      let judged = (judged_as K F section fine r member).1 in
      let lists = judged.lists in
      let clear = sym (asked K F r lists judged.fill).fact ∙ judged.facts in
      below_limit F (take 3 lists) clear j f (rw (get_or-take 3 lists j [] h) (rw judged.fill at m))

  -- those of a fourth list are names.
  pub judged-names : (n : ℕ) → n ∈ list_of K r 3 → n < 1024
  unfolding list_of
  judged-names n m =
      let judged = (judged_as K F section fine r member).1 in
      let lists = judged.lists in
      let clear = sym (asked K F r lists judged.fill).name ∙ judged.names in
      below_limit 1024 (drop 3 lists) clear 0 n (rw (get_or-drop 3 lists 0 []) (rw judged.fill at m))
