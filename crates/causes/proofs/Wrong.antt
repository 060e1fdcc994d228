-- Laws on judging one record: the number given is the first of what is wrong with it, by the passes over it, and none
-- is given where nothing is.
use Prim.Native.Nat.{ℕ, ◌≤◌, ◌<◌}
use mathlib.Core.Path.{◌≡◌, refl, sym, ap, subst, ◌∙◌}
use mathlib.Core.Logic.{◌⊎◌, inl, inr, ⊎_elim}
use mathlib.Core.Bool.{Bool, true, false, not, ◌||◌}
use mathlib.Core.List.{List}
use mathlib.Core.Option.{Option, none, some}
use native.Mathlib.Omega.{arith}
use lib.Dec.{leb, ltb, lit<}
use lib.ListN.{length, take, drop, get_or}
use borrow.Author.Tests.{leb-true, ltb-true, le-leb, lt-leb, lt-ltb, not-true}
use Rattle.sets.specs.Sets.{any, ◌∈◌}
use Rattle.sets.proofs.Laws.{is_true, passes, fails, by-test, either, below_or_from, any_in, any_intro}
use Rattle.records.specs.Words.{ascending}
use Rattle.records.specs.Records.{given, ◌or_else◌, lists_of, most, judge_lists, judge, bare}
use Rattle.records.proofs.Judging.{judge-lists, judge-formula}
use Rattle.lists.proofs.Rows.{longest, asked}
use Rattle.records.specs.declared.Kind.{Kind}
use Rattle.records.specs.declared.Kind.TheVariants as kind
use Rattle.sections.specs.Sections.{sizes, rule_kind_lem}
use Rattle.sections.specs.declared.Role.{Role}
use Rattle.sections.specs.declared.Role.TheVariants.{Sizes, Initial, Persistent, Names, Clauses, Rules, Goals}
use Rattle.sections.specs.declared.Role.TheVariants.{Formulas}
use Rattle.causes.specs.Causes.{WrongSizes, WrongNumbers, WrongFacts, WrongNames, WrongRecord, WrongFormula}
use Rattle.causes.specs.Causes.{RuleKind, Wrong, passes as in_turn, turn}
use Rattle.causes.proofs.First.{unordered, ordered, First, first-last, first_next, sizes-first, facts-first}
use Rattle.causes.proofs.First.{names-first}
use Rattle.causes.proofs.Formulas.{formula-first}

-- ---- records

-- the turn of 4 is the first
none-sooner : (j : ℕ) → turn j < turn 4 → ⊥
unfolding turn
none-sooner j h = omega arith

module _ (K : Kind) (F n : ℕ) (r : List ℕ) where
  abbrev W : ℕ → Type 0
  W = WrongRecord K (most K) (longest K) F n r

  module _ (lists : List (List ℕ)) (cut : lists_of K r ≡ some lists) where
    abbrev long_list : List ℕ → Bool
    long_list l = ltb (longest K) (length l)

    abbrev unsorted : List ℕ → Bool
    unsorted l = not (ascending l)

    -- other lists of the record are these
    same : {others : List (List ℕ)} → lists_of K r ≡ some others → others ≡ lists
    same e = cc

    -- with lists the record's shape is right
    shaped : {A : Type 0} → lists_of K r ≡ none → A
    shaped e = let z : ◌≡◌ {A = ℕ} 0 1 = cc in absurd (omega arith)

    over : (leb (most K) n || any long_list lists) ≡ true → WrongRecord K (most K) (longest K) F n r 5
    over e =
        ⊎_elim (λ h. WrongRecord.count (leb-true _ _ (is_true h)))
        (λ h. let (l, i, t) = any_in long_list lists h in WrongRecord.longer cut l i (ltb-true _ _ (is_true t)))
        ((either (leb (most K) n) (any long_list lists)).0 (passes e))

    counted : (leb (most K) n || any long_list lists) ≡ false → WrongRecord K (most K) (longest K) F n r 5 → ⊥
    counted e (WrongRecord.count h) =
        fails e ((either (leb (most K) n) (any long_list lists)).1 (inl (passes (le-leb _ _ h))))
    counted e (WrongRecord.longer q l i h) =
        fails e ((either (leb (most K) n) (any long_list lists)).1
        (inr (any_intro long_list lists l (rw (same q) at i) (passes (lt-ltb _ _ h)))))

    -- some of these lists has a number that is the limit or more
    abbrev reaching : ℕ → List (List ℕ) → Bool
    reaching limit = any (any (leb limit))

    reached : (limit : ℕ) (ls : List (List ℕ)) → reaching limit ls ≡ true
        → (l : List ℕ) × (l ∈ ls) × (a : ℕ) × (a ∈ l) × (limit ≤ a)
    reached limit ls e =
        let (l, i, t) = any_in (any (leb limit)) ls (passes e) in
        let (a, j, u) = any_in (leb limit) l t in
        (l, i, a, j, leb-true limit a (is_true u))

    not-reached : (limit : ℕ) {ls : List (List ℕ)} {l : List ℕ} {a : ℕ} → reaching limit ls ≡ false
        → l ∈ ls → a ∈ l → limit ≤ a → ⊥
    not-reached limit {ls} {l} {a} e i j h =
        fails e (any_intro (any (leb limit)) ls l i (any_intro (leb limit) l a j (passes (le-leb limit a h))))

    known : reaching F (take 3 lists) ≡ false → WrongRecord K (most K) (longest K) F n r 6 → ⊥
    known e (WrongRecord.fact q l i f j h) = not-reached F e (rw (same q) at i) j h

    named : reaching 1024 (drop 3 lists) ≡ false → WrongRecord K (most K) (longest K) F n r 12 → ⊥
    named e (WrongRecord.name q l i a j h) = not-reached 1024 e (rw (same q) at i) j h

    rising : any unsorted lists ≡ false → WrongRecord K (most K) (longest K) F n r 7 → ⊥
    rising e (WrongRecord.order q l i u) =
        by-test (ascending l) (λ up. ordered l up u)
        (λ down. fails e (any_intro unsorted lists l (rw (same q) at i) (rw down tt)))

    -- what can be wrong with it, in turn
    from_five : {k : ℕ} → WrongRecord K (most K) (longest K) F n r k → (k ≡ 5) ⊎ (turn 5 < turn k)
    unfolding turn
    from_five (WrongRecord.shape e) = shaped e
    from_five (WrongRecord.count h) = inl refl
    from_five (WrongRecord.longer q l i h) = inl refl
    from_five (WrongRecord.fact q l i f j h) = inr (lit< tt)
    from_five (WrongRecord.name q l i a j h) = inr (lit< tt)
    from_five (WrongRecord.order q l i u) = inr (lit< tt)

    from_six : {k : ℕ} → WrongRecord K (most K) (longest K) F n r k → turn 5 < turn k → (k ≡ 6) ⊎ (turn 6 < turn k)
    unfolding turn
    from_six (WrongRecord.shape e) m = shaped e
    from_six (WrongRecord.count h) m = absurd (omega arith)
    from_six (WrongRecord.longer q l i h) m = absurd (omega arith)
    from_six (WrongRecord.fact q l i f j h) m = inl refl
    from_six (WrongRecord.name q l i a j h) m = inr (lit< tt)
    from_six (WrongRecord.order q l i u) m = inr (lit< tt)

    from_twelve : {k : ℕ} → WrongRecord K (most K) (longest K) F n r k → turn 6 < turn k → (k ≡ 12) ⊎ (turn 12 < turn k)
    unfolding turn
    from_twelve (WrongRecord.shape e) m = shaped e
    from_twelve (WrongRecord.count h) m = absurd (omega arith)
    from_twelve (WrongRecord.longer q l i h) m = absurd (omega arith)
    from_twelve (WrongRecord.fact q l i f j h) m = absurd (omega arith)
    from_twelve (WrongRecord.name q l i a j h) m = inl refl
    from_twelve (WrongRecord.order q l i u) m = inr (lit< tt)

    from_seven : {k : ℕ} → WrongRecord K (most K) (longest K) F n r k → turn 12 < turn k → k ≡ 7
    unfolding turn
    from_seven (WrongRecord.shape e) m = shaped e
    from_seven (WrongRecord.count h) m = absurd (omega arith)
    from_seven (WrongRecord.longer q l i h) m = absurd (omega arith)
    from_seven (WrongRecord.fact q l i f j h) m = absurd (omega arith)
    from_seven (WrongRecord.name q l i a j h) m = absurd (omega arith)
    from_seven (WrongRecord.order q l i u) m = refl

    lists-first : First
        (given (leb (most K) n || any long_list lists) 5
        or_else given (reaching F (take 3 lists)) 6
        or_else given (reaching 1024 (drop 3 lists)) 12
        or_else given (any unsorted lists) 7) W
    unfolding turn
    lists-first =
        first_next W 5 (leb (most K) n || any long_list lists) _ over counted (λ k w. from_five w)
        (first_next (λ k. W k × (turn 5 < turn k)) 6 (reaching F (take 3 lists)) _
        (λ e. let (l, i, f, j, h) = reached F (take 3 lists) e in (WrongRecord.fact cut l i f j h, lit< tt))
        (λ e w. known e w.0) (λ k (w, m). from_six w m)
        (first_next (λ k. (W k × (turn 5 < turn k)) × (turn 6 < turn k)) 12 (reaching 1024 (drop 3 lists)) _
        (λ e.
        let (l, i, a, j, h) = reached 1024 (drop 3 lists) e in
        ((WrongRecord.name cut l i a j h, lit< tt), lit< tt))
        (λ e w. named e w.0.0) (λ k ((w, _), m). from_twelve w m)
        (first-last (λ k. ((W k × (turn 5 < turn k)) × (turn 6 < turn k)) × (turn 12 < turn k)) 7 (any unsorted lists)
        (λ e.
        let (l, i, t) = any_in unsorted lists (passes e) in
        (((WrongRecord.order cut l i (unordered l (not-true _ (is_true t))), lit< tt), lit< tt), lit< tt))
        (λ e w. rising e w.0.0.0) (λ k (((w, _), _), m). from_seven w m))))

  -- A formula has no lists and is judged by its codes.
  judge-first : (K ≡ kind.Formula → ⊥) → First (judge K F n r) W
  unfolding judge_lists
  judge-first other = rw (judge-lists K other) (go (lists_of K r) refl)
    where
      go : (cut : Option (List (List ℕ))) → lists_of K r ≡ cut
          → First (judge_lists K F n r) (WrongRecord K (most K) (longest K) F n r)
      go none e = rw (e, judge_lists) (WrongRecord.shape e, λ j h w. none-sooner j h)
      go (some lists) e =
          let a = asked K F r lists e in
          rw (e, judge_lists) (rw (a.long, a.fact, a.name) (lists-first lists e))

-- ---- every role

-- what judging record n of a section of a role gives
unfoldable pub number_in : ℕ → Role → ℕ → ℕ → List ℕ → Option ℕ
number_in version Sizes F = λ n r. sizes r
number_in version Initial F = λ n r. bare false F r
number_in version Persistent F = λ n r. bare false F r
number_in version Names F = λ n r. bare true 1024 r
number_in version Clauses F = judge kind.Clause F
number_in version Rules F = judge (rule_kind_lem version) F
number_in version Goals F = judge kind.Goal F
number_in version Formulas F = judge kind.Formula F

-- the kind of a version's rules, in words
rules_are : (version : ℕ) → RuleKind version (rule_kind_lem version)
unfolding rule_kind_lem
rules_are version =
    ⊎_elim (λ h. rw (lt-leb 3 version h) (RuleKind.three h)) (λ h. rw (le-leb 3 version h) (RuleKind.four h))
    (below_or_from version 3)

rules-one : {version : ℕ} {K L : Kind} → RuleKind version K → RuleKind version L → K ≡ L
rules-one (RuleKind.three h) (RuleKind.three l) = refl
rules-one (RuleKind.three h) (RuleKind.four l) = absurd (omega arith)
rules-one (RuleKind.four h) (RuleKind.three l) = absurd (omega arith)
rules-one (RuleKind.four h) (RuleKind.four l) = refl

-- none is a formula
rules-listed : {version : ℕ} {K : Kind} → RuleKind version K → K ≡ kind.Formula → ⊥
rules-listed (RuleKind.three h) e = let z : ◌≡◌ {A = ℕ} 0 1 = cc in omega arith
rules-listed (RuleKind.four h) e = let z : ◌≡◌ {A = ℕ} 0 1 = cc in omega arith

-- the bounds of both kinds of rules
rule-bounds : {version : ℕ} {K : Kind} → RuleKind version K → (most K ≡ 2048) × (longest K ≡ 32)
unfolding most longest
rule-bounds (RuleKind.three h) = (refl, refl)
rule-bounds (RuleKind.four h) = (refl, refl)

rules-first : (version F n : ℕ) (r : List ℕ) → First (judge (rule_kind_lem version) F n r) (Wrong version Rules F n r)
rules-first version F n r =
    let (bound, long) = rule-bounds (rules_are version) in
    go (judge K F n r)
    (subst (λ b. First (judge K F n r) (WrongRecord K b 32 F n r)) bound
    (subst (λ l. First (judge K F n r) (WrongRecord K (most K) l F n r)) long
    (judge-first K F n r (rules-listed (rules_are version)))))
  where
    K : Kind
    K = rule_kind_lem version

    go : (found : Option ℕ) → First found (WrongRecord K 2048 32 F n r)
        → First found (λ k. (L : Kind) × RuleKind version L × WrongRecord L 2048 32 F n r k)
    go (some k) (w, least) =
        ((K, rules_are version, w), λ j h (L, is, v). least j h (rw (rules-one is (rules_are version)) at v))
    go none none-there = λ k (L, is, v). none-there k (rw (rules-one is (rules_are version)) at v)

-- It is the first of what is wrong with it.
number-first : (version : ℕ) (role : Role) (F n : ℕ) (r : List ℕ)
    → First (number_in version role F n r) (Wrong version role F n r)
unfolding number_in most longest
number-first version Sizes F n r = sizes-first r
number-first version Initial F n r = facts-first F r
number-first version Persistent F n r = facts-first F r
number-first version Names F n r = names-first r
number-first version Clauses F n r =
    judge-first kind.Clause F n r (λ e. let z : ◌≡◌ {A = ℕ} 0 1 = cc in omega arith)
number-first version Rules F n r = rules-first version F n r
number-first version Goals F n r =
    judge-first kind.Goal F n r (λ e. let z : ◌≡◌ {A = ℕ} 0 1 = cc in omega arith)
number-first version Formulas F n r = rw judge-formula (formula-first F n r)

-- A number that is given is so, with nothing wrong whose turn is earlier,
pub number-some : (version : ℕ) (role : Role) (F n : ℕ) (r : List ℕ) (k : ℕ) → number_in version role F n r ≡ some k
    → Wrong version role F n r k × ((j : ℕ) → turn j < turn k → Wrong version role F n r j → ⊥)
number-some version role F n r k e = subst (λ x. First x (Wrong version role F n r)) e (number-first version role F n r)

-- and where none is given nothing is wrong.
pub number-none : (version : ℕ) (role : Role) (F n : ℕ) (r : List ℕ) → number_in version role F n r ≡ none
    → (k : ℕ) → Wrong version role F n r k → ⊥
number-none version role F n r e = subst (λ x. First x (Wrong version role F n r)) e (number-first version role F n r)

-- ---- the numbers

-- one of 4 to 7, 12 or 17
pub data Within : ℕ → Type 0 where
  shape : Within 4
  count : Within 5
  fact : Within 6
  name : Within 12
  order : Within 7
  formula : Within 17

record-within : {K : Kind} {most longest F n k : ℕ} {r : List ℕ} → WrongRecord K most longest F n r k → Within k
record-within (WrongRecord.shape e) = Within.shape
record-within (WrongRecord.count h) = Within.count
record-within (WrongRecord.longer e l i h) = Within.count
record-within (WrongRecord.fact e l i f j h) = Within.fact
record-within (WrongRecord.name e l i a j h) = Within.name
record-within (WrongRecord.order e l i u) = Within.order

facts-within : {F k : ℕ} {bytes : List ℕ} → WrongFacts F bytes k → Within k
facts-within (WrongNumbers.shape h) = Within.shape
facts-within (WrongNumbers.large f i h) = Within.fact
facts-within (WrongNumbers.order h) = Within.order

names-within : {k : ℕ} {bytes : List ℕ} → WrongNames bytes k → Within k
names-within (WrongNumbers.shape h) = Within.shape
names-within (WrongNumbers.large a i h) = Within.name
names-within (WrongNumbers.order h) = Within.order

formula-within : {F n k : ℕ} {r : List ℕ} → WrongFormula F n r k → Within k
formula-within (WrongFormula.unfit h) = Within.shape
formula-within (WrongFormula.shape h) = Within.shape
formula-within (WrongFormula.count h) = Within.count
formula-within (WrongFormula.longer h) = Within.count
formula-within (WrongFormula.fact c i s h) = Within.fact
formula-within (WrongFormula.formula h) = Within.formula

sizes-within : {k : ℕ} {bytes : List ℕ} → WrongSizes bytes k → Within k
sizes-within (WrongSizes.shape h) = Within.shape
sizes-within (WrongSizes.count h) = Within.count

pub wrong-within : (version : ℕ) (role : Role) (F n : ℕ) (r : List ℕ) (k : ℕ) → Wrong version role F n r k → Within k
wrong-within version Sizes F n r k w = sizes-within w
wrong-within version Initial F n r k w = facts-within w
wrong-within version Persistent F n r k w = facts-within w
wrong-within version Names F n r k w = names-within w
wrong-within version Clauses F n r k w = record-within w
wrong-within version Rules F n r k (K, is, w) = record-within w
wrong-within version Goals F n r k w = record-within w
wrong-within version Formulas F n r k w = formula-within w

-- Each is the number of its turn,
of_turn : {k : ℕ} → Within k → get_or in_turn (turn k) 0 ≡ k
unfolding turn in_turn
of_turn Within.shape = refl
of_turn Within.count = refl
of_turn Within.fact = refl
of_turn Within.name = refl
of_turn Within.order = refl
of_turn Within.formula = refl

-- so that those of one turn are one number.
pub one-turn : {k j : ℕ} → Within k → Within j → turn k ≡ turn j → k ≡ j
one-turn w v e = sym (of_turn w) ∙ ap (λ i. get_or in_turn i 0) e ∙ of_turn v
