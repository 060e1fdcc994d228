-- A record whose shape is right is the bytes of its lists, written out (specs/Written), and one that is a formula those
-- of its codes.
use Prim.Native.Nat.{ℕ, zero, suc, ◌+◌, ◌*◌, ◌/◌, ◌%◌, ◌≤◌, ◌<◌}
use mathlib.Core.Path.{◌≡◌, refl, sym, ap, ◌∙◌}
use mathlib.Core.Logic.{◌↔◌, ⊎_elim}
use mathlib.Core.Bool.{Bool, true, false, true≢false, cond}
use mathlib.Core.List.{List, [], ◌∷◌, ◌++◌, flat_map, append_assoc, append-nil}
use mathlib.Core.Option.{Option, none, some, map, none-ne-some}
use native.Mathlib.Omega.{arith}
use lib.Dec.{leb, ltb, eqb}
use lib.ListN.{length, length-append, take, drop, get_or, length-take, length-drop, take-append-drop}
use lib.ListN.{get_or-eq_default}
use lib.Seq.{take_at, drop_at, drop-drop, take-add, length-take-le, get_or-drop, get_or-take}
use borrow.Author.Tests.{leb-true, leb-false, ltb-false, le-ltb, eqb-true, eqb-false, ne_eqb}
use Rattle.sets.proofs.Laws.{by-test, below_or_from}
use Rattle.meaning.specs.Model.{Clause, Rule, Goal}
use Rattle.meaning.specs.Past.{Formula}
use Rattle.records.specs.Words.{word, words, odd}
use Rattle.records.specs.Codes.{is_formula_lem}
use Rattle.records.specs.Records.{cut_lists, cut_clause, cut, lists_of, list_of, codes_in}
use Rattle.records.specs.declared.Kind.{Kind}
use Rattle.records.specs.declared.Kind.TheVariants as kind
use Rattle.records.proofs.Words.{length-words, odd_is, odd-length, words-two}
use Rattle.records.proofs.Judging.{lists-cut, lists-none, or_clear}
use Rattle.records.proofs.Lists.{cut-next, cut_short}
use Rattle.lists.specs.Lists.{Cut}
use Rattle.formulas.specs.Codes.{codes_of, depth, FactsBelow, formula_of}
use Rattle.formulas.proofs.Laws.{formula_exactly, formula-is}
use Rattle.sections.specs.Sections.{rule_kind_lem}
use Rattle.files.specs.Files.{clause_of, rule_in, goal_in, formula_in}
use Rattle.causes.specs.Causes.{WrongFormula}
use Rattle.causes.specs.Written.{two_bytes, fact_bytes, list_bytes, record_bytes, clause_bytes, rule_bytes, maker_bytes}
use Rattle.causes.specs.Written.{goal_bytes, formula_bytes}

-- each is a byte
abbrev pub AllBytes : List ℕ → Type 0
AllBytes l = (i : ℕ) → get_or l i 0 < 256

bytes_drop : (n : ℕ) (l : List ℕ) → AllBytes l → AllBytes (drop n l)
bytes_drop n l b i = rw (get_or-drop n l i 0) (b (n + i))

bytes_take : (n : ℕ) (l : List ℕ) → AllBytes l → AllBytes (take n l)
bytes_take n l b i =
    ⊎_elim (λ h. rw (get_or-take n l i 0 h) (b i))
    (λ (h : n ≤ i). rw (get_or-eq_default (take n l) 0 {n = i} (rw length-take (omega arith))) (omega arith))
    (below_or_from i n)

-- Two bytes are their number's.
two-written : (l : List ℕ) → AllBytes l → 2 ≤ length l → two_bytes (word l) ≡ take 2 l
unfolding two_bytes word
two-written [] b h = absurd (omega arith)
two-written (x ∷ []) b h = absurd (omega arith)
two-written (x ∷ y ∷ rest) b h =
    let low : y < 256 = b 1 in
    let high : (x * 256 + y) / 256 ≡ x = omega arith in
    let remains : (x * 256 + y) % 256 ≡ y = omega arith in
    rw (high, remains)

-- Bytes two by two are their numbers'.
facts-written : (l : List ℕ) → AllBytes l → odd l ≡ false → fact_bytes (words l) ≡ l
unfolding fact_bytes words odd two_bytes
facts-written [] b e = refl
facts-written (x ∷ []) b e = absurd (true≢false e)
facts-written (x ∷ y ∷ rest) b e =
    let low : y < 256 = b 1 in
    let high : (x * 256 + y) / 256 ≡ x = omega arith in
    let remains : (x * 256 + y) % 256 ≡ y = omega arith in
    rw (high, remains) (ap (λ (l : List ℕ). x ∷ y ∷ l) (facts-written rest (λ i. b (suc (suc i))) e))

-- A list is its count and its facts.
list_written : (l : List ℕ) → AllBytes l → 2 + 2 * word l ≤ length l
    → list_bytes (words (take (2 * word l) (drop 2 l))) ≡ take (2 + 2 * word l) l
unfolding list_bytes
list_written l b h =
    let facts = take (2 * word l) (drop 2 l) in
    let size : length facts ≡ 2 * word l = length-take-le (2 * word l) (drop 2 l) (rw length-drop (omega arith)) in
    let count : length (words facts) ≡ word l = rw length-words (omega arith) in
    let even : odd facts ≡ false = odd_is facts ∙ ne_eqb (length facts % 2) 1 (λ e. omega arith) in
    let bytes : AllBytes facts = bytes_take (2 * word l) (drop 2 l) (bytes_drop 2 l b) in
    ap (λ (n : ℕ). two_bytes n ++ fact_bytes (words facts)) count
    ∙ ap (λ (p : List ℕ). p ++ fact_bytes (words facts)) (two-written l b (omega arith))
    ∙ ap (λ (q : List ℕ). take 2 l ++ q) (facts-written facts bytes even)
    ∙ sym (take-add 2 (2 * word l) l)

-- Bytes that are lists are those of these lists, one after the other.
lists-written : (k : ℕ) (l : List ℕ) (lists : List (List ℕ)) → AllBytes l → cut_lists k l ≡ some lists
    → (flat_map list_bytes lists ≡ l) × (length lists ≡ k)
unfolding cut_lists flat_map
lists-written zero [] lists b e = let is : [] ≡ lists = cc in rw (← is) (refl, refl)
lists-written zero (x ∷ l) lists b e = absurd (none-ne-some lists e)
lists-written (suc k) l lists b e =
    by-test (leb (2 + 2 * word l) (length l))
    (λ t. fits (leb-true _ _ t) (cut_lists k (drop (2 + 2 * word l) l)) refl
    (λ rest. lists-written k (drop (2 + 2 * word l) l) rest (bytes_drop (2 + 2 * word l) l b)))
    (λ t. absurd (none-ne-some lists (sym (cut_short k l (leb-false _ _ t)) ∙ e)))
  where
    fits : 2 + 2 * word l ≤ length l → (found : Option (List (List ℕ))) → cut_lists k (drop (2 + 2 * word l) l) ≡ found
        → ((rest : List (List ℕ)) → cut_lists k (drop (2 + 2 * word l) l) ≡ some rest
        → (flat_map list_bytes rest ≡ drop (2 + 2 * word l) l) × (length rest ≡ k))
        → (flat_map list_bytes lists ≡ l) × (length lists ≡ suc k)
    fits h none q later =
        let n : none ≡ some lists = rw q at (sym (cut-next k l h) ∙ e) in
        absurd (none-ne-some lists n)
    fits h (some rest) q later =
        let first = words (take (2 * word l) (drop 2 l)) in
        let s : some (first ∷ rest) ≡ some lists = rw q at (sym (cut-next k l h) ∙ e) in
        let is : first ∷ rest ≡ lists = cc in
        let (written, count) = later rest q in
        rw (← is, list_written l b h, written) (take-append-drop (2 + 2 * word l) l, ap suc count)

-- A record is its length and its bytes.
record-written : (r : List ℕ) → AllBytes r → length r ≡ 2 + word r → record_bytes (drop 2 r) ≡ r
unfolding record_bytes
record-written r b e =
    let size : length (drop 2 r) ≡ word r = rw length-drop (omega arith) in
    ap (λ (n : ℕ). two_bytes n ++ drop 2 r) size ∙ ap (λ (p : List ℕ). p ++ drop 2 r) (two-written r b (omega arith))
    ∙ take-append-drop 2 r

-- lists one after the other
three-lists : (x : Rule) → rule_bytes x ≡ record_bytes (flat_map list_bytes (x.P ∷ x.N ∷ x.A ∷ []))
unfolding rule_bytes flat_map
three-lists x =
    ap record_bytes
    (append_assoc (list_bytes x.P) (list_bytes x.N) (list_bytes x.A)
    ∙ ap (λ (l : List ℕ). list_bytes x.P ++ (list_bytes x.N ++ l)) (sym (append-nil (list_bytes x.A))))

four-lists : (x : Rule) → maker_bytes x ≡ record_bytes (flat_map list_bytes (x.P ∷ x.N ∷ x.A ∷ x.names ∷ []))
unfolding maker_bytes flat_map
four-lists x =
    let four = list_bytes x.names in
    ap record_bytes
    (append_assoc (list_bytes x.P ++ list_bytes x.N) (list_bytes x.A) four
    ∙ append_assoc (list_bytes x.P) (list_bytes x.N) (list_bytes x.A ++ four)
    ∙ ap (λ (l : List ℕ). list_bytes x.P ++ (list_bytes x.N ++ (list_bytes x.A ++ l))) (sym (append-nil four)))

two-lists : (p n : List ℕ) → goal_bytes (record { P = p; N = n }) ≡ record_bytes (flat_map list_bytes (p ∷ n ∷ []))
unfolding goal_bytes flat_map
two-lists p n = ap (λ (l : List ℕ). record_bytes (list_bytes p ++ l)) (sym (append-nil (list_bytes n)))

-- the rule and the attack state of a record's lists
rule_of_lem : (r p n a : List ℕ) → lists_of kind.Rule r ≡ some (p ∷ n ∷ a ∷ [])
    → rule_in 1 r ≡ record { P = p; N = n; A = a; names = [] }
unfolding rule_in list_of
rule_of_lem r p n a e = rw e

maker_of : (r p n a x : List ℕ) → lists_of kind.Maker r ≡ some (p ∷ n ∷ a ∷ x ∷ [])
    → rule_in 3 r ≡ record { P = p; N = n; A = a; names = x }
unfolding rule_in rule_kind_lem list_of
maker_of r p n a x e = rw e

goal_of_lem : (r p n : List ℕ) → lists_of kind.Goal r ≡ some (p ∷ n ∷ []) → goal_in r ≡ record { P = p; N = n }
unfolding goal_in list_of
goal_of_lem r p n e = rw e

-- what is cut was not refused
not_none : {A : Type 0} (test : Bool) (x a : A) → cond test none (some x) ≡ some a → test ≡ false
not_none true x a e = absurd (none-ne-some a e)
not_none false x a e = refl

-- the lists of a record whose shape is right
module _ (r : List ℕ) (b : AllBytes r) where
  shape-written : (k : ℕ) (lists : List (List ℕ)) → length r ≡ 2 + word r → cut_lists k (drop 2 r) ≡ some lists
      → (record_bytes (flat_map list_bytes lists) ≡ r) × (length lists ≡ k)
  shape-written k lists whole e =
      let (written, count) = lists-written k (drop 2 r) lists (bytes_drop 2 r b) e in
      (ap record_bytes written ∙ record-written r b whole, count)

  -- its length fits, and its bytes are cut into lists
  opened : (K : Kind) (lists : List (List ℕ)) → lists_of K r ≡ some lists
      → (length r ≡ 2 + word r) × (cut K (drop 2 r) ≡ some lists)
  opened K lists e =
      by-test (eqb (length r) (2 + word r))
      (λ t. let whole = eqb-true _ _ t in (whole, sym (lists-cut K r whole) ∙ e))
      (λ t. absurd (none-ne-some lists (sym (lists-none K r (eqb-false _ _ t)) ∙ e)))

  -- A rule's record whose shape is right is that rule, written.
  pub rule-written : Cut kind.Rule r → rule_bytes (rule_in 1 r) ≡ r
  unfolding Cut cut
  rule-written (lists, e) =
      let (whole, is) = opened kind.Rule lists e in
      let (written, count) = shape-written 3 lists whole is in
      rule-is lists e count ∙ written
    where
      rule-is : (lists : List (List ℕ)) → lists_of kind.Rule r ≡ some lists → length lists ≡ 3
          → rule_bytes (rule_in 1 r) ≡ record_bytes (flat_map list_bytes lists)
      rule-is [] e h = absurd (omega arith)
      rule-is (p ∷ []) e h = absurd (omega arith)
      rule-is (p ∷ n ∷ []) e h = absurd (omega arith)
      rule-is (p ∷ n ∷ a ∷ []) e h = ap rule_bytes (rule_of_lem r p n a e) ∙ three-lists _
      rule-is (p ∷ n ∷ a ∷ x ∷ xs) e h = absurd (omega arith)

  -- So is that of a rule with a fourth list.
  pub maker-written : Cut kind.Maker r → maker_bytes (rule_in 3 r) ≡ r
  unfolding Cut cut
  maker-written (lists, e) =
      let (whole, is) = opened kind.Maker lists e in
      let (written, count) = shape-written 4 lists whole is in
      maker-is lists e count ∙ written
    where
      maker-is : (lists : List (List ℕ)) → lists_of kind.Maker r ≡ some lists → length lists ≡ 4
          → maker_bytes (rule_in 3 r) ≡ record_bytes (flat_map list_bytes lists)
      maker-is [] e h = absurd (omega arith)
      maker-is (p ∷ []) e h = absurd (omega arith)
      maker-is (p ∷ n ∷ []) e h = absurd (omega arith)
      maker-is (p ∷ n ∷ a ∷ []) e h = absurd (omega arith)
      maker-is (p ∷ n ∷ a ∷ x ∷ []) e h = ap maker_bytes (maker_of r p n a x e) ∙ four-lists _
      maker-is (p ∷ n ∷ a ∷ x ∷ y ∷ ys) e h = absurd (omega arith)

  -- So is an attack state's.
  pub goal-written : Cut kind.Goal r → goal_bytes (goal_in r) ≡ r
  unfolding Cut cut
  goal-written (lists, e) =
      let (whole, is) = opened kind.Goal lists e in
      let (written, count) = shape-written 2 lists whole is in
      goal-is lists e count ∙ written
    where
      goal-is : (lists : List (List ℕ)) → lists_of kind.Goal r ≡ some lists → length lists ≡ 2
          → goal_bytes (goal_in r) ≡ record_bytes (flat_map list_bytes lists)
      goal-is [] e h = absurd (omega arith)
      goal-is (p ∷ []) e h = absurd (omega arith)
      goal-is (p ∷ n ∷ []) e h = ap goal_bytes (goal_of_lem r p n e) ∙ two-lists p n
      goal-is (p ∷ n ∷ x ∷ xs) e h = absurd (omega arith)

  -- So is a clause's.
  pub clause-written : Cut kind.Clause r → clause_bytes (clause_of r) ≡ r
  unfolding Cut cut cut_clause clause_of clause_bytes
  clause-written (lists, e) =
      let (whole, is) = opened kind.Clause lists e in
      let (even, long) = or_clear (odd (drop 2 r)) (ltb (length (drop 2 r)) 2) (not_none _ _ _ is) in
      let facts : word (drop 2 r) ∷ words (drop 4 r) ≡ words (drop 2 r) =
      rw (← drop-drop 2 2 r) (sym (words-two (drop 2 r) (ltb-false _ _ long))) in
      ap (λ (l : List ℕ). record_bytes (fact_bytes l)) facts
      ∙ ap record_bytes (facts-written (drop 2 r) (bytes_drop 2 r b) even) ∙ record-written r b whole

  -- So is a formula's, whose codes are one.
  pub formula-written : length r ≡ 2 + word r → odd (drop 2 r) ≡ false → is_formula_lem (codes_in r) ≡ true
      → formula_bytes (formula_in r) ≡ r
  unfolding codes_in formula_in formula_bytes
  formula-written whole even codes =
      ap (λ (l : List ℕ). record_bytes (fact_bytes l)) (sym (formula-is (codes_in r) codes).codes)
      ∙ ap record_bytes (facts-written (drop 2 r) (bytes_drop 2 r b) even) ∙ record-written r b whole

-- ---- what is written is read

-- A number's two bytes are that number.
word_two : (n : ℕ) (rest : List ℕ) → word (two_bytes n ++ rest) ≡ n
unfolding word two_bytes
word_two n rest = omega arith

facts-read : (fs : List ℕ) → words (fact_bytes fs) ≡ fs
unfolding words fact_bytes two_bytes
facts-read [] = refl
facts-read (f ∷ fs) =
    let is : f / 256 * 256 + f % 256 ≡ f = omega arith in
    rw is (ap (λ (l : List ℕ). f ∷ l) (facts-read fs))

facts-length : (fs : List ℕ) → length (fact_bytes fs) ≡ 2 * length fs
unfolding fact_bytes two_bytes
facts-length [] = refl
facts-length (f ∷ fs) = omega (arith, facts-length fs)

-- a list and what follows it
module _ (fs rest : List ℕ) where
  abbrev list_first : List ℕ
  list_first = list_bytes fs ++ rest

  first_count : word list_first ≡ length fs
  unfolding list_bytes two_bytes word
  first_count = omega arith

  first-facts : drop 2 list_first ≡ fact_bytes fs ++ rest
  unfolding list_bytes two_bytes
  first-facts = refl

  first-length : length list_first ≡ 2 + 2 * length fs + length rest
  unfolding list_bytes two_bytes
  first-length = omega (arith, length-append (fact_bytes fs) rest, facts-length fs)

  first_read : (k : ℕ) → cut_lists (suc k) list_first ≡ map (λ lists. fs ∷ lists) (cut_lists k rest)
  first_read k =
      let front : take (2 * length fs) (drop 2 list_first) ≡ fact_bytes fs =
      ap (take (2 * length fs)) first-facts ∙ take_at (fact_bytes fs) rest (2 * length fs) (facts-length fs) in
      let back : drop (2 + 2 * length fs) list_first ≡ rest =
      sym (drop-drop (2 * length fs) 2 list_first) ∙ ap (drop (2 * length fs)) first-facts
      ∙ drop_at (fact_bytes fs) rest (2 * length fs) (facts-length fs) in
      cut-next k list_first (omega (arith, first_count, first-length))
      ∙ rw (first_count, front, back, facts-read)

-- Lists one after the other are cut into these lists.
lists-read : (lists : List (List ℕ)) → cut_lists (length lists) (flat_map list_bytes lists) ≡ some lists
unfolding cut_lists flat_map
lists-read [] = refl
lists-read (fs ∷ lists) = first_read fs (flat_map list_bytes lists) (length lists) ∙ rw (lists-read lists)

-- A record that is written fits.
record-read : (bytes : List ℕ) → length (record_bytes bytes) ≡ 2 + word (record_bytes bytes)
unfolding record_bytes
record-read bytes = rw (word_two (length bytes) bytes, length-append) (omega arith)

record-bytes : (bytes : List ℕ) → drop 2 (record_bytes bytes) ≡ bytes
unfolding record_bytes two_bytes
record-bytes bytes = refl

-- Its lists are those that were written.
shape-read : (K : Kind) (lists : List (List ℕ)) → ((bytes : List ℕ) → cut K bytes ≡ cut_lists (length lists) bytes)
    → lists_of K (record_bytes (flat_map list_bytes lists)) ≡ some lists
shape-read K lists kind-is =
    let bytes = flat_map list_bytes lists in
    lists-cut K (record_bytes bytes) (record-read bytes) ∙ ap (cut K) (record-bytes bytes) ∙ kind-is bytes
    ∙ lists-read lists

rule-lists : (x : Rule) → lists_of kind.Rule (rule_bytes x) ≡ some (x.P ∷ x.N ∷ x.A ∷ [])
unfolding cut
rule-lists x =
    ap (lists_of kind.Rule) (three-lists x) ∙ shape-read kind.Rule (x.P ∷ x.N ∷ x.A ∷ []) (λ _. refl)

maker-lists : (x : Rule) → lists_of kind.Maker (maker_bytes x) ≡ some (x.P ∷ x.N ∷ x.A ∷ x.names ∷ [])
unfolding cut
maker-lists x =
    ap (lists_of kind.Maker) (four-lists x)
    ∙ shape-read kind.Maker (x.P ∷ x.N ∷ x.A ∷ x.names ∷ []) (λ _. refl)

goal-lists : (x : Goal) → lists_of kind.Goal (goal_bytes x) ≡ some (x.P ∷ x.N ∷ [])
unfolding cut
goal-lists x = ap (lists_of kind.Goal) (two-lists x.P x.N) ∙ shape-read kind.Goal (x.P ∷ x.N ∷ []) (λ _. refl)

-- a head and a body
clause-read : (bytes : List ℕ) (h : ℕ) (body : List ℕ) → odd bytes ≡ false → 2 ≤ length bytes → words bytes ≡ h ∷ body
    → cut kind.Clause bytes ≡ some ((h ∷ []) ∷ body ∷ [])
unfolding cut cut_clause
clause-read bytes h body even long is =
    let two = words-two bytes long in
    let head : word bytes ≡ h = cc in
    let rest : words (drop 2 bytes) ≡ body = cc in
    rw (even, le-ltb _ _ long, head, rest)

clause-lists : (c : Clause) → lists_of kind.Clause (clause_bytes c) ≡ some ((c.head ∷ []) ∷ c.body ∷ [])
unfolding clause_bytes
clause-lists c =
    let bytes = fact_bytes (c.head ∷ c.body) in
    let size : length bytes ≡ 2 * suc (length c.body) = facts-length (c.head ∷ c.body) in
    let even : odd bytes ≡ false = odd_is bytes ∙ ne_eqb (length bytes % 2) 1 (λ e. omega arith) in
    lists-cut kind.Clause (record_bytes bytes) (record-read bytes) ∙ ap (cut kind.Clause) (record-bytes bytes)
    ∙ clause-read bytes c.head c.body even (omega arith) (facts-read (c.head ∷ c.body))

-- A formula's codes are those that were written.
formula-codes : (φ : Formula) → codes_in (formula_bytes φ) ≡ codes_of φ
unfolding codes_in formula_bytes
formula-codes φ = ap words (record-bytes (fact_bytes (codes_of φ))) ∙ facts-read (codes_of φ)

formula-fits : (φ : Formula) → length (formula_bytes φ) ≡ 2 + word (formula_bytes φ)
unfolding formula_bytes
formula-fits φ = record-read (fact_bytes (codes_of φ))

formula-even : (φ : Formula) → length (formula_bytes φ) % 2 ≡ 0
unfolding formula_bytes record_bytes two_bytes
formula-even φ = omega (arith, facts-length (codes_of φ))

-- ---- a record's shape is right exactly if it is a record written

module _ (r : List ℕ) (b : AllBytes r) where
  pub rule-shape : Cut kind.Rule r ↔ ((x : Rule) × (rule_bytes x ≡ r))
  unfolding Cut
  rule-shape = (λ c. (rule_in 1 r, rule-written r b c), λ (x, e). (_, rw e at (rule-lists x)))

  pub maker-shape : Cut kind.Maker r ↔ ((x : Rule) × (maker_bytes x ≡ r))
  unfolding Cut
  maker-shape = (λ c. (rule_in 3 r, maker-written r b c), λ (x, e). (_, rw e at (maker-lists x)))

  pub goal-shape : Cut kind.Goal r ↔ ((x : Goal) × (goal_bytes x ≡ r))
  unfolding Cut
  goal-shape = (λ c. (goal_in r, goal-written r b c), λ (x, e). (_, rw e at (goal-lists x)))

  pub clause-shape : Cut kind.Clause r ↔ ((x : Clause) × (clause_bytes x ≡ r))
  unfolding Cut
  clause-shape = (λ c. (clause_of r, clause-written r b c), λ (x, e). (_, rw e at (clause-lists x)))

  -- A formula's record is neither SHAPE nor FORMULA exactly if it is a formula written, of facts below 32,768 and at
  -- most 32 deep.
  pub formula-shape : (F n : ℕ) → ((WrongFormula F n r 4 → ⊥) × (WrongFormula F n r 17 → ⊥))
      ↔ ((φ : Formula) × (depth φ ≤ 32) × FactsBelow 32768 φ × (formula_bytes φ ≡ r))
  unfolding formula_in
  formula-shape F n = (right, λ (φ, deep, facts, e). (shaped φ e, formed φ deep facts e))
    where
      right : (WrongFormula F n r 4 → ⊥) × (WrongFormula F n r 17 → ⊥)
          → (φ : Formula) × (depth φ ≤ 32) × FactsBelow 32768 φ × (formula_bytes φ ≡ r)
      right (shape, form) =
          by-test (eqb (length r) (2 + word r))
          (λ t. by-test (odd (drop 2 r))
          (λ o. absurd (shape (WrongFormula.shape (omega (arith, odd-length (drop 2 r) o, length-drop 2 r)))))
          (λ even. by-test (is_formula_lem (codes_in r))
          (λ is.
          let w = formula-is (codes_in r) is in
          (formula_of (codes_in r), w.deep, w.facts, formula-written r b (eqb-true _ _ t) even is))
          (λ other. absurd (form (WrongFormula.formula
          (λ φ w. true≢false (sym ((formula_exactly (codes_in r)).1 (φ, w)) ∙ other)))))))
          (λ t. absurd (shape (WrongFormula.unfit (eqb-false _ _ t))))

      shaped : (φ : Formula) → formula_bytes φ ≡ r → WrongFormula F n r 4 → ⊥
      shaped φ e (WrongFormula.unfit h) = h (rw e at (formula-fits φ))
      shaped φ e (WrongFormula.shape h) = omega (arith, rw e at (formula-even φ))

      formed : (φ : Formula) → depth φ ≤ 32 → FactsBelow 32768 φ → formula_bytes φ ≡ r → WrongFormula F n r 17 → ⊥
      formed φ deep facts e (WrongFormula.formula h) =
          h φ (record { codes = rw e at (formula-codes φ); deep = deep; facts = facts })
