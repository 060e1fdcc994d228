-- Formulas and their codes: what was written is read, what is read was written, and codes that pass for a formula are
-- one formula's.
use Prim.Native.Nat.{ℕ, zero, suc, ◌≤◌, ◌<◌}
use native.Mathlib.Nat.{not-suc-le-zero, le_of_suc-le-suc}
use native.Mathlib.Omega.{arith}
use mathlib.Core.Path.{◌≡◌, refl, sym, ◌∙◌, ap}
use mathlib.Core.Logic.{◌↔◌}
use mathlib.Core.Bool.{Bool, true, false, true≢false, ◌&&◌, ◌||◌, and-true, and-false, or-false, or_assoc}
use mathlib.Core.List.{List, [], ◌∷◌, ◌++◌, append-nil, append_assoc}
use mathlib.Core.Option.{Option, none, some, bind, map, map-map, map-eq-some_iff, bind-eq-some_iff}
use mathlib.Core.Option.{none-ne-some, some-injective}
use lib.Dec.{leb, ltb}
use borrow.Author.Tests.{ltb-true, lt-ltb, lt-leb, leb-false}
use Rattle.sets.specs.Sets.{any}
use Rattle.sets.proofs.Laws.{by-test}
use Rattle.meaning.specs.Past.{Formula}
use Rattle.meaning.specs.Past.Formula.{fact}
use Rattle.records.specs.Codes.{over_one_lem, over_two_lem, behind, is_formula_lem}
use Rattle.formulas.specs.Codes.{codes_of, depth, FactsBelow, with_one, with_two, Read, read, formula_of, Writes}
use Rattle.formulas.proofs.Operators.{one_no_fact, two_no_fact, two-not-one, by-operators}
use Rattle.formulas.proofs.Operators.{one-codes, one-depth, one-facts, two-codes, two-depth, two_facts}

-- ---- reading, one code after another

-- a formula read, under an operator over one
abbrev under_one : ℕ → Read → Read
under_one c r = record { formula = with_one c r.formula; rest = r.rest }

-- two formulas read, under an operator over two
abbrev under_two : ℕ → Read → Read → Read
under_two c r s = record { formula = with_two c r.formula s.formula; rest = s.rest }

module _ (d c : ℕ) (codes : List ℕ) where
  -- A fact is read as such.
  read-fact : ltb c 32768 ≡ true → read (suc d) (c ∷ codes) ≡ some (record { formula = fact c; rest = codes })
  unfolding read
  read-fact e = rw (read, e)

  -- Behind an operator over one formula, one is read.
  read_one : over_one_lem c ≡ true → read (suc d) (c ∷ codes) ≡ map (under_one c) (read d codes)
  unfolding read
  read_one e = rw (read, one_no_fact c e, e)

  -- Behind an operator over two, one and then another.
  read-two : over_two_lem c ≡ true
      → read (suc d) (c ∷ codes) ≡ bind (read d codes) (λ r. map (under_two c r) (read d r.rest))
  unfolding read
  read-two e = rw (read, two_no_fact c e, two-not-one c e, e)

  -- Other codes start no formula.
  read_none : ltb c 32768 ≡ false → over_one_lem c ≡ false → over_two_lem c ≡ false → read (suc d) (c ∷ codes) ≡ none
  unfolding read
  read_none e f g = rw (read, e, f, g)

-- A code is a fact, an operator over one formula or over two, or none of these.
by_code {ℓ} : {C : Type ℓ} (c : ℕ) → (ltb c 32768 ≡ true → C) → (over_one_lem c ≡ true → C) → (over_two_lem c ≡ true → C)
    → (ltb c 32768 ≡ false → over_one_lem c ≡ false → over_two_lem c ≡ false → C) → C
by_code c l o t n = by-test (ltb c 32768) l (λ e. by-test (over_one_lem c) o (λ f. by-test (over_two_lem c) t (λ g. n e f g)))

-- `behind` is what is left of the codes where a formula is read.
pub behind-read : (d : ℕ) (codes : List ℕ) → behind d codes ≡ map (λ r. r.rest) (read d codes)
unfolding behind read
behind-read zero codes = refl
behind-read (suc d) [] = refl
behind-read (suc d) (c ∷ codes) =
    by_code c (λ e. rw (behind, read, e))
    (λ e.
    rw (behind, read, one_no_fact c e, e)
    (behind-read d codes ∙ sym (map-map (λ r. r.rest) (under_one c) (read d codes))))
    (λ e.
    rw (behind, read, two_no_fact c e, two-not-one c e, e)
    (two-behind (behind d codes) (read d codes) (behind-read d codes) (λ more. behind-read d more)))
    (λ e f g. rw (behind, read, e, f, g))
  where
    two-behind : (rest : Option (List ℕ)) (o : Option Read) → rest ≡ map (λ r. r.rest) o
        → ((more : List ℕ) → behind d more ≡ map (λ r. r.rest) (read d more))
        → bind rest (behind d)
        ≡ map (λ r. r.rest) (bind o (λ r. map (under_two c r) (read d r.rest)))
    two-behind rest none i h = rw i
    two-behind rest (some r) i h = rw i (h r.rest ∙ sym (map-map (λ r. r.rest) (under_two c r) (read d r.rest)))

-- ---- what was written is read

-- What is so of one more than each number from k on is so of every number above k.
above {ℓ} : (P : ℕ → Type ℓ) {k d : ℕ} → ((e : ℕ) → k ≤ e → P (suc e)) → suc k ≤ d → P d
above P {d = zero} h l = absurd (not-suc-le-zero l)
above P {d = suc e} h l = h e (le_of_suc-le-suc l)

-- A formula written out is read again, with the codes behind it left.
pub read-written : (φ : Formula) → FactsBelow 32768 φ → (d : ℕ) → depth φ ≤ d → (rest : List ℕ)
    → read d (codes_of φ ++ rest) ≡ some (record { formula = φ; rest = rest })
unfolding depth codes_of FactsBelow bind
read-written =
    by-operators _
    (λ f l d h rest.
    above (λ d. read d (f ∷ rest) ≡ some (record { formula = fact f; rest = rest }))
    (λ e k. read-fact e f rest (lt-ltb f 32768 l)) h)
    (λ c p o ih l d h rest.
    rw (one-codes p c o)
    (above (λ d. read d (c ∷ codes_of p ++ rest) ≡ some (record { formula = with_one c p; rest = rest }))
    (λ e k. rw (read_one e c (codes_of p ++ rest) o, ih ((one-facts p 32768 c o).0 l) e k rest))
    (rw (one-depth p c o) at h)))
    (λ c p q o ip iq l d h rest.
    rw (two-codes p q c o, append_assoc)
    (above (λ d. read d (c ∷ codes_of p ++ (codes_of q ++ rest)) ≡ some (record { formula = with_two c p q; rest = rest }))
    (λ e k.
    let (lp, lq) = (two_facts p q 32768 c o).0 l in
    rw (
      read-two e c (codes_of p ++ (codes_of q ++ rest)) o,
      ip lp e (omega arith) (codes_of q ++ rest),
      iq lq e (omega arith) rest,
    ))
    (rw (two-depth p q c o) at h)))

-- ---- what is read was written

-- the codes are those of a formula, at most so deep, and then the rest
abbrev pub Written : ℕ → List ℕ → Read → Type 0
Written d codes r =
    (codes ≡ codes_of r.formula ++ r.rest) × (depth r.formula ≤ d) × FactsBelow 32768 r.formula

-- So they are with an operator before them.
one_written : (d c : ℕ) (codes : List ℕ) (r : Read) → over_one_lem c ≡ true → Written d codes r
    → Written (suc d) (c ∷ codes) (under_one c r)
one_written d c codes r o (w, deep, facts) = (
  rw (one-codes r.formula c o) (ap (λ l. c ∷ l) w),
  rw (one-depth r.formula c o) (omega arith),
  (one-facts r.formula 32768 c o).1 facts,
)

two-written : (d c : ℕ) (codes : List ℕ) (r s : Read) → over_two_lem c ≡ true → Written d codes r → Written d r.rest s
    → Written (suc d) (c ∷ codes) (under_two c r s)
two-written d c codes r s o (w, deep, facts) (v, deeper, more) = (
  rw (two-codes r.formula s.formula c o, append_assoc) (ap (λ l. c ∷ l) (w ∙ ap (codes_of r.formula ++◌) v)),
  rw (two-depth r.formula s.formula c o) (omega arith),
  (two_facts r.formula s.formula 32768 c o).1 (facts, more),
)

-- What is read was written so.
pub written_read : (d : ℕ) (codes : List ℕ) (r : Read) → read d codes ≡ some r → Written d codes r
unfolding read codes_of depth FactsBelow
written_read zero codes r e = absurd (none-ne-some r e)
written_read (suc d) [] r e = absurd (none-ne-some r e)
written_read (suc d) (c ∷ codes) r e =
    by_code c
    (λ l.
    let i = some-injective _ r (sym (read-fact d c codes l) ∙ e) in
    rw (← i) (refl, omega arith, ltb-true c 32768 l))
    (λ o.
    let (s, i, j) = (map-eq-some_iff (under_one c) (read d codes)).0 (sym (read_one d c codes o) ∙ e) in
    rw (← j) (one_written d c codes s o (written_read d codes s i)))
    (λ o.
    let (s, i, j) = (bind-eq-some_iff (read d codes) _).0 (sym (read-two d c codes o) ∙ e) in
    let (t, k, m) = (map-eq-some_iff (under_two c s) (read d s.rest)).0 j in
    rw (← m) (two-written d c codes s t o (written_read d codes s i) (written_read d s.rest t k)))
    (λ l o t. absurd (none-ne-some r (sym (read_none d c codes l o t) ∙ e)))

-- ---- the codes of a record

-- nothing is left
abbrev done : Option (List ℕ) → Bool
done o = elim o [ none ↦ false | some [] ↦ true | some (c ∷ rest) ↦ false ]

-- the formula read
abbrev found : Option Read → Formula
found o = elim o [ none ↦ fact 0 | some r ↦ r.formula ]

-- Where nothing is left, a formula was read, and no rest.
done-found : (o : Option Read) → done (map (λ r. r.rest) o) ≡ true
    → o ≡ some (record { formula = found o; rest = [] })
done-found none h = absurd (true≢false (sym h))
done-found (some r) h = ap (λ l. some (record { formula = r.formula; rest = l })) (no_rest r.rest h)
  where
    no_rest : (rest : List ℕ) → done (some rest) ≡ true → rest ≡ []
    no_rest [] h = refl
    no_rest (c ∷ rest) h = absurd (true≢false (sym h))

module _ (codes : List ℕ) where
  -- formula_of and is_formula_lem, by what is read.
  formula-found : formula_of codes ≡ found (read 32 codes)
  unfolding formula_of
  formula-found = refl

  formula-done : is_formula_lem codes ≡ done (map (λ r. r.rest) (read 32 codes))
  unfolding is_formula_lem
  formula-done = ap done (behind-read 32 codes)

  -- Codes that pass for a formula are the one read from them, written out.
  pub formula-is : is_formula_lem codes ≡ true → Writes codes (formula_of codes)
  formula-is h =
      let e = done-found (read 32 codes) (sym formula-done ∙ h) in
      let (w, deep, facts) = written_read 32 codes _ (rw (← formula-found) at e) in
      record { codes = w ∙ append-nil (codes_of (formula_of codes)); deep = deep; facts = facts }

  -- A formula is read from its codes.
  writes_read : (φ : Formula) → Writes codes φ → read 32 codes ≡ some (record { formula = φ; rest = [] })
  writes_read φ w = rw (w.codes, ← append-nil (codes_of φ)) (read-written φ w.facts 32 w.deep [])

  -- The formula that codes are is the one that they were written from.
  pub read_back : (φ : Formula) → Writes codes φ → formula_of codes ≡ φ
  read_back φ w = formula-found ∙ ap found (writes_read φ w)

  -- "17 FORMULA for a code over 32,775, an unfinished formula, codes after its end, or one too deep", and for nothing
  -- else: codes pass exactly if they are some formula's, written out, at most 32 deep.
  pub formula_exactly : (is_formula_lem codes ≡ true) ↔ ((φ : Formula) × Writes codes φ)
  formula_exactly = (
    λ h. (formula_of codes, formula-is h),
    λ (φ, w). formula-done ∙ ap (λ o. done (map (λ r. r.rest) o)) (writes_read φ w),
  )

  -- Codes are one formula only.
  pub one-formula : (φ ψ : Formula) → Writes codes φ → Writes codes ψ → φ ≡ ψ
  one-formula φ ψ v w = sym (read_back φ v) ∙ read_back ψ w

-- ---- the facts among the codes

-- "a fact code of F or more FACT"
abbrev beyond : ℕ → ℕ → Bool
beyond F c = leb F c && ltb c 32768

-- No operator is one.
no_beyond : (F c : ℕ) (codes : List ℕ) → ltb c 32768 ≡ false → any (beyond F) (c ∷ codes) ≡ any (beyond F) codes
unfolding any
no_beyond F c codes e = rw (any, e, and-false (leb F c))

-- A fact is one exactly if it isn't below F.
fact-beyond : (F f : ℕ) → f < 32768 → (any (beyond F) (f ∷ []) ≡ false) ↔ (f < F)
unfolding any
fact-beyond F f l =
    rw (any, lt-ltb f 32768 l, and-true (leb F f), or-false (leb F f)) (λ e. leb-false F f e, λ k. lt-leb F f k)

-- Some entry of two lists passes where one of the first or of the second does.
any_append : (p : ℕ → Bool) (xs ys : List ℕ) → any p (xs ++ ys) ≡ any p xs || any p ys
unfolding any
any_append p [] ys = refl
any_append p (x ∷ xs) ys = ap (λ b. p x || b) (any_append p xs ys) ∙ sym (or_assoc (p x) (any p xs) (any p ys))

-- "The first or the second" fails exactly if both do.
neither : (a b : Bool) → (a || b ≡ false) ↔ ((a ≡ false) × (b ≡ false))
neither true b = (λ e. absurd (true≢false e), λ p. p.0)
neither false b = (λ e. (refl, e), λ p. p.1)

-- A formula's facts are below F exactly if none of its codes is a fact of F or more.
facts_of : (F : ℕ) (φ : Formula) → FactsBelow 32768 φ → (any (beyond F) (codes_of φ) ≡ false) ↔ FactsBelow F φ
unfolding codes_of FactsBelow
facts_of F =
    by-operators (λ φ. FactsBelow 32768 φ → (any (beyond F) (codes_of φ) ≡ false) ↔ FactsBelow F φ)
    (λ f l. fact-beyond F f l)
    (λ c p o ih l.
    let (to, from) = ih ((one-facts p 32768 c o).0 l) in
    rw (one-codes p c o, no_beyond F c (codes_of p) (one_no_fact c o))
    (λ e. (one-facts p F c o).1 (to e), λ b. from ((one-facts p F c o).0 b)))
    (λ c p q o ip iq l.
    let (lp, lq) = (two_facts p q 32768 c o).0 l in
    let none_in = neither (any (beyond F) (codes_of p)) (any (beyond F) (codes_of q)) in
    rw (
      two-codes p q c o,
      no_beyond F c (codes_of p ++ codes_of q) (two_no_fact c o),
      any_append (beyond F) (codes_of p) (codes_of q),
    ) (
      λ e. (two_facts p q F c o).1 ((ip lp).0 (none_in.0 e).0, (iq lq).0 (none_in.0 e).1),
      λ b. none_in.1 ((ip lp).1 ((two_facts p q F c o).0 b).0, (iq lq).1 ((two_facts p q F c o).0 b).1),
    ))

-- So the facts of the formula that codes are, are below F exactly if the codes have none of F or more.
pub facts-listed : (F : ℕ) (codes : List ℕ) → is_formula_lem codes ≡ true
    → (any (λ c. leb F c && ltb c 32768) codes ≡ false) ↔ FactsBelow F (formula_of codes)
facts-listed F codes h =
    let w = formula-is codes h in
    let (to, from) = facts_of F (formula_of codes) w.facts in
    (λ e. to (ap (any (beyond F)) (sym w.codes) ∙ e), λ b. ap (any (beyond F)) w.codes ∙ from b)
