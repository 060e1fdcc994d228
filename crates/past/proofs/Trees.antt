-- A pass over the codes of a formula leaves its truth as one value more, and its bits as they are to be.
use Prim.Native.Nat.{ℕ, zero, suc, ◌+◌, ◌*◌, ◌/◌, ◌%◌, ◌^◌, ◌≤◌, ◌<◌, max}
use native.Mathlib.Omega.{arith}
use mathlib.Core.Path.{◌≡◌, refl, sym, ap, ◌∙◌}
use mathlib.Core.Logic.{◌⊎◌, ⊎_elim, inl, inr}
use mathlib.Core.Bool.{Bool, true, false, not, ◌&&◌, cond, and-true}
use mathlib.Core.List.{List, [], ◌∷◌, ◌++◌}
use lib.Dec.{lit≤, leb-zero, leb-suc-suc}
use lib.ListN.{length, get_or, length-append}
use lib.Pow.{pow_mono}
use borrow.Author.Tests.{lt-ltb, eq-eqb, ne_eqb}
use Rattle.sets.specs.Sets.{Facts}
use Rattle.sets.proofs.Laws.{by-test}
use Rattle.meaning.specs.Past.{Formula, History, present, truth}
use Rattle.meaning.specs.Past.Formula.{fact, historically}
use Rattle.meaning.proofs.Histories.{once-next, historically-next, since-next}
use Rattle.records.specs.Codes.{over_one_lem, over_two_lem}
use Rattle.formulas.specs.Codes.{codes_of, depth, FactsBelow, with_one, with_two}
use Rattle.formulas.proofs.Operators.{of_one, of_two, one_no_fact, two_no_fact, two-not-one, by-operators}
use Rattle.formulas.proofs.Operators.{one-codes, one-depth, one-facts, two-codes, two-depth, two_facts}
use Rattle.past.specs.Keeping.{Values, pushed, top, left, value_of, keeps, bit_of, written, value_at, operated}
use Rattle.past.specs.Keeping.{stepped, values}
use Rattle.past.specs.Remembering.{memory}

-- ---- bits at places

-- from place i on the set has these bits
unfoldable pub Stands : Facts → ℕ → List Bool → Type 0
Stands K i [] = Unit
Stands K i (b ∷ bits) = (K i ≡ b) × Stands K (suc i) bits

-- the bits of two lists, one behind the other
stands_append : (K : Facts) (i : ℕ) (a b : List Bool) → Stands K i a → Stands K (i + length a) b
    → Stands K i (a ++ b)
unfolding Stands
stands_append K i [] b s t = let e : i + 0 ≡ i = omega arith in rw e at t
stands_append K i (x ∷ a) b s t =
    let e : i + suc (length a) ≡ suc i + length a = omega arith in
    (s.0, stands_append K (suc i) a b s.1 (rw e at t))

stands-first : (K : Facts) (i : ℕ) (a b : List Bool) → Stands K i (a ++ b) → Stands K i a
unfolding Stands
stands-first K i [] b s = tt
stands-first K i (x ∷ a) b s = (s.0, stands-first K (suc i) a b s.1)

stands-second : (K : Facts) (i : ℕ) (a b : List Bool) → Stands K i (a ++ b) → Stands K (i + length a) b
unfolding Stands
stands-second K i [] b s = let e : i + 0 ≡ i = omega arith in rw e s
stands-second K i (x ∷ a) b s =
    let e : i + suc (length a) ≡ suc i + length a = omega arith in
    rw e (stands-second K (suc i) a b s.1)

-- Sets that agree at the places have the same bits there.
stands_same : (K L : Facts) (i : ℕ) (bits : List Bool) → ((g : ℕ) → i ≤ g → g < i + length bits → L g ≡ K g)
    → Stands K i bits → Stands L i bits
unfolding Stands
stands_same K L i [] same s = tt
stands_same K L i (b ∷ bits) same s = (
  same i (omega arith) (omega arith) ∙ s.0,
  stands_same K L (suc i) bits (λ g from below. same g (omega arith) (omega arith)) s.1,
)

-- Bit by bit.
pub stands_at : (K : Facts) (i : ℕ) (bits : List Bool) → Stands K i bits
    → (j : ℕ) → j < length bits → K (i + j) ≡ get_or bits j false
unfolding Stands
stands_at K i [] s j l = absurd (omega arith)
stands_at K i (b ∷ bits) s zero l = let e : i + 0 ≡ i = omega arith in rw e s.0
stands_at K i (b ∷ bits) s (suc j) l =
    let e : i + suc j ≡ suc i + j = omega arith in
    rw e (stands_at K (suc i) bits s.1 j (omega arith))

pub stands-all : (K : Facts) (i : ℕ) (bits : List Bool) → ((j : ℕ) → j < length bits → K (i + j) ≡ get_or bits j false)
    → Stands K i bits
unfolding Stands
stands-all K i [] s = tt
stands-all K i (b ∷ bits) s =
    let e : i + 0 ≡ i = omega arith in (
      rw e at (s 0 (omega arith)),
      stands-all K (suc i) bits
          (λ j l. let e : i + suc j ≡ suc i + j = omega arith in rw e at (s (suc j) (omega arith))),
    )

-- ---- what is kept of a formula

-- the bit of the formula's own code
abbrev own : Formula → History → Bool
own φ h = get_or (memory φ h) 0 false

-- The bits of a formula with an operator: its own, and then those of its parts.
one-memory : (p : Formula) (h : History) (c : ℕ) → over_one_lem c ≡ true
    → memory (with_one c p) h ≡ own (with_one c p) h ∷ memory p h
unfolding memory with_one
one-memory p h = of_one (λ c. memory (with_one c p) h ≡ own (with_one c p) h ∷ memory p h) refl refl refl refl

two-memory : (p q : Formula) (h : History) (c : ℕ) → over_two_lem c ≡ true
    → memory (with_two c p q) h ≡ own (with_two c p q) h ∷ memory p h ++ memory q h
unfolding memory with_two
two-memory p q h =
    of_two (λ c. memory (with_two c p q) h ≡ own (with_two c p q) h ∷ memory p h ++ memory q h) refl refl refl refl

-- There is one for each code.
pub length-memory : (h : History) (φ : Formula) → length (memory φ h) ≡ length (codes_of φ)
unfolding memory codes_of
length-memory h =
    by-operators (λ φ. length (memory φ h) ≡ length (codes_of φ)) (λ f. refl)
    (λ c p o ih. rw (one-memory p h c o, one-codes p c o) (ap suc ih))
    (λ c p q o ip iq.
    rw (two-memory p q h c o, two-codes p q c o)
    (ap suc (length-append (memory p h) (memory q h) ∙ rw (ip, iq, length-append (codes_of p) (codes_of q)))))

-- In the beginning all are false.
pub none_kept : (φ : Formula) (i : ℕ) → Stands (λ g. false) i (memory φ [])
unfolding memory Stands with_one with_two
none_kept =
    by-operators (λ φ. (i : ℕ) → Stands (λ g. false) i (memory φ [])) (λ f i. (refl, tt))
    (λ c p o ih i. rw (one-memory p [] c o) (sym (one-start p c o), ih (suc i)))
    (λ c p q o ip iq i.
    rw (two-memory p q [] c o)
    (sym (two-start p q c o), stands_append _ (suc i) (memory p []) (memory q []) (ip (suc i)) (iq _)))
  where
    one-start : (p : Formula) (c : ℕ) → over_one_lem c ≡ true → own (with_one c p) [] ≡ false
    one-start p = of_one (λ c. own (with_one c p) [] ≡ false) refl refl refl refl

    two-start : (p q : Formula) (c : ℕ) → over_two_lem c ≡ true → own (with_two c p q) [] ≡ false
    two-start p q = of_two (λ c. own (with_two c p q) [] ≡ false) refl refl refl refl

-- ---- an operator's value and its bit, from one state to the next

-- What is not false is true.
not_twice : (b : Bool) → not (not b) ≡ b
not_twice true = refl
not_twice false = refl

module _ (X : Facts) (h : History) where
  -- The value that an operator over one formula comes to is its truth now.
  one_value : (p : Formula) (q : Bool) (c : ℕ) → over_one_lem c ≡ true
      → value_of c (truth p (X ∷ h)) q (own (with_one c p) h) ≡ truth (with_one c p) (X ∷ h)
  unfolding value_of with_one memory truth
  one_value p q =
      of_one (λ c. value_of c (truth p (X ∷ h)) q (own (with_one c p) h) ≡ truth (with_one c p) (X ∷ h)) refl
      (rw (leb-suc-suc 1 (length h)))
      (sym (once-next p X h))
      (ap (λ b. truth p (X ∷ h) && b) (not_twice (truth (historically p) h)) ∙ sym (historically-next p X h))

  -- The bit that it has then is the one to keep.
  one_bit : (p : Formula) (c : ℕ) → over_one_lem c ≡ true
      → cond (keeps c) (bit_of c (truth p (X ∷ h)) (truth (with_one c p) (X ∷ h))) (own (with_one c p) h)
      ≡ own (with_one c p) (X ∷ h)
  unfolding keeps bit_of with_one memory
  one_bit p =
      of_one
      (λ c. cond (keeps c) (bit_of c (truth p (X ∷ h)) (truth (with_one c p) (X ∷ h))) (own (with_one c p) h)
      ≡ own (with_one c p) (X ∷ h)) refl
      (rw (leb-suc-suc 0 (length h), leb-zero (length h))) refl refl

  -- The same of an operator over two.
  two-value : (p q : Formula) (c : ℕ) → over_two_lem c ≡ true
      → value_of c (truth p (X ∷ h)) (truth q (X ∷ h)) (own (with_two c p q) h) ≡ truth (with_two c p q) (X ∷ h)
  unfolding value_of with_two memory truth
  two-value p q =
      of_two
      (λ c. value_of c (truth p (X ∷ h)) (truth q (X ∷ h)) (own (with_two c p q) h) ≡ truth (with_two c p q) (X ∷ h))
      refl refl refl (sym (since-next p q X h))

  two-bit : (p q : Formula) (c : ℕ) → over_two_lem c ≡ true
      → cond (keeps c) (bit_of c (truth p (X ∷ h)) (truth (with_two c p q) (X ∷ h))) (own (with_two c p q) h)
      ≡ own (with_two c p q) (X ∷ h)
  unfolding keeps bit_of with_two memory
  two-bit p q =
      of_two
      (λ c. cond (keeps c) (bit_of c (truth p (X ∷ h)) (truth (with_two c p q) (X ∷ h))) (own (with_two c p q) h)
      ≡ own (with_two c p q) (X ∷ h)) refl refl refl refl

-- ---- the values that wait

-- the values that wait and one more
abbrev pub and_then : ℕ → Bool → ℕ
and_then w b = w * 2 + cond b 1 0

bit_le : (b : Bool) → cond {A = ℕ} b 1 0 ≤ 1
bit_le true = lit≤ tt
bit_le false = lit≤ tt

-- Fewer than 64 of them leave room for one more.
pushed-is : (w k : ℕ) (b : Bool) → w < 2 ^ k → k < 64 → pushed w b ≡ and_then w b
unfolding pushed
pushed-is w k b low few =
    let most : 2 ^ k ≤ 2 ^ 63 = pow_mono {i = k} {j = 63} (omega arith) in
    omega (arith, most)

-- The last of them is read,
pub top-is : (w : ℕ) (b : Bool) → top (and_then w b) ≡ b
unfolding top
top-is w true = eq-eqb ((w * 2 + 1) % 2) 1 (omega arith)
top-is w false = ne_eqb ((w * 2 + 0) % 2) 1 (λ (e : (w * 2 + 0) % 2 ≡ 1). omega arith)

-- and taken.
rest-is : (w : ℕ) (b : Bool) → and_then w b / 2 ≡ w
rest-is w b = omega (arith, bit_le b)

-- ---- a pass

-- Two lists of codes are passed one after the other.
values_append : (X space : Facts) (i : ℕ) (a b : List ℕ) (v : Values)
    → values X space i (a ++ b) v ≡ values X space i a (values X space (i + length a) b v)
unfolding values
values_append X space i [] b v = let e : i + 0 ≡ i = omega arith in rw e
values_append X space i (c ∷ a) b v =
    let e : i + suc (length a) ≡ suc i + length a = omega arith in
    rw e (ap (stepped X space i c) (values_append X space (suc i) a b v))

-- ---- by the tree

module _ (X space : Facts) (h : History) (roomy : (g : ℕ) → g < 256 → space g ≡ true) where
  -- After the pass over a formula's codes: its truth waits behind what waited before, its bits are those to keep now,
  -- and no other bit is changed.
  pub record Ran (φ : Formula) (i : ℕ) (v u : Values) : Type 0 where
    pub number : u.waiting ≡ and_then v.waiting (truth φ (X ∷ h))
    pub here : Stands u.kept i (memory φ (X ∷ h))
    pub elsewhere : (g : ℕ) → (g < i) ⊎ (i + length (codes_of φ) ≤ g) → u.kept g ≡ v.kept g

  -- So it is wherever the formula stands, if its bits are those that the state before has kept.
  abbrev pub Runs : Formula → Type 0
  Runs φ =
      (i k : ℕ) (v : Values) → v.waiting < 2 ^ k → k + depth φ ≤ 64 → i + length (codes_of φ) ≤ 256
      → Stands v.kept i (memory φ h) → Ran φ i v (values X space i (codes_of φ) v)

  -- The parts of a formula have been passed: their values wait, and their bits are those to keep now.
  record Ready (c i : ℕ) (v u : Values) (parts : List Bool) (p q : Bool) : Type 0 where
    first : top u.waiting ≡ p
    second : top (u.waiting / 2) ≡ q
    rest : left c u.waiting ≡ v.waiting
    here : Stands u.kept (suc i) parts
    elsewhere : (g : ℕ) → (g < suc i) ⊎ (suc i + length parts ≤ g) → u.kept g ≡ v.kept g

  -- Then its operator is.
  module _ (φ : Formula) {c i : ℕ} {v u : Values} {parts : List Bool} {p q : Bool} (r : Ready c i v u parts p q)
      (old : Bool) (bit : v.kept i ≡ old) (k : ℕ) (less : v.waiting < 2 ^ k) (few : k < 64) (within : i < 256)
      (value : value_of c p q old ≡ truth φ (X ∷ h))
      (next : cond (keeps c) (bit_of c p (truth φ (X ∷ h))) old ≡ own φ (X ∷ h)) where
    bit_is : u.kept i ≡ old
    bit_is = r.elsewhere i (inl (omega arith)) ∙ bit

    value-is : value_at i c u ≡ truth φ (X ∷ h)
    unfolding value_at
    value-is = rw (r.first, r.second, bit_is) value

    own_is : (operated space i c u).kept i ≡ own φ (X ∷ h)
    unfolding operated written
    own_is =
        by-test (keeps c)
        (λ e.
        rw (e, eq-eqb i i refl, roomy i within, value-is, r.first)
        (and-true (bit_of c p (truth φ (X ∷ h))) ∙ (rw e at next)))
        (λ e. rw e (bit_is ∙ (rw e at next)))

    others : (g : ℕ) → (g ≡ i → ⊥) → (operated space i c u).kept g ≡ u.kept g
    unfolding operated written
    others g other = by-test (keeps c) (λ e. rw (e, ne_eqb g i other)) (λ e. rw e)

    run_operator : memory φ (X ∷ h) ≡ own φ (X ∷ h) ∷ parts → length (codes_of φ) ≡ suc (length parts)
        → Ran φ i v (operated space i c u)
    unfolding operated Stands
    run_operator bits long =
        record {
          number = rw (r.rest, value-is) (pushed-is v.waiting k (truth φ (X ∷ h)) less few);
          here =
              let apart : (g : ℕ) → suc i ≤ g → (operated space i c u).kept g ≡ u.kept g =
              λ g from. others g (λ e. omega arith) in
              rw bits (own_is, stands_same u.kept _ (suc i) parts (λ g from below. apart g from) r.here);
          elsewhere = λ g out.
              others g (λ e. ⊎_elim (λ low. omega arith) (λ high. omega arith) out)
              ∙ r.elsewhere g (⊎_elim (λ low. inl (omega arith)) (λ high. inr (omega arith)) out);
        }

  -- A fact.
  run-fact : (f : ℕ) → f < 32768 → Runs (fact f)
  unfolding values stepped codes_of depth memory truth present
  run-fact f low i k v less few within stands =
      rw (lt-ltb f 32768 low)
      (record {
        number = pushed-is v.waiting k (X f) less (omega arith);
        here = stands;
        elsewhere = λ g out. refl;
      })

  -- An operator before one formula.
  one-ready : (c i : ℕ) (p : Formula) (v u : Values) → over_one_lem c ≡ true → Ran p (suc i) v u
      → Ready c i v u (memory p (X ∷ h)) (truth p (X ∷ h)) (top (u.waiting / 2))
  unfolding left
  one-ready c i p v u o ran =
      let same = length-memory (X ∷ h) p in
      record {
        first = rw ran.number (top-is v.waiting (truth p (X ∷ h)));
        second = refl;
        rest = rw (o, ran.number) (rest-is v.waiting (truth p (X ∷ h)));
        here = ran.here;
        elsewhere = λ g out. ran.elsewhere g (⊎_elim (λ low. inl low) (λ high. inr (omega arith)) out);
      }

  run-one : (c : ℕ) (p : Formula) → over_one_lem c ≡ true → Runs p → Runs (with_one c p)
  unfolding values stepped Stands
  run-one c p o ip i k v less few within stands =
      let was = rw (one-memory p h c o) at stands in
      let deep : k + suc (depth p) ≤ 64 = rw (one-depth p c o) at few in
      let long : length (codes_of (with_one c p)) ≡ suc (length (codes_of p)) = ap length (one-codes p c o) in
      let ready = one-ready c i p v _ o (ip (suc i) k v less (omega arith) (omega arith) was.1) in
      rw (one-codes p c o, one_no_fact c o)
      (run_operator (with_one c p) ready _ was.0 k less (omega arith) (omega arith) (one_value X h p _ c o)
      (one_bit X h p c o) (one-memory p (X ∷ h) c o) (omega (arith, length-memory (X ∷ h) p)))

  -- An operator before two: the second was passed first.
  two_ready : (c i : ℕ) (p q : Formula) (v w u : Values) → over_two_lem c ≡ true
      → Ran q (suc i + length (codes_of p)) v w → Ran p (suc i) w u
      → Ready c i v u (memory p (X ∷ h) ++ memory q (X ∷ h)) (truth p (X ∷ h)) (truth q (X ∷ h))
  unfolding left
  two_ready c i p q v w u o later sooner =
      let mp = memory p (X ∷ h) in
      let mq = memory q (X ∷ h) in
      let lp = length-memory (X ∷ h) p in
      let lq = length-memory (X ∷ h) q in
      let lb = length-append mp mq in
      let half : u.waiting / 2 ≡ w.waiting = rw sooner.number (rest-is w.waiting (truth p (X ∷ h))) in
      let quarter : w.waiting / 2 ≡ v.waiting = rw later.number (rest-is v.waiting (truth q (X ∷ h))) in
      record {
        first = rw sooner.number (top-is w.waiting (truth p (X ∷ h)));
        second = rw (half, later.number) (top-is v.waiting (truth q (X ∷ h)));
        rest = rw (two-not-one c o) (omega arith);
        here =
            stands_append u.kept (suc i) mp mq sooner.here
            (stands_same w.kept u.kept (suc i + length mp) mq
            (λ g from below. sooner.elsewhere g (inr (omega arith))) (rw lp later.here));
        elsewhere = λ g out.
            sooner.elsewhere g (⊎_elim (λ low. inl low) (λ high. inr (omega arith)) out)
            ∙ later.elsewhere g (⊎_elim (λ low. inl (omega arith)) (λ high. inr (omega arith)) out);
      }

  run-two : (c : ℕ) (p q : Formula) → over_two_lem c ≡ true → Runs p → Runs q → Runs (with_two c p q)
  unfolding values stepped Stands
  run-two c p q o ip iq i k v less few within stands =
      let was = rw (two-memory p q h c o) at stands in
      let deep : k + suc (max (depth p) (depth q)) ≤ 64 = rw (two-depth p q c o) at few in
      let lb = length-append (codes_of p) (codes_of q) in
      let long : length (codes_of (with_two c p q)) ≡ suc (length (codes_of p ++ codes_of q)) =
      ap length (two-codes p q c o) in
      let j = suc i + length (codes_of p) in
      let mp = memory p h in
      let mq = memory q h in
      let later =
      iq j k v less (omega arith) (omega arith)
      (rw (length-memory h p) at (stands-second v.kept (suc i) mp mq was.1)) in
      let w = values X space j (codes_of q) v in
      let more : w.waiting < 2 ^ suc k = omega (arith, later.number, bit_le (truth q (X ∷ h))) in
      let sooner =
      ip (suc i) (suc k) w more (omega arith) (omega arith)
      (stands_same v.kept w.kept (suc i) mp
      (λ g from below. later.elsewhere g (inl (omega (arith, length-memory h p))))
      (stands-first v.kept (suc i) mp mq was.1)) in
      let ready = two_ready c i p q v w _ o later sooner in
      rw (two-codes p q c o, two_no_fact c o, values_append X space (suc i) (codes_of p) (codes_of q) v)
      (run_operator (with_two c p q) ready _ was.0 k less (omega arith) (omega arith) (two-value X h p q c o)
      (two-bit X h p q c o) (two-memory p q (X ∷ h) c o)
      (omega (
        arith,
        length-memory (X ∷ h) p,
        length-memory (X ∷ h) q,
        length-append (memory p (X ∷ h)) (memory q (X ∷ h)),
      )))

  -- Every formula.
  pub runs : (φ : Formula) → FactsBelow 32768 φ → Runs φ
  unfolding FactsBelow
  runs =
      by-operators (λ φ. FactsBelow 32768 φ → Runs φ) run-fact
      (λ c p o ih below. run-one c p o (ih ((one-facts p 32768 c o).0 below)))
      (λ c p q o ip iq below.
      let (bp, bq) = (two_facts p q 32768 c o).0 below in run-two c p q o (ip bp) (iq bq))
