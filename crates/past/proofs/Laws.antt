-- The promise of request 11: taken from state to state, a formula has the truth that it has over the whole history,
-- though only the bits of the state before are looked at.
use Prim.Native.Nat.{ℕ, ◌+◌, ◌≤◌, ◌<◌}
use native.Mathlib.Omega.{arith}
use mathlib.Core.Path.{◌≡◌, sym, ap, ◌∙◌}
use mathlib.Core.Logic.{⊎_elim, inr}
use mathlib.Core.Bool.{Bool, true, false}
use mathlib.Core.List.{List, [], ◌∷◌}
use lib.Dec.{lit<, lit≤}
use lib.ListN.{length, get_or, replicate, get_or-replicate, get_or-eq_default}
use Rattle.sets.specs.Sets.{Facts}
use Rattle.sets.proofs.Laws.{below_or_from}
use Rattle.meaning.specs.Past.{Formula, History, truth}
use Rattle.facts.specs.Facts.{within, room}
use Rattle.facts.proofs.Laws.{Bytes, room_in, kept_same, cleared-zero, determined}
use Rattle.records.specs.Words.{words}
use Rattle.records.specs.Codes.{is_formula_lem}
use Rattle.formulas.specs.Codes.{codes_of, formula_of, Writes}
use Rattle.formulas.proofs.Laws.{formula-is}
use Rattle.closing.specs.Closing.{numbered}
use Rattle.past.specs.Keeping.{Values, values, top, values_in, passed, Advanced}
use Rattle.past.specs.Remembering.{memory, Remembers}
use Rattle.past.proofs.Trees.{Stands, stands_at, stands-all, length-memory, none_kept, top-is, Ran, runs}

-- ---- the start

-- Before the first state every bit is false, of every formula.
pub start_remembers : (φ : Formula) {bytes : List ℕ} → 32 ≤ length bytes → ((j : ℕ) → within 32 bytes j ≡ false)
    → Remembers φ [] bytes
start_remembers φ long none = record { long = long; bits = λ j. none j ∙ sym (off j) }
  where
    off : (j : ℕ) → get_or (memory φ []) j false ≡ false
    off j =
        ⊎_elim (λ low. sym (stands_at (λ g. false) 0 (memory φ []) (none_kept φ 0) j low))
        (λ high. get_or-eq_default (memory φ []) false high) (below_or_from j (length (memory φ [])))

-- So it is in 32 bytes of zeros.
pub zeros_remember : (φ : Formula) → Remembers φ [] (replicate 32 0)
zeros_remember φ =
    let zeros : List ℕ = replicate 32 0 in
    let none =
    cleared-zero {w = 32} {l = zeros} {a = zeros} (kept_same zeros) (λ i l. get_or-replicate 32 i 0 0 (omega arith)) in
    start_remembers φ (lit≤ tt) none.set

-- ---- from state to state

module _ (codes table bytes : List ℕ) (φ : Formula) (h : History) (writes : Writes (words codes) φ)
    (few : length (words codes) ≤ 256) (remembers : Remembers φ h bytes) where
  abbrev X : Facts
  X = numbered table

  abbrev end : Values
  end = passed codes table bytes

  count : length (words codes) ≡ length (codes_of φ)
  count = ap length writes.codes

  roomy : (g : ℕ) → g < 256 → room 32 bytes g ≡ true
  roomy g low = room_in 32 bytes g (omega (arith, remembers.long))

  -- The bits at the places of the codes are the formula's.
  was : Stands (within 32 bytes) 0 (memory φ h)
  was = stands-all (within 32 bytes) 0 (memory φ h) (λ j l. let e : 0 + j ≡ j = omega arith in rw e (remembers.bits j))

  ran : Ran X (room 32 bytes) h roomy φ 0 (values_in 0 bytes) end
  ran =
      rw writes.codes
      (runs X (room 32 bytes) h roomy φ writes.facts 0 0 (values_in 0 bytes) (lit< tt) (omega (arith, writes.deep))
      (omega (arith, count)) was)

  -- So they are after the pass, and beyond them there are none.
  bits_now : (j : ℕ) → end.kept j ≡ get_or (memory φ (X ∷ h)) j false
  bits_now j = ⊎_elim near far (below_or_from j (length (codes_of φ)))
    where
      near : j < length (codes_of φ) → end.kept j ≡ get_or (memory φ (X ∷ h)) j false
      near low =
          let e : 0 + j ≡ j = omega arith in
          rw e at (stands_at end.kept 0 (memory φ (X ∷ h)) ran.here j (omega (arith, length-memory (X ∷ h) φ)))

      far : length (codes_of φ) ≤ j → end.kept j ≡ get_or (memory φ (X ∷ h)) j false
      far high =
          ran.elsewhere j (inr (omega arith)) ∙ remembers.bits j
          ∙ get_or-eq_default (memory φ h) false (omega (arith, length-memory h φ))
          ∙ sym (get_or-eq_default (memory φ (X ∷ h)) false (omega (arith, length-memory (X ∷ h) φ)))

  -- For codes that are a formula's: if the bits are those of a history, then the answer is the formula's truth over
  -- that history with the table's state after it, and the bits are those of this longer one.
  pub advance_tree : {after : List ℕ} {answer : Bool} → Advanced codes table bytes after answer
      → (answer ≡ truth φ (numbered table ∷ h)) × Remembers φ (numbered table ∷ h) after
  advance_tree advanced = (
    advanced.value ∙ ap top ran.number ∙ top-is 0 (truth φ (X ∷ h)),
    record {
      long = omega (arith, advanced.kept.as_long, remembers.long);
      bits = λ j. advanced.bits j ∙ bits_now j;
    },
  )

-- The same of the codes of a judged record.
pub advance_agrees : {codes table bytes after : List ℕ} {answer : Bool} (h : History)
    → is_formula_lem (words codes) ≡ true → length (words codes) ≤ 256 → Remembers (formula_of (words codes)) h bytes
    → Advanced codes table bytes after answer
    → (answer ≡ truth (formula_of (words codes)) (numbered table ∷ h))
    × Remembers (formula_of (words codes)) (numbered table ∷ h) after
advance_agrees {codes} {table} {bytes} h is few remembers =
    advance_tree codes table bytes (formula_of (words codes)) h (formula-is (words codes) is) few remembers

-- ---- what the contract leaves open: nothing

-- Two outcomes that it allows are the same.
pub advanced_unique : {codes table bytes a b : List ℕ} {x y : Bool} → Bytes a → Bytes b
    → Advanced codes table bytes a x → Advanced codes table bytes b y → (x ≡ y) × (a ≡ b)
advanced_unique ha hb p q = (
  p.value ∙ sym q.value,
  determined ha hb p.kept q.kept (λ j. p.bits j ∙ sym (q.bits j)),
)

-- With no codes, as where the goal is an attack state, no byte is changed.
pub none_advanced : {table bytes after : List ℕ} {answer : Bool} → Bytes bytes → Bytes after
    → Advanced [] table bytes after answer → after ≡ bytes
unfolding words values
none_advanced {bytes = bytes} hb ha p = determined ha hb p.kept (kept_same bytes) p.bits
