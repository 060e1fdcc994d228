-- No two results satisfy what an exported function promises: every answer, byte and entry is determined.
use Prim.Native.Nat.{ℕ}
use mathlib.Core.Path.{◌≡◌, sym, ◌∙◌}
use mathlib.Core.Bool.{Bool, true, false}
use mathlib.Core.List.{List}
use Rattle.facts.specs.Facts.{members}
use Rattle.files.specs.Files.{model_of_lem}
use Rattle.closing.specs.Closing.{close_refusal, close_refusal_indexed}
use Rattle.closing.proofs.Alone.{table_unique}
use Rattle.closing.proofs.Crossings.{index-left}
use Rattle.reaching.specs.Reaching.{Lent}
use Rattle.checking.specs.Verdict.{refusal, refusal_indexed}
use Rattle.running.specs.Outcomes.{outcome}
use Rattle.checking.proofs.Theorems.{LentBytes, buffers_unique}
use Rattle.firing.specs.Firing.{rules_refusal}
use Rattle.firing.proofs.Theorems.{left_unique}
use Rattle.holding.specs.Holding.{holds_refusal, blocked_by}
use Rattle.holding.proofs.Theorems as held
use Rattle.exports.specs.Exports.{ChecksOut, ChecksIndexedOut, ClosesOut, ClosesIndexedOut}
use Rattle.exports.specs.Exports.{RulesOut, HoldsOut, CountsOut, PartOut}

-- checking: the number, the values and the buffers
module _ (m t : List ℕ) (before : Lent) {a b : Lent} (bytes-a : LentBytes a) (bytes-b : LentBytes b) where
  pub checks_unique : (short : Bool) (out o₁ o₂ : List ℕ) (r₁ r₂ : ℕ) → ChecksOut short m t before a out o₁ r₁
      → ChecksOut short m t before b out o₂ r₂ → (r₁ ≡ r₂) × (a ≡ b) × (o₁ ≡ o₂)
  unfolding ChecksOut
  checks_unique true out o₁ o₂ r₁ r₂ x y = (x.0 ∙ sym y.0, x.1 ∙ sym y.1, x.2 ∙ sym y.2)
  checks_unique false out o₁ o₂ r₁ r₂ x y = (
    x.number ∙ sym y.number,
    buffers_unique m t before bytes-a bytes-b (refusal m t before) x.buffers y.buffers,
    x.values ∙ sym y.values,
  )

  -- with an index lent, that too
  pub checks_indexed_unique : (short : Bool) (ix i₁ i₂ out o₁ o₂ : List ℕ) (r₁ r₂ : ℕ)
      → ChecksIndexedOut short m t before a ix i₁ out o₁ r₁ → ChecksIndexedOut short m t before b ix i₂ out o₂ r₂
      → (r₁ ≡ r₂) × (a ≡ b) × (i₁ ≡ i₂) × (o₁ ≡ o₂)
  unfolding ChecksIndexedOut
  checks_indexed_unique true ix i₁ i₂ out o₁ o₂ r₁ r₂ x y =
      (x.0 ∙ sym y.0, x.1 ∙ sym y.1, x.2 ∙ sym y.2, x.3 ∙ sym y.3)
  checks_indexed_unique false ix i₁ i₂ out o₁ o₂ r₁ r₂ x y =
      let refused = refusal_indexed m t before ix in (
        x.0.number ∙ sym y.0.number,
        buffers_unique m t before bytes-a bytes-b refused x.0.buffers y.0.buffers,
        index-left refused (model_of_lem m).clauses ix i₁ i₂ x.1 y.1,
        x.0.values ∙ sym y.0.values,
      )

  -- the rules that fire: the answer, the buffers, the index, the list and the count
  pub rules_unique : (short : Bool) (ix i₁ i₂ list l₁ l₂ out o₁ o₂ : List ℕ) (r₁ r₂ : ℕ)
      → RulesOut short m t before a ix i₁ list l₁ out o₁ r₁ → RulesOut short m t before b ix i₂ list l₂ out o₂ r₂
      → (r₁ ≡ r₂) × (a ≡ b) × (i₁ ≡ i₂) × (l₁ ≡ l₂) × (o₁ ≡ o₂)
  unfolding RulesOut
  rules_unique true ix i₁ i₂ list l₁ l₂ out o₁ o₂ r₁ r₂ x y =
      (x.0 ∙ sym y.0, x.1 ∙ sym y.1, x.2 ∙ sym y.2, x.3 ∙ sym y.3, x.4 ∙ sym y.4)
  rules_unique false ix i₁ i₂ list l₁ l₂ out o₁ o₂ r₁ r₂ x y =
      let refused = rules_refusal m t before ix list in (
        x.number ∙ sym y.number,
        left_unique m t before bytes-a bytes-b refused x.buffers y.buffers,
        index-left refused (model_of_lem m).clauses ix i₁ i₂ x.index y.index,
        x.entries ∙ sym y.entries,
        x.count ∙ sym y.count,
      )

  -- one fact: the answer, the buffers, the index and the two values
  pub holds_unique : (short : Bool) (g : ℕ) (ix i₁ i₂ out o₁ o₂ : List ℕ) (r₁ r₂ : ℕ)
      → HoldsOut short m t g before a ix i₁ out o₁ r₁ → HoldsOut short m t g before b ix i₂ out o₂ r₂
      → (r₁ ≡ r₂) × (a ≡ b) × (i₁ ≡ i₂) × (o₁ ≡ o₂)
  unfolding HoldsOut
  holds_unique true g ix i₁ i₂ out o₁ o₂ r₁ r₂ x y =
      (x.0 ∙ sym y.0, x.1 ∙ sym y.1, x.2 ∙ sym y.2, x.3 ∙ sym y.3)
  holds_unique false g ix i₁ i₂ out o₁ o₂ r₁ r₂ x y =
      let refused = holds_refusal m t g before ix in (
        x.number ∙ sym y.number,
        held.buffers_unique m t g before bytes-a bytes-b refused (blocked_by (outcome m t).ending) (model_of_lem m)
            (outcome m t) x.buffers y.buffers,
        index-left refused (model_of_lem m).clauses ix i₁ i₂ x.index y.index,
        x.values ∙ sym y.values,
      )

-- closing: the answer, the table and the rounds
module _ (m state table t₁ t₂ out o₁ o₂ : List ℕ) (r₁ r₂ : ℕ) where
  pub closes_unique : (short : Bool) → ClosesOut short m state table t₁ out o₁ r₁
      → ClosesOut short m state table t₂ out o₂ r₂ → (r₁ ≡ r₂) × (t₁ ≡ t₂) × (o₁ ≡ o₂)
  unfolding ClosesOut
  closes_unique true x y = (x.0 ∙ sym y.0, x.1 ∙ sym y.1, x.2 ∙ sym y.2)
  closes_unique false x y = (
    x.number ∙ sym y.number,
    table_unique (close_refusal m state table) (model_of_lem m).clauses (members state) table t₁ t₂ x.entries
        y.entries,
    x.rounds ∙ sym y.rounds,
  )

-- with an index lent, that and the crossings too
module _ (m state table t₁ t₂ ix i₁ i₂ out o₁ o₂ : List ℕ) (r₁ r₂ : ℕ) where
  pub closes_indexed_unique : (short : Bool) → ClosesIndexedOut short m state table t₁ ix i₁ out o₁ r₁
      → ClosesIndexedOut short m state table t₂ ix i₂ out o₂ r₂ → (r₁ ≡ r₂) × (t₁ ≡ t₂) × (i₁ ≡ i₂) × (o₁ ≡ o₂)
  unfolding ClosesIndexedOut
  closes_indexed_unique true x y =
      (x.0 ∙ sym y.0, x.1 ∙ sym y.1, x.2 ∙ sym y.2, x.3 ∙ sym y.3)
  closes_indexed_unique false x y =
      let refused = close_refusal_indexed m state table ix in (
        x.number ∙ sym y.number,
        table_unique refused (model_of_lem m).clauses (members state) table t₁ t₂ x.entries y.entries,
        index-left refused (model_of_lem m).clauses ix i₁ i₂ x.index y.index,
        x.rounds ∙ sym y.rounds,
      )

-- counting: the answer and the counts
module _ (m out o₁ o₂ : List ℕ) (r₁ r₂ : ℕ) where
  pub counts_unique : (short : Bool) → CountsOut short m out o₁ r₁ → CountsOut short m out o₂ r₂
      → (r₁ ≡ r₂) × (o₁ ≡ o₂)
  unfolding CountsOut
  counts_unique true x y = (x.0 ∙ sym y.0, x.1 ∙ sym y.1)
  counts_unique false x y = (x.number ∙ sym y.number, x.figures ∙ sym y.figures)

-- a part: its length and its bytes
pub parts_unique : {part out o₁ o₂ : List ℕ} {r₁ r₂ : ℕ} → PartOut part out o₁ r₁ → PartOut part out o₂ r₂
    → (r₁ ≡ r₂) × (o₁ ≡ o₂)
parts_unique x y = (x.count ∙ sym y.count, x.bytes ∙ sym y.bytes)
