-- Checking with an index lent: one result; what refuses it; and where there is room for the index it is checking
-- without one, so that all that is promised of that holds.
use Prim.Native.Nat.{ℕ, ◌≤◌}
use mathlib.Core.Path.{◌≡◌, refl, sym, ap, ◌∙◌}
use mathlib.Core.Logic.{◌⊎◌, inl, inr, ⊎_elim}
use mathlib.Core.Bool.{false, true≢false}
use mathlib.Core.List.{List}
use mathlib.Core.Option.{Option, none, some, none-ne-some}
use native.Mathlib.Omega.{arith}
use borrow.Author.Tests.{ltb-true, ltb-false}
use lib.ListN.{length}
use Rattle.sets.proofs.Laws.{by-test}
use Rattle.meaning.specs.Worklist.{body_places}
use Rattle.records.specs.Records.{given, ◌or_else◌}
use Rattle.files.specs.Files.{Blamed, model_of_lem, files_fault, pair_fault}
use Rattle.files.proofs.Traces.{fine_pair}
use Rattle.causes.proofs.Exact.{files_exactly}
use Rattle.closing.specs.Closing.{no_places_lem, Index, IndexExactly}
use Rattle.closing.proofs.Alone.{bounded}
use Rattle.closing.proofs.Crossings.{index-left, index-holds}
use Rattle.reaching.specs.Reaching.{Lent}
use Rattle.checking.specs.Verdict.{no_space_lem, refused, refusal, refusal_indexed, verdict_of_lem, Buffers}
use Rattle.running.specs.Outcomes.{nothing}
use Rattle.checking.specs.Verdict.{Checked, CheckedIndexed}
use Rattle.checking.specs.Promises.{WellFormed, IndexShort, GivenIndexed}
use Rattle.running.specs.declared.Verdict.{Verdict}
use Rattle.checking.proofs.Refusals.{refuses_none}
use Rattle.checking.proofs.Theorems.{LentBytes, buffers_unique, checked_unique, numbers, never-eight}

-- Two results of checking one pair with the same buffers and the same index are equal in every field of the verdict,
-- every byte and every entry.
pub checked_indexed_unique : {m t : List ℕ} {before a b : Lent} {ix ia ib : List ℕ} {v w : Verdict}
    → LentBytes a → LentBytes b → CheckedIndexed m t before a ix ia v → CheckedIndexed m t before b ix ib w
    → (v ≡ w) × (a ≡ b) × (ia ≡ ib)
checked_indexed_unique {m} {t} {before} {a} {b} {ix} {ia} {ib} bytes-a bytes-b x y =
    let refused = refusal_indexed m t before ix in (
      x.verdict ∙ sym y.verdict,
      buffers_unique m t before bytes-a bytes-b refused x.buffers y.buffers,
      index-left refused (model_of_lem m).clauses ix ia ib x.index y.index,
    )

module _ (m t : List ℕ) (l : Lent) (ix : List ℕ) where
  -- Too short an index refuses, in its place, or else what refuses checking without one.
  abbrev ByIndex : Type 0
  ByIndex = ((refusal_indexed m t l ix ≡ some (refused 1 nothing)) × IndexShort m t l ix)
      ⊎ ((refusal_indexed m t l ix ≡ refusal m t l) × (IndexShort m t l ix → ⊥))

  by_index : ByIndex
  unfolding refusal_indexed refusal given ◌or_else◌ pair_fault no_places_lem
  by_index =
      by-test (no_space_lem l) (λ e. inr (rw e, λ s. true≢false (sym e ∙ s.room))) (λ e. judged e (files_fault m t) refl)
    where
      judged : no_space_lem l ≡ false → (found : Option Blamed) → files_fault m t ≡ found → ByIndex
      judged e (some b) is =
          inr (rw (e, is), λ s. none-ne-some b (sym ((files_exactly m t).1 (s.heads, s.model)) ∙ is))
      judged e none is =
          by-test (no_places_lem m ix)
          (λ p.
          let (heads, model) = (files_exactly m t).0 is in
          inl (rw (e, is, p), record { room = e; heads = heads; model = model; places = ltb-true _ _ p }))
          (λ p. inr (rw (e, is, p), λ s. omega (arith, ltb-false (length ix) _ p, s.places)))

module _ {m t : List ℕ} {before after : Lent} {ix ix' : List ℕ} {v : Verdict}
    (c : CheckedIndexed m t before after ix ix' v) where
  -- A short index, in its place, is number 1 with no bytes at fault, and nothing is written.
  pub short-refused : IndexShort m t before ix → (v ≡ refused 1 nothing) × (after ≡ before) × (ix' ≡ ix)
  unfolding verdict_of_lem Buffers Index
  short-refused s = elim (by_index m t before ix) [
    | inl (is, _) ↦ (rw is at c.verdict, rw is at c.buffers, rw is at c.index)
    | inr (_, n) ↦ absurd (n s)
  ]

  -- Otherwise verdict and buffers are those of checking without one, ..
  pub not_short : (IndexShort m t before ix → ⊥) → Checked m t before after v
  not_short n = elim (by_index m t before ix) [
    | inl (_, s) ↦ absurd (n s)
    | inr (is, _) ↦ record { verdict = rw is at c.verdict; buffers = rw is at c.buffers }
  ]

  -- .. so that "verdicts equal the old ones": with room for the index, every field of the verdict, every byte and every
  -- entry.
  pub checked_as_without : body_places (model_of_lem m).clauses ≤ length ix → Checked m t before after v
  checked_as_without room = not_short (λ s. omega (arith, s.places))

  pub same-verdict : body_places (model_of_lem m).clauses ≤ length ix → {without : Lent} {w : Verdict} → LentBytes after
      → LentBytes without → Checked m t before without w → (v ≡ w) × (after ≡ without)
  same-verdict room a b = checked_unique m t before a b (checked_as_without room)

  -- Of a well_formed pair, however its run ends, the index then holds each body place's clause number.
  pub index-after : WellFormed m t before → body_places (model_of_lem m).clauses ≤ length ix
      → IndexExactly (model_of_lem m).clauses ix ix'
  unfolding Index
  index-after w room = elim (by_index m t before ix) [
    | inl (_, s) ↦ absurd (omega (arith, s.places))
    | inr (is, _) ↦
        let none-refuses = is ∙ refuses_none m t before w in
        index-holds (bounded m (fine_pair m t w.fine).shape) (rw none-refuses at c.index)
  ]

  -- Number 1 is given exactly for no room or a short index, and any other number exactly as without an index.
  pub numbers-indexed : GivenIndexed m t before ix v.number
  unfolding refused
  numbers-indexed = elim (by_index m t before ix) [
    | inl (_, s) ↦ record {
      room = (λ _. inr s, λ _. ap (λ (w : Verdict). w.number) (short-refused s).0);
      other = λ n. absurd (n s);
    }
    | inr (_, n) ↦
        let given = rw (← (not_short n).verdict) at (numbers m t before) in
        record {
          room = (λ e. inl (given.room.0 e), λ e. ⊎_elim given.room.1 (λ s. absurd (n s)) e);
          other = λ _. given;
        }
  ]

  -- Number 8 is never given.
  pub never-eight-indexed : v.number ≡ 8 → ⊥
  unfolding refused
  never-eight-indexed e = elim (by_index m t before ix) [
    | inl (_, s) ↦ omega (arith, ap (λ (w : Verdict). w.number) (short-refused s).0)
    | inr (_, n) ↦ never-eight m t before (ap (λ (w : Verdict). w.number) (sym (not_short n).verdict) ∙ e)
  ]
