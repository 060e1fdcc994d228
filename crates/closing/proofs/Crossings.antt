-- Closing with an index lent: one result; what refuses it; where there is room for the index it is closing without one;
-- and what the crossings are.
use Prim.Native.Nat.{ℕ, ◌≤◌}
use mathlib.Core.Path.{◌≡◌, refl, sym, ap, ◌∙◌, subst}
use mathlib.Core.Logic.{◌⊎◌, ◌↔◌, inl, inr}
use mathlib.Core.Bool.{false}
use mathlib.Core.List.{List}
use mathlib.Core.Option.{Option, none, some, none-ne-some, some-injective}
use native.Mathlib.Omega.{arith}
use borrow.Author.Tests.{ltb-true, ltb-false}
use lib.ListN.{length}
use Rattle.std.specs.Prelude.{Result, Ok, Err}
use Rattle.sets.proofs.Laws.{by-test, below_or_from}
use Rattle.meaning.specs.Model.{Clause}
use Rattle.meaning.specs.Rounds.{rounds, closure}
use Rattle.meaning.specs.Worklist.{body_places, places_in}
use Rattle.meaning.specs.Working.{Known}
use Rattle.meaning.proofs.Theorems.{worked-crossings, crossings-bound, steps_are_crossings, index-places}
use Rattle.facts.specs.Facts.{members}
use Rattle.facts.proofs.Laws.{beyond}
use Rattle.records.specs.Records.{given, ◌or_else◌}
use Rattle.records.specs.Refusals.{Fault}
use Rattle.records.specs.Refusals.{answer_or}
use Rattle.files.specs.Files.{model_of_lem, shape_fault, model_fault}
use Rattle.files.proofs.Traces.{fine-shape}
use Rattle.causes.proofs.Exact.{model_exactly}
use Rattle.indexing.proofs.Laws.{same_parts}
use Rattle.worklist.specs.declared.Worked.{Worked}
use Rattle.worklist.proofs.Laws.{judged-model}
use Rattle.closing.specs.Closing.{no_room_lem, no_places_lem, close_refusal, close_refusal_indexed}
use Rattle.closing.specs.Closing.{Table, Closes, IndexHolds, Index, Crosses, ClosesIndexed, RightAlone}
use Rattle.closing.specs.Closing.{Answerable, uncrossed, IndexExactly, CrossedExactly, IndexShort}
use Rattle.closing.specs.Closing.{Bounded, RefusedIndexed}
use Rattle.closing.proofs.Alone.{bounded, never-eight, table_unique, closes_unique, closing_exactly}
use Rattle.closing.proofs.Refused.{short-is, room-is, alone, short, refusal-cause, cause-one, cause_answerable}
use Rattle.closing.proofs.Refused.{closing_answered}

-- ---- one answer

-- A refusal leaves the index, and otherwise it is one index.
pub index-left : {A : Type 0} (refused : Option A) (cs : List Clause) (before a b : List ℕ)
    → Index refused cs before a → Index refused cs before b → a ≡ b
unfolding Index
index-left none cs before a b x y =
    same_parts (body_places cs) a b (x.entries ∙ sym y.entries) (x.beyond ∙ sym y.beyond)
index-left (some k) cs before a b x y = x ∙ sym y

-- Two results of closing with an index that meet its promise for the same model, state, table and index are equal, the
-- answer and every entry of both.
pub crossed_unique : {m state before a b ix ia ib : List ℕ} {r s : Result Worked ℕ}
    → ClosesIndexed m state before a ix ia r → ClosesIndexed m state before b ix ib s → (r ≡ s) × (a ≡ b) × (ia ≡ ib)
crossed_unique {m} {state} {before} {a} {b} {ix} {ia} {ib} x y =
    let refused = close_refusal_indexed m state before ix in (
      x.answers ∙ sym y.answers,
      table_unique refused (model_of_lem m).clauses (members state) before a b x.table y.table,
      index-left refused (model_of_lem m).clauses ix ia ib x.index y.index,
    )

-- The index left by what is not refused is the one of all body places.
pub index-holds : {cs : List Clause} {before after : List ℕ} → Bounded cs → IndexHolds cs before after
    → IndexExactly cs before after
index-holds {cs} b holds = record {
  places = rw holds.entries (index-places cs b.bodies);
  as_long = holds.as_long;
  beyond = holds.beyond;
}

-- ---- what refuses

-- A model that by itself is well_formed has no fault.
right-fine : {m : List ℕ} → RightAlone m → model_fault m ≡ none
right-fine {m} right = (model_exactly m).1 (right.size, right.first, right.model)

module _ (m state table ix : List ℕ) where
  -- Too short an index does, in its place, or else what refuses closing without one.
  abbrev ByIndex : Type 0
  ByIndex = ((close_refusal_indexed m state table ix ≡ some 1) × IndexShort m state table ix)
      ⊎ ((close_refusal_indexed m state table ix ≡ close_refusal m state table) × (IndexShort m state table ix → ⊥))

  by_index : ByIndex
  unfolding close_refusal_indexed close_refusal given ◌or_else◌ no_places_lem
  by_index =
      by-test (no_room_lem state table) (λ e. inr (rw e, λ s. short (short-is state table e) s.room))
      (λ e. judged e (model_fault m) refl)
    where
      judged : no_room_lem state table ≡ false → (found : Option Fault) → model_fault m ≡ found → ByIndex
      judged e (some f) is = inr (rw (e, is), λ s. none-ne-some f (sym (right-fine s.model) ∙ is))
      judged e none is =
          by-test (no_places_lem m ix)
          (λ p. inl (
            rw (e, is, p),
            record { room = room-is state table e; model = alone m state table is; places = ltb-true _ _ p },
          ))
          (λ p. inr (rw (e, is, p), λ s. omega (arith, ltb-false (length ix) _ p, s.places)))

  -- Number 8 is never given.
  pub never-eight-indexed : close_refusal_indexed m state table ix ≡ some 8 → ⊥
  never-eight-indexed e = elim by_index [
    | inl (is, _) ↦ let z : ◌≡◌ {A = ℕ} 1 8 = cc in omega arith
    | inr (is, _) ↦ never-eight m state table (sym is ∙ e)
  ]

  -- Each refusal has its cause.
  refused-cause : {k : ℕ} → close_refusal_indexed m state table ix ≡ some k → RefusedIndexed m state table ix k
  refused-cause {k} e = elim by_index [
    | inl (is, s) ↦ let one : 1 ≡ k = some-injective 1 k (sym is ∙ e) in rw (← one) (RefusedIndexed.index s)
    | inr (is, n) ↦ RefusedIndexed.other n (refusal-cause m state table (sym is ∙ e))
  ]

  -- Where nothing refuses, the index has room.
  unrefused-room : close_refusal_indexed m state table ix ≡ none → IndexShort m state table ix → ⊥
  unrefused-room e s = elim by_index [
    | inl (is, _) ↦ none-ne-some 1 (sym e ∙ is)
    | inr (_, n) ↦ n s
  ]

  -- With room for the index, what refuses is what refuses closing without one.
  same-refusal : (IndexShort m state table ix → ⊥) → close_refusal_indexed m state table ix ≡ close_refusal m state table
  same-refusal n = elim by_index [ inl (_, s) ↦ absurd (n s) | inr (is, _) ↦ is ]

-- Causes for what is lent have one number.
cause-one-indexed : {m state table ix : List ℕ} {j k : ℕ} → RefusedIndexed m state table ix j
    → RefusedIndexed m state table ix k → j ≡ k
cause-one-indexed (RefusedIndexed.index s) (RefusedIndexed.index _) = refl
cause-one-indexed (RefusedIndexed.index s) (RefusedIndexed.other n _) = absurd (n s)
cause-one-indexed (RefusedIndexed.other n _) (RefusedIndexed.index s) = absurd (n s)
cause-one-indexed (RefusedIndexed.other _ c) (RefusedIndexed.other _ d) = cause-one c d

-- ---- what is answered

uncrossed-answer : (refused : Option ℕ) (w : Worked)
    → uncrossed (answer_or refused w) ≡ answer_or refused w.rounds
uncrossed-answer none w = refl
uncrossed-answer (some k) w = refl

module _ {m state before after ix ix' : List ℕ} where
  -- what an answer says of what refuses
  crosses_some : (refused : Option ℕ) {k : ℕ} → Crosses refused m state before after ix ix' (Err k)
      → (refused ≡ some k) × (after ≡ before) × (ix' ≡ ix)
  unfolding Table Index
  crosses_some none c = let z : ◌≡◌ {A = ℕ} 0 1 = cc in absurd (omega arith)
  crosses_some (some j) {k} c = let is : j ≡ k = cc in (ap some is, c.table, c.index)

  crosses_none : (refused : Option ℕ) {w : Worked}
      → Crosses refused m state before after ix ix' (Ok w)
      → (refused ≡ none)
      × (w.crossings ≡ places_in (closure (model_of_lem m).clauses (members state)) (model_of_lem m).clauses)
      × IndexHolds (model_of_lem m).clauses ix ix'
  unfolding Index
  crosses_none none {w} c =
      let is : w.crossings ≡ places_in (closure (model_of_lem m).clauses (members state)) (model_of_lem m).clauses =
      cc in
      (refl, is, c.index)
  crosses_none (some j) c = let z : ◌≡◌ {A = ℕ} 0 1 = cc in absurd (omega arith)

  -- Where the index is not refused, the answer and the table are those of closing without one.
  uncrossed_closes : {r : Result Worked ℕ} → (IndexShort m state before ix → ⊥)
      → ClosesIndexed m state before after ix ix' r
      → Closes m state before after (uncrossed r)
  uncrossed_closes n c =
      let same = same-refusal m state before ix n in
      record {
        answers = ap uncrossed c.answers ∙ uncrossed-answer _ _
            ∙ ap (λ (o : Option ℕ). answer_or o (rounds (model_of_lem m).clauses (members state))) same;
        table = rw same at c.table;
      }

  -- "Round numbers .. equal the old ones": with room for the index, the refusal, or the number of rounds, and every
  -- entry of the table are those of closing without one.
  pub crossed_as_closed : {r : Result Worked ℕ} {s : Result ℕ ℕ} {without : List ℕ}
      → body_places (model_of_lem m).clauses ≤ length ix → ClosesIndexed m state before after ix ix' r
      → Closes m state before without s → (uncrossed r ≡ s) × (after ≡ without)
  crossed_as_closed room c d = closes_unique (uncrossed_closes (λ s. omega (arith, s.places)) c) d

  -- Where it refuses, the number's cause is there and nothing before it, and nothing is written.
  pub crossing_refused : {k : ℕ} → ClosesIndexed m state before after ix ix' (Err k)
      → RefusedIndexed m state before ix k × (after ≡ before) × (ix' ≡ ix)
  crossing_refused c =
      let (e, table, index) = crosses_some _ c in
      (refused-cause m state before ix e, table, index)

  module _ {w : Worked} (c : ClosesIndexed m state before after ix ix' (Ok w)) where
    not_short : IndexShort m state before ix → ⊥
    not_short = unrefused-room m state before ix (crosses_none _ c).0

    closed : Closes m state before after (Ok w.rounds)
    closed = uncrossed_closes not_short c

    -- Where it answers, closing without an index does, and the index has room.
    pub crossing_answered : Answerable m state before × (body_places (model_of_lem m).clauses ≤ length ix)
    crossing_answered =
        let a = closing_answered closed in (
          a,
          elim (below_or_from (length ix) (body_places (model_of_lem m).clauses)) [
            | inl l ↦ absurd (not_short (record { room = a.room; model = a.model; places = l }))
            | inr l ↦ l
          ],
        )

    fine : shape_fault m ≡ none
    fine = fine-shape m (right-fine crossing_answered.0.model)

    clauses : Known (model_of_lem m).clauses (members state)
    unfolding model_of_lem
    clauses = (judged-model m fine (beyond 512 state)).known

    -- Then the table and the number of rounds are those of demand 3, and the crossings the steps of the worklist and
    -- the body places whose fact is in the closure, of all of which the index holds the clauses' numbers.
    pub crossing-exactly
        : CrossedExactly (model_of_lem m).clauses (members state) before after ix ix' w.rounds w.crossings
    crossing-exactly =
        let (_, is, holds) = crosses_none _ c in
        let worked = is ∙ sym (worked-crossings clauses) in
        record {
          closed = closing_exactly closed;
          as_steps = worked ∙ steps_are_crossings _ _;
          as_places = is;
          bound = rw worked (crossings-bound clauses);
          index = index-holds (bounded m fine) holds;
        }

-- It refuses with a number exactly if that number's cause is there.
pub crossing_numbers : {m state before after ix ix' : List ℕ} {r : Result Worked ℕ}
    → ClosesIndexed m state before after ix ix' r
    → (k : ℕ) → (r ≡ Err k) ↔ RefusedIndexed m state before ix k
crossing_numbers {m} {state} {before} {after} {ix} {ix'} {r} c k =
    (λ e. (crossing_refused (subst (ClosesIndexed m state before after ix ix') e c)).0, go r c)
  where
    go : (r : Result Worked ℕ) → ClosesIndexed m state before after ix ix' r → {k : ℕ} → RefusedIndexed m state before ix k
        → r ≡ Err k
    go (Ok w) c (RefusedIndexed.index s) = absurd (not_short c s)
    go (Ok w) c (RefusedIndexed.other _ cause) = absurd (cause_answerable (crossing_answered c).0 cause)
    go (Err j) c cause = ap Err (cause-one-indexed (crossing_refused c).0 cause)
