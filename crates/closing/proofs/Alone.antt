-- Laws on closing called by itself: what each close_refusal rests on, and what a judged model has.
use Prim.Native.Nat.{ℕ, ◌≤◌, ◌<◌}
use mathlib.Core.Path.{◌≡◌, refl, sym, ap, ◌∙◌, subst}
use mathlib.Core.Logic.{⊎_elim}
use mathlib.Core.Bool.{Bool, true, false, true≢false, ◌&&◌}
use mathlib.Core.List.{List}
use mathlib.Core.Option.{Option, none, some, map, none-ne-some}
use native.Mathlib.Nat.{lt_of_le_of_lt}
use native.Mathlib.Omega.{arith}
use borrow.Author.Tests.{lt-ltb, le-ltb, le-leb, leb-true, ltb-false}
use lib.Dec.{T, leb, ltb}
use lib.ListN.{length}
use Rattle.std.specs.Prelude.{Result, Ok, Err}
use Rattle.sets.specs.Sets.{Facts, first}
use Rattle.sets.proofs.Laws.{is_true, passes, both, below_or_from, first_hit, first-before}
use Rattle.meaning.specs.Model.{Clause}
use Rattle.meaning.specs.Rounds.{rounds}
use Rattle.facts.specs.Facts.{members, AnyFrom}
use Rattle.facts.proofs.Laws.{beyond}
use Rattle.records.specs.Records.{given, ◌or_else◌}
use Rattle.records.proofs.Judging.{or_clear}
use Rattle.records.specs.Refusals.{Fault}
use Rattle.records.specs.Refusals.{answer_or}
use Rattle.files.specs.Files.{fact_count, model_of_lem, shape_fault, model_fault}
use Rattle.files.proofs.Traces.{fine-shape}
use Rattle.files.proofs.Laws.{facts-bound, clauses-bound, clause-below}
use Rattle.causes.proofs.Causes.{model-fault_range}
use Rattle.closing.specs.Closing.{Bounded, ClosesUnder, no_room_lem, some_from, state_refusal, close_refusal, Table, Closes}
use Rattle.closing.specs.Closing.{ClosesKnown, ClosedExactly}
use Rattle.closing.proofs.Laws.{filled_unique, filled-number, filled-smallest, answered_rounds, answered_bound}

-- ---- room

-- Where there is room, the table has it.
pub table-room : (state table : List ℕ) → no_room_lem state table ≡ false → 4096 ≤ length table
unfolding no_room_lem
table-room state table e = ltb-false _ _ (or_clear (ltb (length state) 512) _ e).1

-- ---- a bit from F on

-- a number that passes is not before the first one
first-at-most : (p : ℕ → Bool) (n g : ℕ) → p g ≡ true → first p n ≤ g
first-at-most p n g e =
    ⊎_elim (λ h. absurd (true≢false (sym e ∙ first-before p n g h))) (λ h. h) (below_or_from g (first p n))

-- what `any_from` answers is whether there is one
some-from : (state : List ℕ) (F : ℕ) (r : Bool) → AnyFrom 512 state F r → r ≡ some_from F (members state)
unfolding some_from
some-from state F true a =
    let (g, from, in-set) = a.some refl in
    let low : g < 4096 = ⊎_elim (λ h. h) (λ h. absurd (subst T (beyond 512 state g h) in-set)) (below_or_from g 4096) in
    let test : ℕ → Bool = λ f. leb F f && members state f in
    let passes : test g ≡ true = rw (le-leb F g from) (is_true in-set) in
    sym (lt-ltb (first test 4096) 4096 (lt_of_le_of_lt (first-at-most test 4096 g passes) low))
some-from state F false a =
    let hit = first test 4096 in
    sym (le-ltb _ _
    (⊎_elim (λ h. absurd (nothing hit (first_hit test 4096 h))) (λ h. h) (below_or_from hit 4096)))
  where
    test : ℕ → Bool
    test f = leb F f && members state f

    nothing : (f : ℕ) → (leb F f && members state f) ≡ true → ⊥
    nothing f e =
        let (from, in-set) = (both (leb F f) (members state f)).0 (passes e) in
        subst T (a.none refl f (leb-true F f (is_true from))) in-set

-- the same with the F at hand
pub from-is : (m state : List ℕ) (F : ℕ) (r : Bool) → AnyFrom 512 state F r → F ≡ fact_count m
    → r ≡ some_from (fact_count m) (members state)
from-is m state F r a e = rw (← e) (some-from state F r a)

-- ---- a judged model

pub bounded : (m : List ℕ) → shape_fault m ≡ none → Bounded (model_of_lem m).clauses
bounded m fine = record {
  count = clauses-bound m fine;
  heads = λ c i. omega (arith, facts-bound m fine, (clause-below m fine c i).0);
  bodies = λ c i b h. omega (arith, facts-bound m fine, (clause-below m fine c i).1 b h);
}

-- ---- the answers

module _ {A E : Type 0} where
  -- a refusal is answered where something refuses, with what it is
  pub answer-err : (o : Option E) (x : A) (k : E) → Err k ≡ answer_or o x → o ≡ some k
  answer-err none x k e = cc
  answer-err (some j) x k e = cc

  -- anything else where nothing does
  pub answer-ok : (o : Option E) (x y : A) → Ok y ≡ answer_or o x → (o ≡ none) × (y ≡ x)
  answer-ok none x y e = (refl, cc)
  answer-ok (some j) x y e = cc

module _ (m state before : List ℕ) where
  -- a state that refuses changes nothing
  pub fine-refused : (k : ℕ) → state_refusal m state ≡ some k → ClosesKnown m state before before (Err k)
  unfolding Table
  fine-refused k e = record { answers = rw e; table = rw e refl }

  -- otherwise the table is filled
  pub fine-closed : (after : List ℕ) (n : ℕ) → state_refusal m state ≡ none
      → ClosesUnder (model_of_lem m).clauses state before after n → ClosesKnown m state before after (Ok n)
  unfolding Table
  fine-closed after n e c = record { answers = rw e (ap Ok c.number); table = rw e c.filled }

  -- without room
  pub no_room : no_room_lem state before ≡ true → Closes m state before before (Err 1)
  unfolding given ◌or_else◌ close_refusal Table
  no_room e = record { answers = rw e; table = rw e refl }

  -- a fault of the model refuses with its number
  pub model-refused : (f : Fault) → no_room_lem state before ≡ false → model_fault m ≡ some f
      → Closes m state before before (Err f.number)
  unfolding given ◌or_else◌ close_refusal Table
  model-refused f e h = record { answers = rw (e, h); table = rw (e, h) refl }

  -- with none, the state tells
  pub model-fine : (after : List ℕ) (r : Result ℕ ℕ) → no_room_lem state before ≡ false → model_fault m ≡ none
      → ClosesKnown m state before after r → Closes m state before after r
  unfolding given ◌or_else◌ close_refusal
  model-fine after r e h c = record { answers = rw (e, h) c.answers; table = rw (e, h) c.table }

-- ---- the numbers

-- Number 8 is never given.
pub never-eight : (m state table : List ℕ) → close_refusal m state table ≡ some 8 → ⊥
unfolding close_refusal given ◌or_else◌
never-eight m state table e = go (no_room_lem state table) (model_fault m) refl (some_from (fact_count m) (members state)) e
  where
    go : (short : Bool) (found : Option Fault) → model_fault m ≡ found → (from-F : Bool)
        → (given short 1 or_else map (λ f. f.number) found or_else given from-F 6) ≡ some 8 → ⊥
    go true found q from-F h = let z : ◌≡◌ {A = ℕ} 1 8 = cc in omega arith
    go false (some f) q from-F h = let z : f.number ≡ 8 = cc in omega (arith, model-fault_range m f q)
    go false none q true h = let z : ◌≡◌ {A = ℕ} 6 8 = cc in omega arith
    go false none q false h = none-ne-some 8 h

-- ---- one answer

-- A close_refusal changes nothing, and a filled table is one table.
pub table_unique : (refused : Option ℕ) (cs : List Clause) (S : Facts) (before a b : List ℕ)
    → Table refused cs S before a → Table refused cs S before b → a ≡ b
unfolding Table
table_unique none cs S before a b x y = filled_unique x y
table_unique (some k) cs S before a b x y = x ∙ sym y

-- Two results of closing that meet its promise for the same model, state and table are equal, the answer and every
-- entry.
pub closes_unique : {model state before a b : List ℕ} {r s : Result ℕ ℕ} → Closes model state before a r
    → Closes model state before b s → (r ≡ s) × (a ≡ b)
closes_unique {model} {state} {before} {a} {b} x y = (
  x.answers ∙ sym y.answers,
  table_unique (close_refusal model state before) (model_of_lem model).clauses (members state) before a b x.table
      y.table,
)

-- ---- demand 3

-- What refuses nothing has no fault in the model.
unrefused : (m state table : List ℕ) → close_refusal m state table ≡ none → model_fault m ≡ none
unfolding close_refusal given ◌or_else◌
unrefused m state table e = go (no_room_lem state table) (model_fault m) refl e
  where
    go : (short : Bool) (found : Option Fault) → model_fault m ≡ found
        → (given short 1 or_else map (λ f. f.number) found
        or_else given (some_from (fact_count m) (members state)) 6) ≡ none → model_fault m ≡ none
    go true found q h = absurd (none-ne-some 1 (sym h))
    go false (some f) q h = absurd (none-ne-some f.number (sym h))
    go false none q h = q

-- Whatever model, state and table are lent: where closing answers rounds, the facts that the table numbers are HC of
-- the state, each of the first 4,096 entries is its fact's round number, and the answer is the number of rounds, at
-- most the different heads missing from the state.
pub closing_exactly : {model state before after : List ℕ} {n : ℕ} → Closes model state before after (Ok n)
    → ClosedExactly (model_of_lem model).clauses (members state) before after n
unfolding Table
closing_exactly {model} {state} {before} {after} {n} closes =
    go (close_refusal model state before) refl closes.answers closes.table
  where
    cs : List Clause
    cs = (model_of_lem model).clauses

    go : (r : Option ℕ) → close_refusal model state before ≡ r → Ok n ≡ answer_or r (rounds cs (members state))
        → Table r cs (members state) before after → ClosedExactly cs (members state) before after n
    go (some k) _ e _ = let z : ◌≡◌ {A = ℕ} 0 1 = cc in absurd (omega arith)
    go none fine e filled =
        let number : n ≡ rounds cs (members state) = cc in
        let clauses = bounded model (fine-shape model (unrefused model state before fine)) in
        record {
          smallest = filled-smallest cs state filled clauses;
          entries = filled-number cs (members state) filled;
          number = answered_rounds cs (members state) n number;
          bound = answered_bound cs (members state) n number;
          as_long = filled.as_long;
          beyond = filled.beyond;
        }
