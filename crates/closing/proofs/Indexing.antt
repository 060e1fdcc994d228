-- Closing with an index lent: the index that is built, and the answers.
use Prim.Native.Nat.{ℕ, ◌≤◌}
use mathlib.Core.Path.{◌≡◌, refl, ap, ◌∙◌, subst}
use mathlib.Core.Bool.{true, false}
use mathlib.Core.List.{List}
use mathlib.Core.Option.{Option, none, some}
use native.Mathlib.Omega.{arith}
use lib.ListN.{length, take, replicate}
use Rattle.std.specs.Prelude.{Result, Ok, Err}
use lib.Seq.{get_or-take, length-take-le}
use Rattle.facts.specs.Facts.{members}
use Rattle.records.specs.Records.{given, ◌or_else◌}
use Rattle.records.specs.Refusals.{Fault}
use Rattle.sections.specs.declared.Role.TheVariants.{Clauses}
use Rattle.files.specs.Files.{fact_count, section_of, clauses_in, model_of_lem, shape_fault, model_fault}
use Rattle.files.proofs.Laws.{facts-bound, clauses-bound, clause-below}
use Rattle.indexing.specs.Indexing.{Below, Indexed}
use Rattle.indexing.specs.Placing.{Cleared}
use Rattle.worklist.specs.Working.{Works}
use Rattle.worklist.specs.declared.Worked.{Worked}
use Rattle.worklist.proofs.Laws.{zeros_at}
use Rattle.closing.specs.Closing.{no_room_lem, state_refusal}
use Rattle.closing.specs.Closing.{close_refusal_indexed, no_places_lem, IndexHolds, Index}
use Rattle.closing.specs.Closing.{Table, Builds, Crosses}

-- ---- the index

-- The body facts of a judged model are below F.
pub facts_below : (m : List ℕ) → shape_fault m ≡ none → Below (fact_count m) (model_of_lem m).clauses
facts_below m fine = record { few = facts-bound m fine; below = λ c i. (clause-below m fine c i).1 }

-- A new array counts nothing.
pub cleared : Cleared (replicate 4097 0)
cleared = record { sized = refl; entries = zeros_at 4097 }

-- With as many entries as body places the index is the model's.
pub builds : (m : List ℕ) → shape_fault m ≡ none → {section before after ends starts : List ℕ} {n : ℕ}
    → section ≡ section_of m Clauses → n ≡ length (clauses_in section) → Indexed section before after ends starts
    → Builds m before after ends starts n
unfolding model_of_lem
builds m fine {section} {before} {after} {ends} {starts} {n} is count found =
    let ix = subst (λ (l : List ℕ). Indexed l before after ends starts) is found in
    let clauses : n ≡ length (model_of_lem m).clauses = count ∙ ap (λ (l : List ℕ). length (clauses_in l)) is in
    let few : n ≤ 4096 = omega (arith, clauses-bound m fine) in
    let long : length (take n starts) ≡ n = length-take-le n starts (omega (arith, ix.starts-sized)) in
    record {
      holds = record { as_long = ix.as_long; entries = ix.entries; beyond = ix.beyond };
      ends-sized = ix.sized;
      starts-sized = ix.starts-sized;
      few = few;
      listed = record { entries = ix.entries; room = omega (arith, ix.sized); bounds = ix.bounds };
      placed = record {
        count = long ∙ clauses;
        places = λ k h. get_or-take n starts k 0 (omega (arith, long)) ∙ ix.places k (omega (arith, long));
      };
    }

-- ---- the answers

module _ (m state before ix : List ℕ) where
  -- a refusal changes nothing
  pub crosses_refused : (refused : Option ℕ) (k : ℕ) → refused ≡ some k
      → Crosses refused m state before before ix ix (Err k)
  unfolding Table Index
  crosses_refused refused k e = rw e (record { answers = refl; table = refl; index = refl })

  -- otherwise the table is filled and the index built
  pub crosses_worked : {after ix' : List ℕ} {w : Worked} → state_refusal m state ≡ none
      → Works (model_of_lem m).clauses (members state) before after w → IndexHolds (model_of_lem m).clauses ix ix'
      → Crosses (state_refusal m state) m state before after ix ix' (Ok w)
  unfolding Table Index
  crosses_worked e w holds =
      rw e
      (record {
        answers = rw (w.rounds, w.crossings);
        table = record { as_long = w.as_long; entries = w.entries; beyond = w.beyond };
        index = holds;
      })

  -- ---- what refuses closing

  pub indexed_no_room : no_room_lem state before ≡ true → close_refusal_indexed m state before ix ≡ some 1
  unfolding close_refusal_indexed given ◌or_else◌
  indexed_no_room e = rw e

  module _ (room : no_room_lem state before ≡ false) where
    pub indexed-fault : (f : Fault) → model_fault m ≡ some f
        → close_refusal_indexed m state before ix ≡ some f.number
    unfolding close_refusal_indexed given ◌or_else◌
    indexed-fault f e = rw (room, e)

    pub indexed_no_places : model_fault m ≡ none → no_places_lem m ix ≡ true → close_refusal_indexed m state before ix ≡ some 1
    unfolding close_refusal_indexed given ◌or_else◌
    indexed_no_places fine e = rw (room, fine, e)

    pub indexed-fine : model_fault m ≡ none → no_places_lem m ix ≡ false
        → close_refusal_indexed m state before ix ≡ state_refusal m state
    unfolding close_refusal_indexed given ◌or_else◌
    indexed-fine fine e = rw (room, fine, e)

-- What is left to promise is promised for what refuses the whole.
pub crosses_as : {whole rest : Option ℕ} {m state before after ix ix' : List ℕ} {r : Result Worked ℕ} → whole ≡ rest
    → Crosses rest m state before after ix ix' r → Crosses whole m state before after ix ix' r
crosses_as e c = rw e c
