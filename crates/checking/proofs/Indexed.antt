-- Checking with an index lent: what refuses it, and its promise from a refusal and from a run.
use Prim.Native.Nat.{ℕ}
use mathlib.Core.Path.{◌≡◌, refl}
use mathlib.Core.Bool.{true, false}
use mathlib.Core.List.{List}
use mathlib.Core.Option.{none, some}
use lib.ListN.{length}
use Rattle.meaning.specs.Model.{aims}
use Rattle.records.specs.Records.{given, ◌or_else◌}
use Rattle.files.specs.Files.{model_of_lem, files_fault, steps_fault}
use Rattle.files.specs.declared.Part.{Part}
use Rattle.files.proofs.Answers.{Blames}
use Rattle.closing.specs.Closing.{IndexHolds, Index, no_places_lem}
use Rattle.reaching.specs.Reaching.{Lent}
use Rattle.checking.specs.Verdict.{no_space_lem, refused}
use Rattle.running.specs.Outcomes.{nothing}
use Rattle.checking.specs.Verdict.{blamed, refusal_indexed, verdict_of_lem}
use Rattle.running.specs.Outcomes.{outcome, ran}
use Rattle.running.specs.Outcomes.{Left}
use Rattle.checking.specs.Verdict.{Buffers, CheckedIndexed}
use Rattle.running.specs.declared.Verdict.{Verdict}

module _ (m t : List ℕ) (l : Lent) (ix : List ℕ) where
  -- a refusal changes nothing
  indexed-refused : {v : Verdict} → refusal_indexed m t l ix ≡ some v → CheckedIndexed m t l l ix ix v
  unfolding verdict_of_lem Buffers Index
  indexed-refused e = record { verdict = rw e; buffers = rw e refl; index = rw e refl }

  -- without room
  pub indexed-room : no_space_lem l ≡ true → {v : Verdict} → v ≡ refused 1 nothing → CheckedIndexed m t l l ix ix v
  unfolding refusal_indexed given ◌or_else◌
  indexed-room e is = rw is (indexed-refused (rw e))

  module _ (room : no_space_lem l ≡ false) where
    -- a fault of sizes, versions or the model, as their reader answers it
    pub indexed_files : {k : ℕ} {p : Part} → Blames (files_fault m t) k p → {v : Verdict} → v ≡ refused k p
        → CheckedIndexed m t l l ix ix v
    unfolding blamed refusal_indexed given ◌or_else◌
    indexed_files b is = rw (is, b.number_is, b.part-is) (indexed-refused (rw (room, b.is)))

    module _ (files : files_fault m t ≡ none) where
      -- without room for the index
      pub indexed-places : no_places_lem m ix ≡ true → {v : Verdict} → v ≡ refused 1 nothing
          → CheckedIndexed m t l l ix ix v
      unfolding refusal_indexed given ◌or_else◌
      indexed-places e is = rw is (indexed-refused (rw (room, files, e)))

      module _ (places : no_places_lem m ix ≡ false) where
        -- a fault of the trace, as its reader answers it
        pub indexed-steps : {k : ℕ} {p : Part}
            → Blames (steps_fault (length (aims (model_of_lem m))) (length (model_of_lem m).rules) t) k p
            → {v : Verdict} → v ≡ refused k p → CheckedIndexed m t l l ix ix v
        unfolding blamed refusal_indexed given ◌or_else◌
        indexed-steps b is = rw (is, b.number_is, b.part-is) (indexed-refused (rw (room, files, places, b.is)))

        -- without a fault the run tells
        pub indexed-run : steps_fault (length (aims (model_of_lem m))) (length (model_of_lem m).rules) t ≡ none
            → {after : Lent} {ix' : List ℕ} {v : Verdict} → v ≡ ran m t (outcome m t)
            → Left (model_of_lem m) (outcome m t) l after → IndexHolds (model_of_lem m).clauses ix ix'
            → CheckedIndexed m t l after ix ix' v
        unfolding verdict_of_lem Buffers Index refusal_indexed given ◌or_else◌
        indexed-run steps r left holds =
            let e : refusal_indexed m t l ix ≡ none = rw (room, files, places, steps) in
            record { verdict = rw e r; buffers = rw e left; index = rw e holds }
