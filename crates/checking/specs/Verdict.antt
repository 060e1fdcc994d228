-- The verdict on a pair of files and what it leaves in the lent buffers (document 01, "Verdict numbers and the order",
-- "Buffers"): a refusal, or what the run comes to (Rattle.running.specs.Outcomes).
use Rattle.std.specs.Prelude.{ℕ, ◌≡◌, Bool, ◌||◌, List, ltb, length}
use Rattle.std.proofs.Math.Option.{Option, none, some, map}
use Rattle.meaning.specs.Model.{aims}
use Rattle.records.specs.Records.{given, ◌or_else◌}
use Rattle.files.specs.Files.{Blamed, model_of_lem, files_fault, steps_fault, pair_fault}
use Rattle.files.specs.Answers.{blamed_number, blamed_part}
use Rattle.files.specs.declared.Part.{Part}
use Rattle.closing.specs.Closing.{no_room_lem, Index, no_places_lem}
use Rattle.reaching.specs.Reaching.{Lent}
use Rattle.running.specs.Outcomes.{nothing, outcome, ran, Left}
use Rattle.running.specs.declared.Verdict.{Verdict}

-- 1: "state buffer under 512 bytes or round table under 4,096 entries"; of the names' bytes, "ROOM covers them"
unfoldable pub no_space_lem : Lent → Bool
unfolding no_room_lem
no_space_lem l = no_room_lem l.state l.table || ltb (length l.names) 128

-- ---- refusals

-- a refusal: "step .. otherwise 0", "fact .. otherwise 65,535", "rounds .. 0 for 1 to 9", "held .. 0 for 1 to 9"; no
-- kind, no round
unfoldable pub refused : ℕ → Part → Verdict
refused number part =
    record { number = number; step = 0; fact = 65535; rounds = 0; held = 0; kind = 0; round = 65535; part = part }

-- the fault of a pair as a verdict
unfoldable pub blamed : Blamed → Verdict
unfolding refused blamed_number blamed_part
blamed b = refused (blamed_number b) (blamed_part b)

-- "Order: 1; 2 (model, then trace); .. all before any step is run.": no room, then the pair's first fault
unfoldable pub refusal : List ℕ → List ℕ → Lent → Option Verdict
unfolding no_space_lem refused blamed given ◌or_else◌ pair_fault
refusal m t l = given (no_space_lem l) (refused 1 nothing) or_else map blamed (pair_fault m t)

-- ---- the verdict

-- the verdict: the refusal, or what the run comes to
unfoldable pub verdict_of_lem : List ℕ → List ℕ → Option Verdict → Verdict
unfolding ran outcome
verdict_of_lem m t (some v) = v
verdict_of_lem m t none = ran m t (outcome m t)

-- ---- the buffers

-- "1 to 9 change nothing."; so does 12, a refusal of the model as they are
unfoldable pub Buffers : List ℕ → List ℕ → Option Verdict → Lent → Lent → Type 0
unfolding model_of_lem outcome
Buffers m t (some v) before after = after ≡ before
Buffers m t none before after = Left (model_of_lem m) (outcome m t) before after

-- what checking promises: every field of the verdict and every lent byte and entry
pub record Checked (m t : List ℕ) (before after : Lent) (v : Verdict) : Type 0 where
  pub verdict : v ≡ verdict_of_lem m t (refusal m t before)
  pub buffers : Buffers m t (refusal m t before) before after

-- ---- with an index lent (document 02, wish 5)

-- "Refusals: ROOM, right after NEGATED, if the lent index has fewer entries than the model has body places": after the
-- model's numbers, before the trace's 4, 5 and 9
unfoldable pub refusal_indexed : List ℕ → List ℕ → Lent → List ℕ → Option Verdict
unfolding no_space_lem refused blamed given ◌or_else◌ files_fault no_places_lem model_of_lem aims
refusal_indexed m t l index =
    given (no_space_lem l) (refused 1 nothing)
    or_else map blamed (files_fault m t)
    or_else given (no_places_lem m index) (refused 1 nothing)
    or_else map blamed (steps_fault (length (aims (model_of_lem m))) (length (model_of_lem m).rules) t)

-- what checking with an index promises: as without one, and every entry of the index
pub record CheckedIndexed (m t : List ℕ) (before after : Lent) (ix ix' : List ℕ) (v : Verdict) : Type 0 where
  pub verdict : v ≡ verdict_of_lem m t (refusal_indexed m t before ix)
  pub buffers : Buffers m t (refusal_indexed m t before ix) before after
  pub index : Index (refusal_indexed m t before ix) (model_of_lem m).clauses ix ix'
