-- Laws on the promise of `check`: from a refusal, and from a run.
use Prim.Native.Nat.{ℕ}
use mathlib.Core.Path.{◌≡◌, refl}
use mathlib.Core.Bool.{true, false}
use mathlib.Core.List.{List}
use mathlib.Core.Option.{none, some}
use Rattle.files.specs.Files.{pair_fault, model_of_lem}
use Rattle.files.specs.declared.Part.{Part}
use Rattle.files.proofs.Answers.{Blames}
use Rattle.reaching.specs.Reaching.{Lent}
use Rattle.checking.specs.Verdict.{no_space_lem, refused, blamed, refusal, verdict_of_lem}
use Rattle.running.specs.Outcomes.{nothing, outcome, ran}
use Rattle.running.specs.Outcomes.{Left}
use Rattle.checking.specs.Verdict.{Buffers, Checked}
use Rattle.running.specs.declared.Verdict.{Verdict}
use Rattle.checking.proofs.Refusals.{refuses_room, refuses_fault, refuses_none}

module _ (m t : List ℕ) (l : Lent) where
  -- a refusal changes nothing
  checked_refused : (v : Verdict) → refusal m t l ≡ some v → Checked m t l l v
  unfolding verdict_of_lem Buffers
  checked_refused v e = record { verdict = rw e; buffers = rw e refl }

  -- without room
  pub checked_room : no_space_lem l ≡ true → {v : Verdict} → v ≡ refused 1 nothing → Checked m t l l v
  checked_room e is = rw is (checked_refused _ (refuses_room m t l e))

  module _ (room : no_space_lem l ≡ false) where
    -- the pair's fault, as the reader of the pair answers it
    pub checked_blamed : {k : ℕ} {p : Part} → Blames (pair_fault m t) k p → {v : Verdict} → v ≡ refused k p
        → Checked m t l l v
    unfolding blamed
    checked_blamed b is =
        rw (is, b.number_is, b.part-is) (checked_refused _ (refuses_fault m t l room b.whose b.is))

    -- without a fault the run tells
    pub checked_run : pair_fault m t ≡ none → {after : Lent} {v : Verdict} → v ≡ ran m t (outcome m t)
        → Left (model_of_lem m) (outcome m t) l after → Checked m t l after v
    unfolding verdict_of_lem Buffers
    checked_run fine r left =
        let e = refuses_none m t l (record { room = room; fine = fine }) in
        record { verdict = rw e r; buffers = rw e left }
