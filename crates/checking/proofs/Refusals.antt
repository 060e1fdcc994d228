-- Laws on what decides a verdict: no room, a fault of the pair, or the run.
use Prim.Native.Nat.{ℕ}
use mathlib.Core.Path.{◌≡◌, refl}
use mathlib.Core.Bool.{true, false}
use mathlib.Core.List.{List}
use mathlib.Core.Option.{Option, none, some, map}
use lib.Dec.{ltb}
use borrow.Author.Tests.{ltb-false}
use lib.ListN.{length}
use Rattle.sets.proofs.Laws.{by-test}
use Rattle.records.specs.Records.{given, ◌or_else◌}
use Rattle.records.proofs.Judging.{or_clear}
use Rattle.files.specs.Files.{Blamed, pair_fault}
use Rattle.files.specs.Answers.{blamed_number}
use Rattle.closing.specs.Closing.{no_room_lem}
use Rattle.reaching.specs.Reaching.{Lent}
use Rattle.checking.specs.Verdict.{no_space_lem, refused, blamed, refusal, verdict_of_lem}
use Rattle.running.specs.Outcomes.{nothing, outcome, ran}
use Rattle.reaching.specs.Reaching.{Ready}
use Rattle.checking.specs.Promises.{verdict, WellFormed}
use Rattle.running.specs.declared.Verdict.{Verdict}

-- With room for all, a pair without fault can be run.
pub spacious : (l : Lent) {m t : List ℕ} → no_space_lem l ≡ false → pair_fault m t ≡ none → Ready m t l
unfolding no_space_lem no_room_lem
spacious l room fine =
    let (buffers, names) = or_clear (no_room_lem l.state l.table) _ room in
    let (state, table) = or_clear (ltb (length l.state) 512) _ buffers in
    record {
      fine = fine;
      room = ltb-false _ _ state;
      entries = ltb-false _ _ table;
      names = ltb-false _ _ names;
    }

module _ (m t : List ℕ) (l : Lent) where
  -- Without room 1 is given.
  pub refuses_room : no_space_lem l ≡ true → refusal m t l ≡ some (refused 1 nothing)
  unfolding refusal given ◌or_else◌
  refuses_room e = rw e

  -- With room a pair's fault is.
  pub refuses_fault : no_space_lem l ≡ false → (b : Blamed) → pair_fault m t ≡ some b
      → refusal m t l ≡ some (blamed b)
  unfolding refusal given ◌or_else◌
  refuses_fault room b e = rw (room, e)

  -- Nothing refuses a well_formed pair.
  pub refuses_none : WellFormed m t l → refusal m t l ≡ none
  unfolding refusal given ◌or_else◌
  refuses_none w = rw (w.room, w.fine)

  -- A property of the verdict, from what decides it.
  pub by-cause : (P : Verdict → Type 0) → (no_space_lem l ≡ true → P (refused 1 nothing))
      → (no_space_lem l ≡ false → (b : Blamed) → pair_fault m t ≡ some b → P (blamed b))
      → (WellFormed m t l → P (ran m t (outcome m t))) → P (verdict m t l)
  unfolding verdict_of_lem
  by-cause P roomless faulty fine =
      by-test (no_space_lem l) (λ e. rw (refuses_room e) (roomless e))
      (λ room. judged room (pair_fault m t) refl)
    where
      judged : no_space_lem l ≡ false → (found : Option Blamed) → pair_fault m t ≡ found
          → P (verdict m t l)
      judged room none e =
          let w : WellFormed m t l = record { room = room; fine = e } in
          rw (refuses_none w) (fine w)
      judged room (some b) e = rw (refuses_fault room b e) (faulty room b e)

-- ---- a refusal's number

-- The number of a fault as a verdict is the fault's.
verdict-number : (o : Option Blamed)
    → map blamed_number o ≡ map (λ (v : Verdict). v.number) (map blamed o)
unfolding blamed refused
verdict-number (some b) = refl
verdict-number none = refl

-- So it is with the first of two.
pub either_number : (files steps : Option Blamed)
    → (map blamed_number files or_else map blamed_number steps)
    ≡ map (λ (v : Verdict). v.number) (map blamed (files or_else steps))
unfolding ◌or_else◌ blamed refused
either_number (some b) steps = refl
either_number none steps = verdict-number steps
