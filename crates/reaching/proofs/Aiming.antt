-- Laws on what is kept for the goal from state to state, and on what is asked of the last one.
use Prim.Native.Nat.{ℕ, ◌≤◌, ◌<◌}
use mathlib.Core.Path.{◌≡◌}
use mathlib.Core.Bool.{Bool, cond}
use mathlib.Core.List.{List, [], ◌∷◌, replicate}
use mathlib.Core.Logic.{⊎_elim}
use native.Mathlib.Omega.{arith}
use lib.ListN.{length}
use Rattle.sets.specs.Sets.{Facts}
use Rattle.sets.proofs.Laws.{below_or_from}
use Rattle.meaning.specs.Past.{History}
use Rattle.meaning.specs.Model.{Aim}
use Rattle.meaning.specs.Model.Aim.{state, formula}
use Rattle.meaning.specs.Run.{asked_of}
use Rattle.meaning.specs.Run.Ending.{attack, upheld}
use Rattle.files.specs.Files.{model_of_lem, trace_of}
use Rattle.files.specs.Known.{GoalCodes}
use Rattle.files.proofs.Aims.{state_in_lem}
use Rattle.files.proofs.Formulas.{codes-formula, codes-state}
use Rattle.closing.specs.Closing.{numbered}
use Rattle.past.specs.Keeping.{Advanced}
use Rattle.past.proofs.Laws.{zeros_remember, advance_agrees}
use Rattle.reaching.specs.Reaching.{aimed, Keeps}

-- At the start zeros are what is kept.
pub keeps_zeros : (A : Aim) → Keeps A [] (replicate 32 0)
keeps_zeros (state G) = tt
keeps_zeros (formula p) = zeros_remember p

module _ (m t : List ℕ) {codes : List ℕ} (goal : GoalCodes m (trace_of t).goal codes) where
  -- What is kept of a history is kept of it with the table's state after it.
  pub keeps-next : {table bits after : List ℕ} {answer : Bool} (h : History) → Keeps (aimed m t) h bits
      → Advanced codes table bits after answer → Keeps (aimed m t) (numbered table ∷ h) after
  keeps-next h k a =
      ⊎_elim (λ l. rw (state_in_lem m (trace_of t).goal l) tt)
      (λ l.
      let f = goal.formula l in
      rw f.aim (advance_agrees h f.whole (omega (arith, f.few)) (rw f.aim at k) a).1)
      (below_or_from (trace_of t).goal (length (model_of_lem m).goals))

  -- Of an attack state the same is asked after every history.
  pub asked-alone : length codes ≤ 0 → (X used : Facts) (h k : History)
      → asked_of (aimed m t) X used h ≡ asked_of (aimed m t) X used k
  unfolding asked_of
  asked-alone none X used h k = rw (state_in_lem m (trace_of t).goal (codes-state goal none))

  -- Of a formula, that it is false after what is kept.
  pub asked-formula : 0 < length codes → {table bits after : List ℕ} {answer : Bool} (used : Facts) (h : History)
      → Keeps (aimed m t) h bits → Advanced codes table bits after answer
      → asked_of (aimed m t) (numbered table) used h ≡ cond answer upheld attack
  unfolding asked_of
  asked-formula some used h k a =
      let f = codes-formula goal some in
      rw f.aim (rw (advance_agrees h f.whole (omega (arith, f.few)) (rw f.aim at k) a).0)
