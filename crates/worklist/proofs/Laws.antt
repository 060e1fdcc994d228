-- What closing by the index gives, for the crates above.
use Prim.Native.Nat.{ℕ, ◌≤◌, ◌<◌}
use mathlib.Core.Path.{◌≡◌, refl, sym, ap, ◌∙◌, fun_ext}
use mathlib.Core.Logic.{◌↔◌, ⊎_elim, inl, inr}
use mathlib.Core.Bool.{Bool, true, false, cond}
use mathlib.Core.List.{List}
use mathlib.Core.Option.{none}
use native.Mathlib.Omega.{arith}
use lib.Dec.{eqb}
use lib.ListN.{length, get_or, drop, replicate, length-replicate, get_or-replicate, get_or-eq_default}
use borrow.Author.Tests.{lt-ltb, le-ltb, eqb-true}
use Rattle.sets.specs.Sets.{Facts}
use Rattle.sets.proofs.Laws.{fails, by-test, below_or_from}
use Rattle.meaning.specs.Model.{Clause}
use Rattle.meaning.specs.Worklist.{places_in, steps}
use Rattle.meaning.specs.Working.{Known}
use Rattle.meaning.proofs.Early.{stored-rounds, stored-shown, stored-crossings, none-rounds, none-shown, none-sooner}
use Rattle.meaning.proofs.Theorems.{worked-crossings, steps_are_crossings}
use Rattle.lists.proofs.Sorted.{ascending-once}
use Rattle.sections.specs.declared.Role.{Role}
use Rattle.files.specs.Files.{section_of, model_of_lem, shape_fault}
use Rattle.files.proofs.Laws.{facts-bound, clauses-cut, clauses-bound, clause-below, clause-body}
use Rattle.worklist.specs.Working.{state_in, Begun, Judged, WorksFor, Works}
use Rattle.worklist.specs.Arrays.{number_in}
use Rattle.worklist.specs.declared.Worked.{Worked}

-- An array of zeros has 0 everywhere.
pub zeros_at : (n k : ℕ) → ◌≡◌ {A = ℕ} (get_or (replicate n 0) k 0) 0
zeros_at n k =
    ⊎_elim (λ h. get_or-replicate n k 0 0 h)
    (λ h. get_or-eq_default (replicate n 0) 0 (rw length-replicate h)) (below_or_from k n)

-- Closing from a table that tells the same state, and is the same beyond its numbers.
pub closes_from : {cs : List Clause} {S R : Facts} {g : ℕ} {before begun after : List ℕ} {r : Worked} → R ≡ S
    → length begun ≡ length before → drop 4096 begun ≡ drop 4096 before → WorksFor cs R g begun after r
    → WorksFor cs S g before after r
closes_from {cs} {S} {R} {g} {before} {begun} {after} {r} same long beyond c =
    let done : WorksFor cs S g begun after r = rw same at c in
    record {
      rounds = done.rounds;
      crossings = done.crossings;
      as_long = done.as_long ∙ long;
      entries = done.entries;
      beyond = done.beyond ∙ beyond;
    }

-- ---- the fact asked for

module _ {table : List ℕ} (b : Begun table) (g : ℕ) where
  -- It has the number 0 exactly if it is stored.
  zero-stored : (number_in table g ≡ 0) ↔ (state_in table g ≡ true)
  unfolding state_in number_in
  zero-stored = elim (below_or_from g 4096) [
    | inl h ↦ rw (lt-ltb g 4096 h)
        (λ e. let z : get_or table g 0 ≡ 0 = e in rw z, λ e. eqb-true (get_or table g 0) 0 e)
    | inr h ↦ rw (le-ltb g 4096 h) (λ e. absurd (omega arith), λ e. absurd (fails (sym e) tt))
  ]

  -- Where it is, the table stays as it is.
  pub closes_stored : {cs : List Clause} → number_in table g ≡ 0
      → WorksFor cs (state_in table) g table table (record { rounds = 0; crossings = 0 })
  closes_stored {cs} e =
      let stored = zero-stored.0 e in
      record {
        rounds = sym (stored-rounds cs (state_in table) stored);
        crossings = sym (stored-crossings cs (state_in table) stored);
        as_long = refl;
        entries = λ f h. b.entries f h ∙ sym (stored-shown cs (state_in table) stored f);
        beyond = refl;
      }

  -- Where it isn't, it is to be looked for.
  pub not-stored : (number_in table g ≡ 0 → ⊥) → state_in table g ≡ false
  not-stored n = by-test (state_in table g) (λ e. absurd (n (zero-stored.1 e))) (λ e. e)

-- Closing for a number that is no fact's is full closing.
pub works-all : {cs : List Clause} {S : Facts} → Known cs S → (g : ℕ) → 4096 ≤ g → {before after : List ℕ} {r : Worked}
    → WorksFor cs S g before after r → Works cs S before after r
works-all {cs} known g l c = record {
  rounds = c.rounds ∙ none-rounds known g l;
  crossings = c.crossings ∙ ap (λ X. places_in X cs) (fun_ext (none-sooner known g l));
  as_long = c.as_long;
  entries = λ f h. c.entries f h ∙ none-shown known g l f;
  beyond = c.beyond;
}

-- ---- a table that holds round 0 of a state

module _ (table : List ℕ) {S : Facts} (entries : (f : ℕ) → f < 4096 → get_or table f 0 ≡ cond (S f) 0 65535)
    (low : (f : ℕ) → 4096 ≤ f → S f ≡ false) where
  -- It tells the state, ..
  pub state-is : state_in table ≡ S
  unfolding state_in
  state-is =
      fun_ext (λ f. ⊎_elim (λ h. rw (lt-ltb f 4096 h, entries f h) (zero_is (S f))) (λ h. rw (le-ltb f 4096 h, low f h))
      (below_or_from f 4096))
    where
      zero_is : (b : Bool) → eqb (cond b 0 65535) 0 ≡ b
      zero_is true = refl
      zero_is false = refl

  -- .. and closing may begin.
  pub begun-from : 4096 ≤ length table → Begun table
  begun-from room = record { room = room; entries = λ f h. rw state-is (entries f h) }

-- ---- a judged model

-- What judging has shown of a model's clauses, for a state without facts from 4,096 on.
pub judged-model : (m : List ℕ) → shape_fault m ≡ none → {S : Facts} → ((f : ℕ) → 4096 ≤ f → S f ≡ false)
    → Judged (section_of m Role.Clauses) S
unfolding model_of_lem
judged-model m fine low = record {
  cut = clauses-cut m fine;
  known = record {
    count = clauses-bound m fine;
    heads = λ c i. omega (arith, facts-bound m fine, (clause-below m fine c i).0);
    bodies = λ c i b j. omega (arith, facts-bound m fine, (clause-below m fine c i).1 b j);
    once = λ c i. ascending-once c.body (clause-body m fine c i).1;
    state = low;
  };
  short = λ c i. (clause-body m fine c i).0;
}

-- ---- the crossings

-- The crossings are the steps of the worklist as defined.
pub crossings-steps : {cs : List Clause} {S : Facts} → Known cs S → {before after : List ℕ} {r : Worked}
    → Works cs S before after r → r.crossings ≡ length (steps cs S)
crossings-steps {cs} {S} known c = c.crossings ∙ sym (worked-crossings known) ∙ steps_are_crossings cs S
