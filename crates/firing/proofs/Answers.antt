-- The promise of the rules that fire: from each refusal, and from a run.
use Prim.Native.Nat.{ℕ}
use mathlib.Core.Path.{◌≡◌, refl, sym, ap, ap₂, ◌∙◌, fun_ext}
use mathlib.Core.Bool.{Bool, true, false, ◌||◌}
use mathlib.Core.List.{List}
use mathlib.Core.Option.{none, some}
use lib.Dec.{ltb}
use lib.ListN.{length}
use Rattle.meaning.specs.Model.{aims}
use Rattle.meaning.specs.Rounds.{closure}
use Rattle.records.specs.Records.{given, ◌or_else◌}
use Rattle.facts.proofs.Laws.{beyond}
use Rattle.files.specs.Files.{model_of_lem, shape_fault, files_fault, steps_fault}
use Rattle.files.specs.Answers.{counts_of}
use Rattle.files.specs.declared.Counts.{Counts}
use Rattle.files.specs.declared.Part.{Part}
use Rattle.files.proofs.Answers.{Blames}
use Rattle.closing.specs.Closing.{numbered, IndexHolds, Index, no_places_lem}
use Rattle.closing.proofs.Laws.{filled-numbered}
use Rattle.closing.proofs.Alone.{bounded}
use Rattle.stepping.specs.Conditions.{names_in}
use Rattle.reaching.specs.Reaching.{Lent}
use Rattle.checking.specs.Verdict.{no_space_lem}
use Rattle.running.specs.Outcomes.{outcome, Left}
use Rattle.firing.specs.Firing.{fires_by, numbers_of, firing, list_short, rules_refusal, numbers_in}
use Rattle.firing.specs.Firing.{LeftAsChecked, FiresIn, Numbered}
use Rattle.std.specs.Prelude.{Ok, Err}

module _ (m t : List ℕ) (l : Lent) (ix list : List ℕ) where
  -- a refusal changes nothing
  refused : (k : ℕ) → rules_refusal m t l ix list ≡ some k → FiresIn m t l l ix ix list list (Err k)
  unfolding numbers_in LeftAsChecked Index
  refused k e = rw e (record { answers = refl; numbers = refl; buffers = refl; index = refl })

  -- without room
  pub rules-room : no_space_lem l ≡ true → FiresIn m t l l ix ix list list (Err 1)
  unfolding rules_refusal given ◌or_else◌
  rules-room e = refused 1 (rw e)

  module _ (room : no_space_lem l ≡ false) where
    -- for a fault of sizes, versions or the model
    pub rules_files : {k : ℕ} {p : Part} → Blames (files_fault m t) k p
        → FiresIn m t l l ix ix list list (Err k)
    unfolding rules_refusal given ◌or_else◌
    rules_files b = rw b.number_is (refused _ (rw (room, b.is)))

    module _ (files : files_fault m t ≡ none) where
      -- without room for the list or the index
      pub rules-short : (list_short m list || no_places_lem m ix) ≡ true → FiresIn m t l l ix ix list list (Err 1)
      unfolding rules_refusal given ◌or_else◌
      rules-short e = refused 1 (rw (room, files, e))

      module _ (enough : (list_short m list || no_places_lem m ix) ≡ false) where
        -- for a fault of the trace
        pub rules-steps : {k : ℕ} {p : Part}
            → Blames (steps_fault (length (aims (model_of_lem m))) (length (model_of_lem m).rules) t) k p
            → FiresIn m t l l ix ix list list (Err k)
        unfolding rules_refusal given ◌or_else◌
        rules-steps b = rw b.number_is (refused _ (rw (room, files, enough, b.is)))

        -- otherwise by the state that the run leaves
        pub rules-ran : steps_fault (length (aims (model_of_lem m))) (length (model_of_lem m).rules) t ≡ none
            → {after : Lent} {ix' list' : List ℕ} {n : ℕ} → Left (model_of_lem m) (outcome m t) l after
            → IndexHolds (model_of_lem m).clauses ix ix' → Numbered (firing (model_of_lem m) (outcome m t).state) list list' n
            → FiresIn m t l after ix ix' list list' (Ok n)
        unfolding numbers_in LeftAsChecked Index rules_refusal given ◌or_else◌
        rules-ran steps left holds listed =
            let e : rules_refusal m t l ix list ≡ none = rw (room, files, enough, steps) in
            rw e
            (record {
              answers = ap Ok listed.count;
              numbers = listed.entries;
              buffers = left;
              index = holds;
            })

-- The list or the index is short, by a model's counts.
pub short-is : (m list ix : List ℕ) (n : Counts) (r : Bool) → counts_of m ≡ n → r ≡ no_places_lem m ix
    → (ltb (length list) n.rules || r) ≡ (list_short m list || no_places_lem m ix)
unfolding counts_of list_short
short-is m list ix n r counts is =
    ap₂ (λ (a : ℕ) (b : Bool). ltb (length list) a || b) (sym (ap (λ (k : Counts). k.rules) counts)) is

-- The table and the names that a run leaves tell the rules that fire in its last state.
pub told : (m t : List ℕ) → shape_fault m ≡ none → {before after : Lent} → Left (model_of_lem m) (outcome m t) before after
    → {list list' : List ℕ} {n : ℕ}
    → Numbered (numbers_of (fires_by (numbered after.table) (names_in after.names)) 0 (model_of_lem m).rules)
    list list' n
    → Numbered (firing (model_of_lem m) (outcome m t).state) list list' n
unfolding firing
told m t fine {before} {after} left listed =
    let S = (outcome m t).state in
    let closed : numbered after.table ≡ closure (model_of_lem m).clauses S.facts =
    fun_ext (filled-numbered (model_of_lem m).clauses S.facts left.rounds (bounded m fine)
    (λ f h. sym (left.facts f) ∙ beyond 512 after.state f h))
    in
    let used : names_in after.names ≡ S.names = fun_ext left.names in
    rw (closed, used) at listed
