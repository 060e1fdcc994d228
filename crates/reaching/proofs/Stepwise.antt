-- Laws on the search over the steps: it stands before a step, the buffers hold the state reached there, and where the
-- steps lead is where the others lead from there.
use Prim.Native.Nat.{ℕ, ◌+◌, ◌*◌, ◌≤◌, ◌<◌}
use mathlib.Core.Path.{◌≡◌, refl, sym, ap, ◌∙◌, subst, fun_ext}
use mathlib.Core.Bool.{◌||◌, ◌&&◌, not}
use mathlib.Core.List.{List, [], ◌∷◌}
use mathlib.Core.Option.{Option, none, some}
use native.Mathlib.Omega.{arith}
use lib.ListN.{length, get_or, drop}
use Rattle.sets.specs.Sets.{Facts, listed}
use Rattle.meaning.specs.Past.{History}
use Rattle.meaning.specs.Model.{Rule, Model, start, rule_of}
use Rattle.meaning.specs.Rounds.{rounds, closure}
use Rattle.meaning.specs.Run as meant
use Rattle.meaning.specs.Run.{Condition, Reached, unmet_of, reach}
use Rattle.meaning.proofs.Theorems.{rounds-bound, missing_heads-bound}
use Rattle.meaning.proofs.Runs.{ahead, ahead_none, step-fires, step-stops, steps-end}
use Rattle.facts.specs.Facts.{members, Kept}
use Rattle.facts.proofs.Laws.{kept_same, kept_trans, beyond}
use Rattle.files.specs.Files.{model_of_lem, trace_of, shape_fault}
use Rattle.files.proofs.Laws.{clauses-bound}
use Rattle.closing.specs.Closing.{numbered, ClosesUnder}
use Rattle.closing.proofs.Laws.{filled-numbered}
use Rattle.closing.proofs.Alone.{bounded}
use Rattle.stepping.specs.Conditions.{names_in, unmet_in}
use Rattle.stepping.specs.Stepping.{Holds}
use Rattle.reaching.specs.Reaching.{Lent}
use Rattle.reaching.specs.Reaching.{reached, state_in, counted, aimed, Keeps, StepsTo}
use Rattle.reaching.specs.declared.Steps.{Steps}

module _ (m : List ℕ) (fine : shape_fault m ≡ none) where
  -- The facts with a number in the table are the closure.
  pub closure-shown : {state table table' : List ℕ} {n : ℕ} → ClosesUnder (model_of_lem m).clauses state table table' n
      → numbered table' ≡ closure (model_of_lem m).clauses (members state)
  closure-shown {state} c =
      fun_ext (filled-numbered (model_of_lem m).clauses (members state) c.filled (bounded m fine) (beyond 512 state))

  -- A state has few rounds.
  pub rounds-few : (S : Facts) → rounds (model_of_lem m).clauses S ≤ 4096
  rounds-few S =
      let cs = (model_of_lem m).clauses in
      omega (arith, clauses-bound m fine, rounds-bound cs S, missing_heads-bound cs S)

module _ (m t : List ℕ) where
  abbrev M : Model
  M = model_of_lem m

  abbrev ks : List ℕ
  ks = (trace_of t).steps

  -- the search has come to a step, from buffers that it began with, after states with these closures, of which the bits
  -- are kept
  pub record On (before l : Lent) (first bits : List ℕ) (fired total : ℕ) : Type 0 where
    pub past : History
    pub run : reached m t ≡ ahead fired total past (reach M (state_in l) (drop fired ks))
    pub keeps : Keeps (aimed m t) past bits
    pub bits-long : length bits ≡ length first
    pub bound : total ≤ 4096 * fired
    pub within : fired ≤ length ks
    pub kept : Kept 512 before.state l.state
    pub names-kept : Kept 128 before.names l.names
    pub as_long : length l.table ≡ length before.table
    pub beyond : drop 4096 l.table ≡ drop 4096 before.table

  pub on-start : (l : Lent) {bits : List ℕ} → state_in l ≡ start M → Keeps (aimed m t) [] bits → On l l bits bits 0 0
  unfolding reached
  on-start l e k = record {
    past = [];
    run = ahead_none _ ∙ ap (λ S. ahead 0 0 [] (reach M S ks)) (sym e);
    keeps = k;
    bits-long = refl;
    bound = omega arith;
    within = omega arith;
    kept = kept_same _;
    names-kept = kept_same _;
    as_long = refl;
    beyond = refl;
  }

  module _ {before l : Lent} {first bits : List ℕ} {fired total : ℕ} (on : On before l first bits fired total) where
    -- the step's rule
    abbrev pub rule_at : Rule
    rule_at = rule_of M (get_or ks fired 0)

    -- the lists at hand are those of the step's rule
    abbrev pub asked : Option Condition → Type 0
    asked o = unmet_of M (state_in l) rule_at ≡ o

    module _ {table : List ℕ} {n : ℕ} (closed : ClosesUnder M.clauses l.state l.table table n) where
      -- The rule fires.
      pub on-fired : {after : Lent} {later P A K made : List ℕ} → after.table ≡ table → fired < length ks
          → asked none → n ≤ 4096
          → numbered table ≡ closure M.clauses (members l.state)
          → Keeps (aimed m t) (numbered table ∷ on.past) later → length later ≡ length bits
          → P ≡ rule_at.P → A ≡ rule_at.A → made ≡ rule_at.names → K ≡ M.persistent
          → Holds 512 l.state after.state
          (λ g. members l.state g && not (listed P g && not (listed K g)) || listed A g)
          → Holds 128 l.names after.names (λ n. names_in l.names n || listed made n)
          → On before after first later (fired + 1) (total + n)
      unfolding meant.after
      on-fired {after} {later} {P} {A} {K} {made} e h u few shown keeps long p a q k facts names = record {
        past = closure M.clauses (members l.state) ∷ on.past;
        run =
            on.run
            ∙ step-fires M (state_in l) ks fired total on.past h u
            ∙ rw closed.number
            (ap (λ S. ahead (fired + 1) (total + rounds M.clauses (members l.state))
            (closure M.clauses (members l.state) ∷ on.past) (reach M S (drop (fired + 1) ks)))
            (sym next));
        keeps = subst (λ (X : Facts). Keeps (aimed m t) (X ∷ on.past) later) shown keeps;
        bits-long = long ∙ on.bits-long;
        bound = omega (arith, on.bound);
        within = omega arith;
        kept = kept_trans on.kept facts.kept;
        names-kept = kept_trans on.names-kept names.kept;
        as_long = ap length e ∙ closed.filled.as_long ∙ on.as_long;
        beyond = ap (drop 4096) e ∙ closed.filled.beyond ∙ on.beyond;
      }
        where
          next : state_in after ≡ meant.after M.persistent rule_at (state_in l)
          next =
              rw (← p, ← a, ← q, ← k) (λ i. record { facts = fun_ext facts.set i; names = fun_ext names.set i })

      -- A condition of it is not met.
      pub on-stop : {c : Condition} {r : Steps} → fired < length ks → asked (some c) → r.fired ≡ fired
          → r.rounds ≡ total + n
          → unmet_in r.stop ≡ some c → n ≤ 4096
          → StepsTo m t before (record { state = l.state; table = table; names = l.names }) bits r
      unfolding counted
      on-stop {c} {r} h u f s q few =
          let is = on.run ∙ step-stops M (state_in l) ks fired total on.past h u in
          record {
            fired = f ∙ sym (ap (λ (x : Reached). x.fired) is);
            stop = q ∙ sym (ap (λ (x : Reached). x.stop) is);
            rounds = s ∙ rw (is, closed.number);
            facts = λ g. sym (ap (λ (x : Reached). x.state.facts g) is);
            kept = on.kept;
            names = λ g. sym (ap (λ (x : Reached). x.state.names g) is);
            names-kept = on.names-kept;
            as_long = closed.filled.as_long ∙ on.as_long;
            beyond = closed.filled.beyond ∙ on.beyond;
            filled = λ _ _. rw is (record {
              as_long = closed.filled.as_long ∙ on.as_long;
              entries = closed.filled.entries;
              beyond = closed.filled.beyond ∙ on.beyond;
            });
            keeps = rw is on.keeps;
            within = omega arith;
            bound = omega (arith, on.bound);
          }

    -- No step is left.
    pub on-end : {r : Steps} → length ks ≤ fired → r.fired ≡ fired → r.rounds ≡ total → unmet_in r.stop ≡ none
        → StepsTo m t before l bits r
    unfolding counted
    on-end {r} h f s q =
        let is = on.run ∙ steps-end M (state_in l) ks fired total on.past h in
        record {
          fired = f ∙ sym (ap (λ (x : Reached). x.fired) is);
          stop = q ∙ sym (ap (λ (x : Reached). x.stop) is);
          rounds = s ∙ rw is;
          facts = λ g. sym (ap (λ (x : Reached). x.state.facts g) is);
          kept = on.kept;
          names = λ g. sym (ap (λ (x : Reached). x.state.names g) is);
          names-kept = on.names-kept;
          as_long = on.as_long;
          beyond = on.beyond;
          filled = λ c e. absurd (none-some (sym (ap (λ (x : Reached). x.stop) is) ∙ e));
          keeps = rw is on.keeps;
          within = omega (arith, on.within);
          bound = omega (arith, on.bound);
        }
      where
        none-some : {c : Condition} → none ≡ some c → ⊥
        none-some e = let z : ◌≡◌ {A = ℕ} 0 1 = cc in omega arith
