-- Laws for code that runs: the steps from one of their states on, states below F, conditions by their index, and goals
-- by their number.
use Prim.Native.Nat.{ℕ, zero, suc, ◌+◌, ◌-◌, ◌≤◌, ◌<◌}
use native.Mathlib.Nat.{zero-add, add-zero, add-suc, suc-add, add_assoc, add-sub_of_le}
use native.Mathlib.Numerals.{add-one}
use native.Mathlib.Omega.{arith}
use mathlib.Core.Path.{◌≡◌, refl, sym, ◌∙◌, ap}
use mathlib.Core.Logic.{inl, inr}
use mathlib.Core.Bool.{Bool, true, false}
use mathlib.Core.List.Memᴰ
use mathlib.Core.List.{List, [], ◌∷◌, ◌++◌, map, append-nil, append_assoc}
use mathlib.Core.Option.{Option, none, some}
use lib.ListN.{length, get_or, drop, drop_of_length-le, length-append, length-map, get_or-append}
use lib.Seq.{drop-cons, get_or-append-add}
use Rattle.sets.specs.Sets.{Facts, listed, ◌∈◌}
use Rattle.meaning.specs.Past.{Formula, History}
use Rattle.meaning.specs.Model.{Rule, Goal, Model, Trace, State, rule_of, aims, aim_of, start}
use Rattle.meaning.specs.Model.Aim.{state, formula}
use Rattle.meaning.specs.Rounds.{rounds}
use Rattle.meaning.specs.Run.{Condition, conditions, find, unmet_of, after}
use Rattle.meaning.specs.Run.{Reached, stays, onward, reach, outcome_of, run}
use Rattle.meaning.specs.Run.Condition.{positive, negative, unused}
use Rattle.sets.proofs.Laws.{is_false, fails, by-test, listed-is}
use Rattle.meaning.proofs.Reaching.{after_rule, after_is, closed}

-- ---- the steps, from one of their states on

-- i steps more fire before, from states with n rounds and these closures
unfoldable pub ahead : ℕ → ℕ → History → Reached → Reached
ahead i n h r = record {
  fired = i + r.fired;
  earlier = n + r.earlier;
  past = r.past ++ h;
  state = r.state;
  stop = r.stop;
}

-- At the start nothing is ahead.
pub ahead_none : (r : Reached) → r ≡ ahead 0 0 [] r
unfolding ahead
ahead_none r = rw (zero-add r.fired, zero-add r.earlier, append-nil r.past)

-- One step more after those ahead is one more ahead.
ahead-onward : (i n k : ℕ) (h : History) (X : Facts) (r : Reached)
    → ahead i n h (onward k X r) ≡ ahead (i + 1) (n + k) (X ∷ h) r
unfolding ahead onward
ahead-onward i n k h X r =
    rw (add_assoc n k r.earlier, add-one i, suc-add i r.fired, add-suc i r.fired, append_assoc r.past)

-- One step more before those ahead is one more ahead.
pub onward-ahead : (i n k : ℕ) (h : History) (X : Facts) (r : Reached)
    → onward k X (ahead i n h r) ≡ ahead (suc i) (k + n) (h ++ X ∷ []) r
unfolding ahead onward
onward-ahead i n k h X r = rw (add_assoc k n r.earlier, suc-add i r.fired, append_assoc r.past)

-- Where no step fires, those ahead are all.
ahead-stays : (i n : ℕ) (h : History) (S : State) (c : Option Condition)
    → ahead i n h (stays S c) ≡ record { fired = i; earlier = n; past = h; state = S; stop = c }
unfolding ahead stays
ahead-stays i n h S c = rw (add-zero i, add-zero n)

module _ (m : Model) where
  -- A rule with no condition unmet fires.
  pub reach-fires : (S : State) (k : ℕ) (ks : List ℕ) → unmet_of m S (rule_of m k) ≡ none
      → reach m S (k ∷ ks) ≡ onward (rounds m.clauses S.facts) (closed m S) (reach m (after_rule m k S) ks)
  unfolding reach
  reach-fires S k ks e = rw (e, reach)

  module _ (S : State) (ks : List ℕ) (i n : ℕ) (past : History) where
    -- Where all conditions of step i are met it fires.
    pub step-fires : i < length ks → unmet_of m S (rule_of m (get_or ks i 0)) ≡ none
        → ahead i n past (reach m S (drop i ks))
        ≡ ahead (i + 1) (n + rounds m.clauses S.facts) (closed m S ∷ past)
        (reach m (after_rule m (get_or ks i 0) S) (drop (i + 1) ks))
    step-fires h e =
        rw (drop-cons ks i 0 h, reach-fires S (get_or ks i 0) (drop (suc i) ks) e, ahead-onward i n, add-one i)

    -- A condition that is unmet stops the run at step i.
    pub step-stops : i < length ks → {c : Condition} → unmet_of m S (rule_of m (get_or ks i 0)) ≡ some c
        → ahead i n past (reach m S (drop i ks))
        ≡ record { fired = i; earlier = n; past = past; state = S; stop = some c }
    unfolding reach
    step-stops h {c} e = rw (drop-cons ks i 0 h, e, reach) (ahead-stays i n past S (some c))

    -- After the last step the run goes no further.
    pub steps-end : length ks ≤ i
        → ahead i n past (reach m S (drop i ks))
        ≡ record { fired = i; earlier = n; past = past; state = S; stop = none }
    unfolding reach
    steps-end h = rw (drop_of_length-le ks h) (ahead-stays i n past S none)

-- ---- states below F

-- no fact of F or more is in the set
unfoldable pub Below : ℕ → Facts → Type 0
Below F X = (f : ℕ) → F ≤ f → X f ≡ false

-- The set of a list of facts below F is below F.
pub listed_below : (F : ℕ) (xs : List ℕ) → ((f : ℕ) → f ∈ xs → f < F) → Below F (listed xs)
unfolding Below
listed_below F xs h f l = is_false (λ i. omega (arith, h f ((listed-is xs f).0 i)))

-- A rule that adds facts below F leaves a state below F.
pub after-below : (F : ℕ) (kept : List ℕ) (r : Rule) (S : State) → ((f : ℕ) → f ∈ r.A → f < F)
    → Below F S.facts → Below F (after kept r S).facts
unfolding Below
after-below F kept r S h s f l = is_false (λ t. elim (((after_is kept r S).facts f).0 t) [
  | inl k ↦ fails (s f l) k.0
  | inr m ↦ omega (arith, h f m)
])

-- The last state that is reached from one below F is below F, if all rules add facts below F.
pub reach-below : (m : Model) (F : ℕ) → ((k f : ℕ) → f ∈ (rule_of m k).A → f < F)
    → (S : State) (ks : List ℕ) → Below F S.facts → Below F (reach m S ks).state.facts
unfolding reach stays onward
reach-below m F h S [] s = s
reach-below m F h S (k ∷ ks) s =
    let S' = after_rule m k S in
    go (unmet_of m S (rule_of m k)) refl (reach-below m F h S' ks (after-below F m.persistent (rule_of m k) S (h k) s))
  where
    go : (u : Option Condition) → unmet_of m S (rule_of m k) ≡ u
        → Below F (reach m (after_rule m k S) ks).state.facts
        → Below F (reach m S (k ∷ ks)).state.facts
    go none e b = rw (e, reach) b
    go (some c) e b = rw (e, reach) s

-- The last state of a run is below F, if the initial facts are too.
pub run-below : (m : Model) (t : Trace) → ((f : ℕ) → f ∈ m.initial → f < m.F)
    → ((k f : ℕ) → f ∈ (rule_of m k).A → f < m.F) → Below m.F (run m t).state.facts
unfolding run outcome_of start
run-below m t i h = reach-below m m.F h (start m) t.steps (listed_below m.F m.initial i)

-- ---- conditions by their index

module _ {ℓ} {A : Type ℓ} (p : A → Bool) (xs : List A) (i : ℕ) (d : A) where
  -- The first entry, from i on, that passes is entry i if that passes.
  pub find-here : i < length xs → p (get_or xs i d) ≡ true → find p (drop i xs) ≡ some (get_or xs i d)
  unfolding find
  find-here h e = rw (drop-cons xs i d h, e, find)

  -- If it fails, it is the first one from the next on.
  pub find-later : i < length xs → p (get_or xs i d) ≡ false → find p (drop i xs) ≡ find p (drop (i + 1) xs)
  unfolding find
  find-later h e = rw (drop-cons xs i d h, add-one i, e, find)

-- After the last entry there is none.
pub find-end {ℓ} : {A : Type ℓ} (p : A → Bool) (xs : List A) (i : ℕ) → length xs ≤ i → find p (drop i xs) ≡ none
unfolding find
find-end p xs i h = rw (drop_of_length-le xs h)

-- Two tests that agree on all entries find the same.
pub find-same {ℓ} : {A : Type ℓ} (p q : A → Bool) (xs : List A) → ((x : A) → x ∈ xs → p x ≡ q x)
    → find p xs ≡ find q xs
unfolding find
find-same p q [] h = refl
find-same p q (x ∷ xs) h =
    by-test (q x) (λ e. rw (h x (Memᴰ.head refl), e, find))
    (λ e. rw (h x (Memᴰ.head refl), e, find) (find-same p q xs (λ y m. h y (Memᴰ.tail m))))

-- An image stands where its entry does.
image_at : {A B : Type 0} (g : A → B) (xs : List A) (i : ℕ) (d : B) (a : A) → i < length xs
    → get_or (map g xs) i d ≡ g (get_or xs i a)
image_at g [] i d a h = absurd (omega arith)
image_at g (x ∷ xs) zero d a h = refl
image_at g (x ∷ xs) (suc i) d a h = image_at g xs i d a (omega arith)

-- What stands after a list stands so much later.
back_at {ℓ} : {A : Type ℓ} (xs ys : List A) (i : ℕ) (d : A) → length xs ≤ i
    → get_or (xs ++ ys) i d ≡ get_or ys (i - length xs) d
back_at xs ys i d h =
    ap (λ j. get_or (xs ++ ys) j d) (sym (add-sub_of_le h)) ∙ get_or-append-add xs ys (i - length xs) d

module _ (P N names : List ℕ) where
  -- There are as many conditions as entries of P, N and the names.
  pub length-conditions : length (conditions P N names) ≡ length P + length N + length names
  unfolding conditions
  length-conditions = simp (length-append, length-map)

  module _ (i : ℕ) (d : Condition) where
    -- The first ones are those of P.
    pub positive-at : i < length P → get_or (conditions P N names) i d ≡ positive (get_or P i 0)
    unfolding conditions
    positive-at h =
        rw append_assoc
        (get_or-append (map positive P) _ d i (rw (length-map P positive) h) ∙ image_at positive P i d 0 h)

    -- After them come those of N.
    pub negative-at : length P ≤ i → i < length P + length N
        → get_or (conditions P N names) i d ≡ negative (get_or N (i - length P) 0)
    unfolding conditions
    negative-at h l =
        let after : length (map positive P) ≤ i = rw (length-map P positive) h in
        rw (append_assoc, back_at (map positive P), length-map P positive)
        (get_or-append (map negative N) _ d (i - length P) (rw (length-map N negative) (omega arith))
        ∙ image_at negative N (i - length P) d 0 (omega arith))

    -- At last come the names.
    pub unused-at : length P + length N ≤ i → i < length P + length N + length names
        → get_or (conditions P N names) i d ≡ unused (get_or names (i - (length P + length N)) 0)
    unfolding conditions
    unused-at h l =
        let before = map positive P ++ map negative N in
        let size : length before ≡ length P + length N = simp (length-append, length-map) in
        back_at before (map unused names) i d (rw size h)
        ∙ ap (λ j. get_or (map unused names) (i - j) d) size
        ∙ image_at unused names (i - (length P + length N)) d 0 (omega arith)

-- ---- goals by their number

module _ (m : Model) where
  -- There are as many goals as attack states and formulas.
  pub length-aims : length (aims m) ≡ length m.goals + length m.formulas
  unfolding aims
  length-aims = simp (length-append, length-map)

  module _ (g : ℕ) where
    -- The first ones are the attack states.
    pub state-at : (d : Goal) → g < length m.goals → aim_of m g ≡ state (get_or m.goals g d)
    unfolding aim_of
    state-at d h =
        get_or-append (map state m.goals) _ _ g (rw (length-map m.goals state) h)
        ∙ image_at state m.goals g _ d h

    -- After them come the formulas.
    pub formula-at : (d : Formula) → length m.goals ≤ g → g < length (aims m)
        → aim_of m g ≡ formula (get_or m.formulas (g - length m.goals) d)
    unfolding aim_of
    formula-at d h l =
        let after : length (map state m.goals) ≤ g = rw (length-map m.goals state) h in
        rw (back_at (map state m.goals), length-map m.goals state)
        (image_at formula m.formulas (g - length m.goals) _ d (omega (arith, length-aims)))
