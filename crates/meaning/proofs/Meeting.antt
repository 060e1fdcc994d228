-- Conditions and goals: the first entry that passes a test, the first unmet condition, and whether a goal is met.
use Prim.Native.Nat.{ℕ}
use native.Mathlib.Omega.{arith}
use mathlib.Core.Path.{◌≡◌, refl, ap}
use mathlib.Core.Logic.{◌↔◌, ◌⊎◌, inl, inr}
use mathlib.Core.Bool.{Bool, true, false, not, not-not}
use mathlib.Core.List.{List, [], ◌∷◌, ◌++◌, map, append-nil, append_assoc}
use mathlib.Core.List.Memᴰ
use mathlib.Core.Option.{Option, none, some, Option-elim}
use lib.Dec.{T}
use Rattle.sets.specs.Sets.{Facts, ◌∈◌}
use Rattle.meaning.specs.Past.{History, truth}
use Rattle.meaning.specs.Model.{Aim}
use Rattle.meaning.specs.Model.Aim.{state, formula}
use Rattle.meaning.specs.Run.{Condition, met, conditions, find, unmet, Ending, asked_of}
use Rattle.meaning.specs.Run.Condition.{positive, negative, unused}
use Rattle.meaning.specs.Published.{Meets, Fresh, AimMet}
use Rattle.meaning.specs.Promises.{FirstUnmet, GoalUnmet}
use Rattle.meaning.specs.Promises.FirstUnmet.{absent, present, in_use_lem}
use Rattle.meaning.specs.Promises.GoalUnmet.{lacks, still_true}
use Rattle.sets.proofs.Laws.{is_true, is_false, passes, fails, by-test, negated, affirmed}

module _ {ℓ} {A : Type ℓ} (p : A → Bool) where
  -- no entry of the list passes
  abbrev pub None : List A → Type ℓ
  None xs = (x : A) → x ∈ xs → T (p x) → ⊥

  -- what is found in the list: no entry, where none passes, or the one that passes with none before it
  abbrev pub FoundIn : List A → Option A → Type ℓ
  FoundIn xs none = None xs
  FoundIn xs (some x) = (before rest : List A) × (xs ≡ before ++ x ∷ rest) × None before × T (p x)

  -- A list with one more entry that fails has no entry that passes either.
  none_more : {y : A} {ys : List A} → p y ≡ false → None ys → None (y ∷ ys)
  none_more e h x m t = elim (Memᴰ.cases_cons m) [ inl i ↦ fails e (rw i at t) | inr k ↦ h x k t ]

  -- find finds the first entry that passes.
  pub find-is : (xs : List A) → FoundIn xs (find p xs)
  unfolding find
  find-is [] = λ x m. absurd (Memᴰ.not-nil m)
  find-is (y ∷ ys) = go (p y) refl (find p ys) (find-is ys)
    where
      go : (b : Bool) → p y ≡ b → (o : Option A) → FoundIn ys o
          → FoundIn (y ∷ ys) (elim b as (λ _. Option A) [ true ↦ some y | false ↦ o ])
      go true e o h = ([], ys, refl, λ x m. absurd (Memᴰ.not-nil m), passes e)
      go false e none h = none_more e h
      go false e (some x) h = (y ∷ h.0, h.1, ap (λ l. y ∷ l) h.2, none_more e h.3, h.4)

  -- Where no entry passes, none is found.
  pub find_none : (xs : List A) → None xs → find p xs ≡ none
  unfolding find
  find_none [] h = refl
  find_none (x ∷ xs) h =
      rw (is_false {b = p x} (h x (Memᴰ.head refl)), find) (find_none xs (λ y m. h y (Memᴰ.tail m)))

  -- The entry that passes, with none before it, is found.
  pub find-some : (before rest : List A) (x : A) → None before → T (p x) → find p (before ++ x ∷ rest) ≡ some x
  unfolding find
  find-some [] rest x h t = rw (is_true {b = p x} t, find)
  find-some (y ∷ ys) rest x h t =
      rw (is_false {b = p y} (h y (Memᴰ.head refl)), find)
      (find-some ys rest x (λ z m. h z (Memᴰ.tail m)) t)

  -- What is found in a list of images and then another is the image of what is found before, or is found in the other.
  pub find-mapped {ℓ'} : {B : Type ℓ'} (g : B → A) (xs : List B) (ys : List A)
      → find p (map g xs ++ ys) ≡ Option-elim (find (λ x. p (g x)) xs) (find p ys) (λ x. some (g x))
  unfolding find Option-elim
  find-mapped g [] ys = refl
  find-mapped g (x ∷ xs) ys = by-test (p (g x)) (λ e. rw (e, find)) (λ e. rw (e, find) (find-mapped g xs ys))

module _ (X used : Facts) (P N names : List ℕ) where
  -- The first unmet condition is the first of P outside X or, where there is none, the first of N inside or, where
  -- there is none either, the first name that is used.
  unmet_split : unmet X used (conditions P N names) ≡ Option-elim (find (λ f. not (X f)) P)
      (Option-elim (find X N) (Option-elim (find used names) none (λ n. some (unused n))) (λ f. some (negative f)))
      (λ f. some (positive f))
  unfolding unmet conditions met
  unmet_split =
      let t : Condition → Bool = λ c. not (met X used c) in
      rw (
        append_assoc,
        find-mapped t positive P,
        find-mapped t negative N,
        ← append-nil (map unused names),
        find-mapped t unused names [],
      ) (simp not-not)

  -- this is the first unmet condition, or it is none and the conditions are met
  abbrev pub Met : Option Condition → Type 0
  Met none = Meets X P N × Fresh used names
  Met (some c) = FirstUnmet X used P N names c

  -- Where no entry of P is outside X and none of N inside, they are met.
  all-met : None (λ f. not (X f)) P → None X N → Meets X P N
  all-met h k = record { positive = λ f m. affirmed (X f) (h f m); negative = k }

  -- What unmet computes is the first unmet condition, or none where the conditions are met.
  pub unmet-is : Met (unmet X used (conditions P N names))
  unfolding Option-elim
  unmet-is =
      rw unmet_split
      (go (find (λ f. not (X f)) P) (find-is (λ f. not (X f)) P) (find X N) (find-is X N) (find used names)
      (find-is used names))
    where
      go : (o : Option ℕ) → FoundIn (λ f. not (X f)) P o → (q : Option ℕ) → FoundIn X N q
          → (u : Option ℕ) → FoundIn used names u
          → Met (Option-elim o (Option-elim q (Option-elim u none (λ n. some (unused n))) (λ f. some (negative f)))
          (λ f. some (positive f)))
      go (some f) h q k u w = absent h.0 h.1 h.2 (λ b m. affirmed (X b) (h.3 b m)) ((negated (X f)).0 h.4)
      go none h (some f) k u w = present (λ b m. affirmed (X b) (h b m)) k.0 k.1 k.2 k.3 k.4
      go none h none k (some n) w = in_use_lem (all-met h k) w.0 w.1 w.2 w.3 w.4
      go none h none k none w = (all-met h k, w)

  -- Where all of a list is in X, no entry is outside.
  none-outside : {L : List ℕ} → ((b : ℕ) → b ∈ L → T (X b)) → None (λ f. not (X f)) L
  none-outside h f m t = (negated (X f)).0 t (h f m)

  -- The first unmet condition is what unmet computes.
  unmet-first : {c : Condition} → FirstUnmet X used P N names c → unmet X used (conditions P N names) ≡ some c
  unfolding Option-elim
  unmet-first (absent {f} before rest e h n) =
      rw (unmet_split, e, find-some (λ f. not (X f)) before rest f (none-outside h) ((negated (X f)).1 n))
  unmet-first (present {f} h before rest e n t) =
      rw (unmet_split, find_none (λ f. not (X f)) P (none-outside h), e, find-some X before rest f n t)
  unmet-first (in_use_lem {n} h before rest e k t) =
      rw (
        unmet_split,
        find_none (λ f. not (X f)) P (none-outside h.positive),
        find_none X N h.negative,
        e,
        find-some used before rest n k t,
      )

  -- Whatever is the first unmet condition, or none, is what unmet computes.
  pub unmet-from : (u : Option Condition) → Met u → unmet X used (conditions P N names) ≡ u
  unfolding Option-elim
  unmet-from none (h, k) =
      rw (
        unmet_split,
        find_none (λ f. not (X f)) P (none-outside h.positive),
        find_none X N h.negative,
        find_none used names k,
      )
  unmet-from (some c) h = unmet-first h

  -- No condition is unmet exactly if the conditions are met.
  pub unmet-none : (unmet X used (conditions P N names) ≡ none) ↔ (Meets X P N × Fresh used names)
  unmet-none = (λ e. rw e at unmet-is, unmet-from none)

  -- A condition is the first unmet one by computation exactly if it is so by its place.
  pub unmet-some : (c : Condition) → (unmet X used (conditions P N names) ≡ some c) ↔ FirstUnmet X used P N names c
  unmet-some c = (λ e. rw e at unmet-is, unmet-from (some c))

  -- A positive condition that is the first unmet one is the first of P outside X.
  pub first_absent : {f : ℕ} → FirstUnmet X used P N names (positive f)
      → (met rest : List ℕ) × (P ≡ met ++ f ∷ rest) × ((b : ℕ) → b ∈ met → T (X b)) × (T (X f) → ⊥)
  first_absent (absent met rest e h n) = (met, rest, e, h, n)

  -- A negative one is the first of N inside X, and all of P is inside.
  pub first-present : {f : ℕ} → FirstUnmet X used P N names (negative f)
      → ((b : ℕ) → b ∈ P → T (X b)) × (met rest : List ℕ) × (N ≡ met ++ f ∷ rest)
      × ((b : ℕ) → b ∈ met → T (X b) → ⊥) × T (X f)
  first-present (present h met rest e n t) = (h, met, rest, e, n, t)

  -- That of a name is the first that is used, and P and N are met.
  pub first_used : {n : ℕ} → FirstUnmet X used P N names (unused n)
      → Meets X P N × (met rest : List ℕ) × (names ≡ met ++ n ∷ rest) × Fresh used met × T (used n)
  first_used (in_use_lem h met rest e k t) = (h, met, rest, e, k, t)

-- what is asked of the last state, by its closure, its names and the closures before
module _ (X used : Facts) (past : History) where
  -- What is met is an attack.
  pub aim-met : (A : Aim) → AimMet X past A → asked_of A X used past ≡ Ending.attack
  unfolding asked_of
  aim-met (state G) h =
      rw (unmet-from X used G.P G.N [] none (h, λ n i. absurd (Memᴰ.not-nil i)), asked_of)
  aim-met (formula p) h = rw (h, asked_of)

  -- What isn't met ends as it says.
  pub aim-unmet : {A : Aim} {e : Ending} → GoalUnmet X used past A e → asked_of A X used past ≡ e
  unfolding asked_of
  aim-unmet (lacks {G} {c} h) = rw (unmet-from X used G.P G.N [] (some c) h, asked_of)
  aim-unmet (still_true h) = rw (h, asked_of)

  -- It is no attack, and no step is blocked.
  pub no_attack : {A : Aim} {e : Ending} → GoalUnmet X used past A e → e ≡ Ending.attack → ⊥
  no_attack (lacks h) i = let n : ◌≡◌ {A = ℕ} 0 1 = cc in omega arith
  no_attack (still_true h) i = let n : ◌≡◌ {A = ℕ} 0 1 = cc in omega arith

  pub not-blocked : {A : Aim} {e : Ending} → GoalUnmet X used past A e → (c : Condition) → e ≡ Ending.blocked c → ⊥
  not-blocked (lacks h) c i = let n : ◌≡◌ {A = ℕ} 0 1 = cc in omega arith
  not-blocked (still_true h) c i = let n : ◌≡◌ {A = ℕ} 0 1 = cc in omega arith

  -- It is met, and that is an attack; or it isn't, and that is what asked_of computes.
  pub aim-is : (A : Aim)
      → ((asked_of A X used past ≡ Ending.attack) × AimMet X past A) ⊎ GoalUnmet X used past A (asked_of A X used past)
  unfolding asked_of
  aim-is (state G) = go (unmet X used (conditions G.P G.N [])) refl (unmet-is X used G.P G.N [])
    where
      go : (u : Option Condition) → unmet X used (conditions G.P G.N []) ≡ u → Met X used G.P G.N [] u
          → ((asked_of (state G) X used past ≡ Ending.attack) × Meets X G.P G.N)
          ⊎ GoalUnmet X used past (state G) (asked_of (state G) X used past)
      go none e h = inl (rw (e, asked_of), h.0)
      go (some c) e h = inr (rw (e, asked_of) (lacks h))
  aim-is (formula p) =
      by-test (truth p (X ∷ past)) (λ e. inr (rw (e, asked_of) (still_true e))) (λ e. inl (rw (e, asked_of), e))
