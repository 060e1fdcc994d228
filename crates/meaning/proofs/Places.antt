-- Body places: what one fact more adds to a count of them, a fact's entries, the index's length; the facts below a
-- number, and lists that repeat nothing.
use Prim.Native.Nat.{ℕ, zero, suc, ◌+◌, ◌≤◌, ◌<◌}
use native.Mathlib.Nat.{zero-add, add-zero, eq-or-lt_of_le}
use native.Mathlib.Omega.{arith}
use native.Mathlib.Bridge.{le_prop}
use mathlib.Core.Path.{◌≡◌, refl, sym, ◌∙◌}
use mathlib.Core.Logic.{◌↔◌, inl, inr, ∥∥₁_elim}
use mathlib.Core.HLevel.{⊥_prop, ¬_prop}
use mathlib.Core.Bool.{true, false, cond}
use mathlib.Core.List.Pairwise
use mathlib.Core.List.{List, [], ◌∷◌, ◌++◌, Nodup, Nodup-nil, Nodup-cons, Pairwise}
use mathlib.Core.List.{Pairwise-append, Pairwise-singleton}
use mathlib.Core.List.Memᴰ
use mathlib.Core.List.{append-nil}
use lib.Dec.{T, eqb, ltb, eqb→eq, eqb_refl, ltb→lt, lt→ltb}
use lib.ListN.{length, length-append, get_or-eq_default}
use Rattle.sets.specs.Sets.{Facts, any, listed, ◌∈◌}
use Rattle.meaning.specs.Model.{Clause}
use Rattle.meaning.specs.Worklist.{entries_from_lem, index_below_lem, body_places, among, places_in, stored}
use Rattle.meaning.specs.Working.{clause_at}
use Rattle.sets.proofs.Laws.{is_true, is_false, passes, fails, by-test, same_test, listed-is, below_or_from, get_or_in}
use Rattle.meaning.proofs.Counting.{different_le_length, different-is}

-- A list repeats nothing exactly if its head stands nowhere after it and the rest repeats nothing.
pub once_cons : {f : ℕ} {fs : List ℕ} → Nodup (f ∷ fs) ↔ ((f ∈ fs → ⊥) × Nodup fs)
once_cons = (
  λ u. (λ m. (Nodup-cons.0 u).0 ∣ m ∣₁, (Nodup-cons.0 u).1),
  λ (n, u). Nodup-cons.1 (λ m. ∥∥₁_elim m ⊥_prop n, u),
)

-- A list is empty or not.
pub by-list {ℓ} : {C : Type ℓ} (xs : List ℕ) → (xs ≡ [] → C) → ((y : ℕ) (ys : List ℕ) → xs ≡ y ∷ ys → C) → C
by-list [] h k = h refl
by-list (y ∷ ys) h k = k y ys refl

-- A fact of a list passes its test, ..
pub listed_in : (fs : List ℕ) (f : ℕ) → f ∈ fs → listed fs f ≡ true
listed_in fs f m = is_true ((listed-is fs f).1 m)

-- .. and any other doesn't.
pub listed_out : (fs : List ℕ) (f : ℕ) → (f ∈ fs → ⊥) → listed fs f ≡ false
listed_out fs f n = is_false (λ t. n ((listed-is fs f).0 t))

-- ---- counts

-- Y is X with the fact f more
abbrev pub Adds : Facts → ℕ → Facts → Type 0
Adds X f Y = (X f ≡ false) × (Y f ≡ true) × ((b : ℕ) → (b ≡ f → ⊥) → Y b ≡ X b)

-- A list with one fact more at its end is such a set.
pub listed-adds : (fs : List ℕ) (f : ℕ) → (f ∈ fs → ⊥) → Adds (listed fs) f (listed (fs ++ f ∷ []))
listed-adds fs f n =
    let more = listed-is (fs ++ f ∷ []) in (
      listed_out fs f n,
      listed_in (fs ++ f ∷ []) f (Memᴰ.append_right fs (Memᴰ.head refl)),
      λ b ne. same_test
          (λ t. elim (Memᴰ.append_cases fs ((more b).0 t)) [
            | inl m ↦ (listed-is fs b).1 m
            | inr m ↦ absurd (ne (Memᴰ.eq_of_singleton m))
          ])
          (λ t. (more b).1 (Memᴰ.append_left (f ∷ []) ((listed-is fs b).0 t))),
    )

-- One fact more adds 1 to the count of a list that has it and repeats nothing.
pub among-adds : (X Y : Facts) (f : ℕ) → Adds X f Y → (bs : List ℕ) → Nodup bs
    → among Y bs ≡ cond (listed bs f) 1 0 + among X bs
unfolding among listed any
among-adds X Y f a [] u = refl
among-adds X Y f a (b ∷ bs) u =
    let (n, v) = once_cons.0 u in
    let rest = among-adds X Y f a bs v in
    by-test (eqb f b)
    (λ e.
    let i : f ≡ b = eqb→eq f b (passes e) in
    let none : listed bs f ≡ false = listed_out bs f (λ m. n (Memᴰ.cast (sym i) m)) in
    let x : X b ≡ false = rw i at a.0 in
    let y : Y b ≡ true = rw i at a.1 in
    rw (e, x, y) (omega (arith, rw none at rest)))
    (λ e. rw (e, a.2 b (λ i. fails e (rw i (eqb_refl f)))) (omega (arith, rest)))

-- One fact more adds its entries to the count of places.
pub places-add : (X Y : Facts) (f : ℕ) → Adds X f Y → (j : ℕ) (cs : List Clause)
    → ((c : Clause) → c ∈ cs → Nodup c.body) → places_in Y cs ≡ length (entries_from_lem j cs f) + places_in X cs
unfolding places_in entries_from_lem
places-add X Y f a j [] u = refl
places-add X Y f a j (c ∷ cs) u =
    let here = among-adds X Y f a c.body (u c (Memᴰ.head refl)) in
    let rest = places-add X Y f a (suc j) cs (λ d m. u d (Memᴰ.tail m)) in
    by-test (listed c.body f)
    (λ e. rw e (omega (arith, rw e at here, rest)))
    (λ e. rw e (omega (arith, rw e at here, rest)))

-- A count is at most the list's length, ..
pub among_le : (X : Facts) (bs : List ℕ) → among X bs ≤ length bs
unfolding among
among_le X [] = omega arith
among_le X (b ∷ bs) =
    let rest = among_le X bs in
    by-test (X b) (λ e. rw e (omega arith)) (λ e. rw e (omega arith))

-- .. and is it where the set has all of the list.
pub among-all : (X : Facts) (bs : List ℕ) → ((b : ℕ) → b ∈ bs → T (X b)) → among X bs ≡ length bs
unfolding among
among-all X [] h = refl
among-all X (b ∷ bs) h =
    let here = is_true {b = X b} (h b (Memᴰ.head refl)) in
    rw here (omega (arith, among-all X bs (λ x m. h x (Memᴰ.tail m))))

-- A count is 0 exactly if the set has none of the list.
pub among_none : (X : Facts) (bs : List ℕ) → (among X bs ≡ 0) ↔ ((b : ℕ) → b ∈ bs → X b ≡ false)
unfolding among
among_none X [] = (λ e b m. absurd (Memᴰ.not-nil m), λ h. refl)
among_none X (b ∷ bs) =
    let rest = among_none X bs in (
      λ e x m. by-test (X b) (λ i. absurd (omega (arith, rw i at e))) (λ i. elim (Memᴰ.cases_cons m) [
        | inl k ↦ rw k i
        | inr k ↦ rest.0 (omega (arith, rw i at e)) x k
      ]),
      λ h. rw (h b (Memᴰ.head refl)) (omega (arith, rest.1 (λ x m. h x (Memᴰ.tail m)))),
    )

-- The places in a set are at most the body places, ..
pub places_le : (X : Facts) (cs : List Clause) → places_in X cs ≤ body_places cs
unfolding places_in body_places
places_le X [] = omega arith
places_le X (c ∷ cs) = omega (arith, among_le X c.body, places_le X cs)

-- .. and all of them where the set has every body fact.
places-all : (X : Facts) (cs : List Clause) → ((c : Clause) → c ∈ cs → (b : ℕ) → b ∈ c.body → T (X b))
    → places_in X cs ≡ body_places cs
unfolding places_in body_places
places-all X [] h = refl
places-all X (c ∷ cs) h =
    omega (arith, among-all X c.body (h c (Memᴰ.head refl)), places-all X cs (λ d m. h d (Memᴰ.tail m)))

-- An empty set has none of them.
pub places-none : (X : Facts) (cs : List Clause) → ((f : ℕ) → X f ≡ false) → places_in X cs ≡ 0
unfolding places_in
places-none X [] h = refl
places-none X (c ∷ cs) h = omega (arith, (among_none X c.body).1 (λ b m. h b), places-none X cs h)

-- The index of the facts below n has as many entries as there are places of such facts.
index_below : (n : ℕ) (cs : List Clause) → ((c : Clause) → c ∈ cs → Nodup c.body)
    → length (index_below_lem n cs) ≡ places_in (λ f. ltb f n) cs
unfolding index_below_lem
index_below zero cs u = sym (places-none (λ f. ltb f 0) cs (λ f. is_false (λ t. let l = ltb→lt f 0 t in omega arith)))
index_below (suc n) cs u =
    let adds : Adds (λ f. ltb f n) n (λ f. ltb f (suc n)) = (
      is_false (λ t. let l = ltb→lt n n t in omega arith),
      is_true (lt→ltb n (suc n) (omega arith)),
      λ b ne. same_test
          (λ t. let l = ltb→lt b (suc n) t in let k : b ≡ n → ⊥ = ne in lt→ltb b n (omega arith))
          (λ t. let l = ltb→lt b n t in lt→ltb b (suc n) (omega arith)),
    ) in
    let more = places-add (λ f. ltb f n) (λ f. ltb f (suc n)) n adds 0 cs u in
    omega (arith, length-append (index_below_lem n cs) (entries_from_lem 0 cs n), index_below n cs u)

-- The index has an entry for each body place, where every body fact is below n and no body repeats one.
pub index_is : (n : ℕ) (cs : List Clause) → ((c : Clause) → c ∈ cs → Nodup c.body)
    → ((c : Clause) → c ∈ cs → (b : ℕ) → b ∈ c.body → b < n) → length (index_below_lem n cs) ≡ body_places cs
index_is n cs u h = index_below n cs u ∙ places-all (λ f. ltb f n) cs (λ c m b i. lt→ltb b n (h c m b i))

-- ---- entries

-- An entry is no smaller than the first clause's number.
entry-from : (j : ℕ) (cs : List Clause) (f k : ℕ) → k ∈ entries_from_lem j cs f → j ≤ k
unfolding entries_from_lem
entry-from j [] f k m = absurd (Memᴰ.not-nil m)
entry-from j (c ∷ cs) f k m =
    let later : k ∈ entries_from_lem (suc j) cs f → j ≤ k = λ i. let l = entry-from (suc j) cs f k i in omega arith in
    by-test (listed c.body f)
    (λ e. elim (Memᴰ.cases_cons (rw e at m)) [ inl i ↦ omega arith | inr i ↦ later i ])
    (λ e. later (rw e at m))

-- Entries ascend, ..
pub entries_ascend : (j : ℕ) (cs : List Clause) (f : ℕ) → Pairwise ◌<◌ (entries_from_lem j cs f)
unfolding entries_from_lem
entries_ascend j [] f = Pairwise.nil
entries_ascend j (c ∷ cs) f =
    let rest = entries_ascend (suc j) cs f in
    by-test (listed c.body f)
    (λ e. rw e (Pairwise.cons (λ k m. ∥∥₁_elim m le_prop (entry-from (suc j) cs f k)) rest))
    (λ e. rw e rest)

-- .. so that they repeat nothing.
pub entries-once : (j : ℕ) (cs : List Clause) (f : ℕ) → Nodup (entries_from_lem j cs f)
entries-once j cs f = Pairwise.imp (λ a b l e. omega arith) (entries_ascend j cs f)

-- A clause's number is among a fact's entries exactly if its body has the fact: where the first one's is j, ..
entry-is : (j : ℕ) (cs : List Clause) (f i : ℕ)
    → listed (entries_from_lem j cs f) (j + i) ≡ listed (clause_at cs i).body f
unfolding entries_from_lem listed any
entry-is j [] f i = refl
entry-is j (c ∷ cs) f zero =
    let none : listed (entries_from_lem (suc j) cs f) j ≡ false =
    listed_out _ j (λ m. let l = entry-from (suc j) cs f j m in omega arith)
    in
    let here = is_true {b = eqb j j} (eqb_refl j) in
    by-test (listed c.body f) (λ e. rw (e, add-zero, here)) (λ e. rw (e, add-zero, none))
entry-is j (c ∷ cs) f (suc i) =
    let shift : suc j + i ≡ j + suc i = omega arith in
    let rest = rw shift at (entry-is (suc j) cs f i) in
    let later : eqb (j + suc i) j ≡ false = is_false (λ t. let e = eqb→eq (j + suc i) j t in omega arith) in
    by-test (listed c.body f) (λ e. rw (e, later) rest) (λ e. rw e rest)

-- .. and where it is 0.
pub entries_are : (cs : List Clause) (f k : ℕ) → listed (entries_from_lem 0 cs f) k ≡ listed (clause_at cs k).body f
entries_are cs f k = rw zero-add at (entry-is 0 cs f k)

-- A fact's entries are numbers of clauses, in whose bodies it is.
pub entry_in : (cs : List Clause) (f k : ℕ) → k ∈ entries_from_lem 0 cs f → (k < length cs) × (f ∈ (clause_at cs k).body)
entry_in cs f k m =
    let t = rw (entries_are cs f k) at ((listed-is (entries_from_lem 0 cs f) k).1 m) in
    let i = (listed-is (clause_at cs k).body f).0 t in (
      elim (below_or_from k (length cs)) [
        | inl l ↦ l
        | inr l ↦ absurd (Memᴰ.not-nil (rw (get_or-eq_default cs _ l) at i))
      ],
      i,
    )

-- The clause of a number is one of the clauses.
pub clause_in : (cs : List Clause) (k : ℕ) → k < length cs → clause_at cs k ∈ cs
clause_in cs k = get_or_in cs k _

-- Every clause has a number.
pub clause-at : (cs : List Clause) (c : Clause) → c ∈ cs → (k : ℕ) × (k < length cs) × (clause_at cs k ≡ c)
clause-at [] c m = elim m [ ]
clause-at (d ∷ cs) c m = elim (Memᴰ.cases_cons m) [
  | inl e ↦ (0, omega arith, sym e)
  | inr i ↦ let (k, l, e) = clause-at cs c i in (suc k, omega arith, e)
]

-- ---- lists that repeat nothing

-- The facts below n of a set are listed, ..
pub stored_is : (n : ℕ) (S : Facts) (f : ℕ) → (f ∈ stored n S) ↔ ((f < n) × T (S f))
unfolding stored
stored_is zero S f = (λ m. absurd (Memᴰ.not-nil m), λ (l, t). absurd (omega arith))
stored_is (suc n) S f =
    let rest = stored_is n S f in
    by-test (S n)
    (λ e. rw e (
      λ m. elim (Memᴰ.append_cases (stored n S) m) [
        | inl i ↦ let (l, t) = rest.0 i in (omega arith, t)
        | inr i ↦ let k = Memᴰ.eq_of_singleton i in (omega arith, rw k (passes e))
      ],
      λ (l, t). elim (eq-or-lt_of_le l) [
        | inl k ↦ Memᴰ.append_right (stored n S) (Memᴰ.head (omega arith))
        | inr k ↦ Memᴰ.append_left (n ∷ []) (rest.1 (omega arith, t))
      ],
    ))
    (λ e. rw (e, append-nil) (
      λ m. let (l, t) = rest.0 m in (omega arith, t),
      λ (l, t). elim (eq-or-lt_of_le l) [
        | inl k ↦ let i : f ≡ n = omega arith in absurd (fails e (rw i at t))
        | inr k ↦ rest.1 (omega arith, t)
      ],
    ))

-- .. and are at most n.
pub stored-length : (n : ℕ) (S : Facts) → length (stored n S) ≤ n
unfolding stored
stored-length zero S = omega arith
stored-length (suc n) S =
    let rest = stored-length n S in
    let last = length-append (stored n S) (cond (S n) (n ∷ []) []) in
    by-test (S n) (λ e. rw e (omega (arith, rw e at last))) (λ e. rw e (omega (arith, rw e at last)))

-- A list of numbers below n that repeats nothing has at most n.
pub once-below : (n : ℕ) (xs : List ℕ) → Nodup xs → ((x : ℕ) → x ∈ xs → x < n) → length xs ≤ n
once-below n xs u h =
    let all : Facts = λ f. true in
    let few = different_le_length (listed xs) (stored n all) in
    let same = different-is (listed xs) (stored n all) xs (
      u,
      λ f m. ((stored_is n all f).1 (h f m, tt), (listed-is xs f).1 m),
      λ f m t. (listed-is xs f).0 t,
    ) in
    omega (arith, stored-length n all)

module _ {A : Type 0} {Q : A → A → Type 0} (p : (a b : A) → IsProp (Q a b)) where
  -- Two lists, one after the other, are pairwise so exactly if each is and each entry of the first is so with each of
  -- the second.
  pub pairs_apart : (xs ys : List A)
      → Pairwise Q (xs ++ ys) ↔ (Pairwise Q xs × Pairwise Q ys × ((a b : A) → a ∈ xs → b ∈ ys → Q a b))
  pairs_apart xs ys = (
    λ h. let (x, y, z) = (Pairwise-append p {l₁ = xs} {l₂ = ys}).0 h in (x, y, λ a b m i. z a ∣ m ∣₁ b ∣ i ∣₁),
    λ (x, y, z). (Pairwise-append p {l₁ = xs} {l₂ = ys}).1
        (x, y, λ a m b i. ∥∥₁_elim m (p a b) (λ m. ∥∥₁_elim i (p a b) (λ i. z a b m i))),
  )

  -- One more at the end is so with all before it.
  pub pairs_more : (xs : List A) (y : A) → Pairwise Q xs → ((a : A) → a ∈ xs → Q a y) → Pairwise Q (xs ++ y ∷ [])
  pairs_more xs y h z =
      (pairs_apart xs (y ∷ [])).1 (h, Pairwise-singleton Q y, λ a b m i. rw (Memᴰ.eq_of_singleton i) (z a m))

-- A list that repeats nothing, and then a fact that it lacks, repeats nothing.
pub once_more : (xs : List ℕ) (y : ℕ) → Nodup xs → (y ∈ xs → ⊥) → Nodup (xs ++ y ∷ [])
once_more xs y u n = pairs_more (λ a b. ¬_prop) xs y u (λ a m e. n (Memᴰ.cast (sym e) m))

-- The facts below n of a set are listed once.
pub stored-once : (n : ℕ) (S : Facts) → Nodup (stored n S)
unfolding stored
stored-once zero S = Nodup-nil
stored-once (suc n) S =
    let rest = stored-once n S in
    by-test (S n)
    (λ e. rw e (once_more (stored n S) n rest (λ m. let (l, t) = (stored_is n S n).0 m in omega arith)))
    (λ e. rw (e, append-nil) rest)
