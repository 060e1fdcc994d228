-- Closing by a worklist: facts are taken in the order in which they arrive, and each body place is crossed once, when
-- its fact is taken (document 02, wish 5). What is promised of closing (Rounds.antt) says nothing of this.
use Rattle.std.specs.Prelude.{ℕ, zero, suc, ◌+◌, ◌-◌, cond, List, [], ◌∷◌, ◌++◌, eqb, length, get_or}
use Rattle.sets.specs.Sets.{Facts, listed}
use Rattle.meaning.specs.Model.{Clause}

-- ---- body places

-- the numbers of the clauses whose body has the fact, ascending, where the first clause has the number k
unfoldable pub entries_from_lem : ℕ → List Clause → ℕ → List ℕ
unfolding listed
entries_from_lem k [] f = []
entries_from_lem k (c ∷ cs) f =
    cond (listed c.body f) (k ∷ entries_from_lem (suc k) cs f) (entries_from_lem (suc k) cs f)

-- "The lent index then holds each body place's clause number, by fact and then clause": those of the facts below n
unfoldable pub index_below_lem : ℕ → List Clause → List ℕ
unfolding entries_from_lem
index_below_lem zero cs = []
index_below_lem (suc n) cs = index_below_lem n cs ++ entries_from_lem 0 cs n

-- "the model's body places"
unfoldable pub body_places : List Clause → ℕ
body_places [] = 0
body_places (c ∷ cs) = length c.body + body_places cs

-- how many entries of a list are in a set
unfoldable pub among : Facts → List ℕ → ℕ
among X [] = 0
among X (f ∷ fs) = cond (X f) 1 0 + among X fs

-- "the number of body places whose fact is in the closure": in a set
unfoldable pub places_in : Facts → List Clause → ℕ
unfolding among
places_in X [] = 0
places_in X (c ∷ cs) = among X c.body + places_in X cs

-- ---- the worklist

-- The facts that have arrived and wait, in order; by a clause's number, how many of its body places are not crossed
-- yet; by a fact, its round number, 65,535 where it has not arrived; the round of the latest arrival; and how many
-- places have been crossed.
pub record Work : Type 0 where
  pub queue : List ℕ
  pub lacking : ℕ → ℕ
  pub number : ℕ → ℕ
  pub latest : ℕ
  pub crossings : ℕ

-- a function with one value changed
unfoldable pub put : ℕ → ℕ → (ℕ → ℕ) → ℕ → ℕ
put i x g j = cond (eqb j i) x (g j)

-- a fact arrives in a round, unless it has arrived before
unfoldable pub arrive : ℕ → ℕ → Work → Work
unfolding put
arrive f r w =
    cond (eqb (w.number f) 65535)
    (record {
      queue = w.queue ++ f ∷ [];
      lacking = w.lacking;
      number = put f r w.number;
      latest = r;
      crossings = w.crossings;
    })
    w

-- a body place of clause k is crossed, ..
abbrev pub crossed : ℕ → Work → Work
crossed k w = record {
  queue = w.queue;
  lacking = put k (w.lacking k - 1) w.lacking;
  number = w.number;
  latest = w.latest;
  crossings = suc w.crossings;
}

-- .. in the round before r: where it was the last one, the clause's head arrives
unfoldable pub cross : List Clause → ℕ → ℕ → Work → Work
unfolding put arrive
cross cs r k w =
    let head : ℕ = (get_or cs k (record { head = 0; body = [] })).head in
    cond (eqb (w.lacking k) 1) (arrive head r (crossed k w)) (crossed k w)

-- one after the other
unfoldable pub cross_all_lem : List Clause → ℕ → List ℕ → Work → Work
unfolding cross
cross_all_lem cs r [] w = w
cross_all_lem cs r (k ∷ ks) w = cross_all_lem cs r ks (cross cs r k w)

-- the same, but that these facts wait
abbrev pub waiting : List ℕ → Work → Work
waiting queue w = record {
  queue = queue;
  lacking = w.lacking;
  number = w.number;
  latest = w.latest;
  crossings = w.crossings;
}

-- "crosses each body place once, when its fact arrives": the first fact that waits is taken, and all of its places are
-- crossed
unfoldable pub taken : List Clause → ℕ → List ℕ → Work → Work
unfolding cross_all_lem entries_from_lem
taken cs f rest w = cross_all_lem cs (suc (w.number f)) (entries_from_lem 0 cs f) (waiting rest w)

-- at most so many facts are taken, until none waits
unfoldable pub drained : ℕ → List Clause → Work → Work
unfolding taken
drained zero cs w = w
drained (suc turns) cs w = elim w.queue [ [] ↦ w | f ∷ rest ↦ drained turns cs (taken cs f rest w) ]

-- ---- its start

-- the facts below n of a set, ascending
unfoldable pub stored : ℕ → Facts → List ℕ
stored zero S = []
stored (suc n) S = stored n S ++ cond (S n) (n ∷ []) []

-- "A clause with an empty body gives its head in round 1."
unfoldable pub unasked : List Clause → Work → Work
unfolding arrive
unasked [] w = w
unasked (c ∷ cs) w = unasked cs (elim c.body [ [] ↦ arrive c.head 1 w | b ∷ bs ↦ w ])

-- "Round 0 is the state.": its facts wait, then the heads of clauses with an empty body
unfoldable pub begun : List Clause → Facts → Work
unfolding stored unasked
begun cs S =
    unasked cs
    (record {
      queue = stored 4096 S;
      lacking = λ k. length (get_or cs k (record { head = 0; body = [] })).body;
      number = λ f. cond (S f) 0 65535;
      latest = 0;
      crossings = 0;
    })

-- each fact below 4,096 is taken at most once
unfoldable pub worked : List Clause → Facts → Work
unfolding drained begun
worked cs S = drained 4096 cs (begun cs S)

-- ---- its steps

-- the facts that are taken in so many turns, in order
unfoldable pub takes : ℕ → List Clause → Work → List ℕ
unfolding taken
takes zero cs w = []
takes (suc turns) cs w = elim w.queue [ [] ↦ [] | f ∷ rest ↦ f ∷ takes turns cs (taken cs f rest w) ]

-- "each body place .. when its fact arrives": the places of these facts, each by its clause's number, one fact's after
-- the other's
unfoldable pub places_of : List Clause → List ℕ → List ℕ
unfolding entries_from_lem
places_of cs [] = []
places_of cs (f ∷ fs) = entries_from_lem 0 cs f ++ places_of cs fs

-- "the steps of the worklist": it crosses these places, one after the other
unfoldable pub steps : List Clause → Facts → List ℕ
unfolding takes places_of begun
steps cs S = places_of cs (takes 4096 cs (begun cs S))
