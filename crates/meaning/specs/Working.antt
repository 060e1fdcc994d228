-- What holds of the worklist (Worklist.antt) at every moment. No promise to the outside rests on these: they say that
-- what it keeps fits its memory, and lead to what is promised.
use Rattle.std.specs.Prelude.{ℕ, suc, ◌+◌, ◌≤◌, ◌<◌, ◌≡◌, false, not, cond, T, ltb, length, get_or}
use mathlib.Core.List.{List, [], ◌∷◌, ◌++◌, Nodup, Pairwise}
use Rattle.sets.specs.Sets.{Facts, listed, ◌∈◌}
use Rattle.meaning.specs.Model.{Clause}
use Rattle.meaning.specs.Rounds.{rounds, closure, round_number}
use Rattle.meaning.specs.Worklist.{Work, among, places_in}

-- the clauses of a judged model and a state of it: "Clauses 4,096", every fact below 4,096, no body that repeats a fact
pub record Known (cs : List Clause) (S : Facts) : Type 0 where
  pub count : length cs ≤ 4096
  pub heads : (c : Clause) → c ∈ cs → c.head < 4096
  pub bodies : (c : Clause) → c ∈ cs → (b : ℕ) → b ∈ c.body → b < 4096
  pub once : (c : Clause) → c ∈ cs → Nodup c.body
  pub state : (f : ℕ) → 4096 ≤ f → S f ≡ false

-- "Records are numbered from 0.": the clause of a number
abbrev pub clause_at : List Clause → ℕ → Clause
clause_at cs k = get_or cs k (record { head = 0; body = [] })

-- how many body facts of clause k are not in the list
unfoldable pub lack : List Clause → List ℕ → ℕ → ℕ
unfolding among listed
lack cs had k = among (λ b. not (listed had b)) (clause_at cs k).body

-- These facts have arrived: none twice, by ascending round number, all of the state among them; and a fact has its
-- round number exactly if it is one of them.
pub record Arrived (cs : List Clause) (S : Facts) (fs : List ℕ) (w : Work) : Type 0 where
  pub once : Nodup fs
  pub order : Pairwise (λ a b. round_number cs S a ≤ round_number cs S b) fs
  pub inside : (f : ℕ) → f ∈ fs → T (closure cs S f)
  pub held : (f : ℕ) → T (S f) → f ∈ fs
  pub number : (f : ℕ) → w.number f ≡ cond (listed fs f) (round_number cs S f) 65535
  pub late : (f : ℕ) → f ∈ fs → round_number cs S f ≤ w.latest
  pub latest : w.latest ≤ rounds cs S

-- before the first fact is taken, while heads of clauses with an empty body may still have to arrive
pub record Opening (cs : List Clause) (S : Facts) (w : Work) : Type 0 where
  pub arrived : Arrived cs S w.queue w
  pub near : w.latest ≤ 1
  pub lacking : (k : ℕ) → w.lacking k ≡ length (clause_at cs k).body
  pub crossings : w.crossings ≡ 0

-- between two turns: the facts `had` have been taken, in this order, and those of the queue wait
pub record Sound (cs : List Clause) (S : Facts) (had : List ℕ) (w : Work) : Type 0 where
  pub arrived : Arrived cs S (had ++ w.queue) w
  pub near : (f : ℕ) (rest : List ℕ) → w.queue ≡ f ∷ rest → w.latest ≤ suc (round_number cs S f)
  pub lacking : (k : ℕ) → w.lacking k ≡ lack cs had k
  pub fired : (k : ℕ) → k < length cs → w.lacking k ≡ 0 → (clause_at cs k).head ∈ had ++ w.queue
  pub crossings : w.crossings ≡ places_in (listed had) cs

-- in the midst of a turn: the facts `had` have been taken before, f is being taken, and of its entries ks are still to
-- be crossed
pub record Within (cs : List Clause) (S : Facts) (had : List ℕ) (f : ℕ) (ks : List ℕ) (w : Work) : Type 0 where
  pub arrived : Arrived cs S ((had ++ f ∷ []) ++ w.queue) w
  pub near : w.latest ≤ suc (round_number cs S f)
  pub lacking : (k : ℕ) → w.lacking k ≡ cond (listed ks k) 1 0 + lack cs (had ++ f ∷ []) k
  pub fired : (k : ℕ) → k < length cs → w.lacking k ≡ 0 → (clause_at cs k).head ∈ (had ++ f ∷ []) ++ w.queue
  pub distinct : Nodup ks
  pub entries : (k : ℕ) → k ∈ ks → (k < length cs) × (f ∈ (clause_at cs k).body)
  pub crossings : w.crossings + length ks ≡ places_in (listed (had ++ f ∷ [])) cs

-- ---- until a fact arrives (document 02, wish 8)

-- the facts of earlier rounds than the fact g's; all of the closure where g is outside it
unfoldable pub sooner : List Clause → Facts → ℕ → Facts
unfolding round_number
sooner cs S g f = ltb (round_number cs S f) (round_number cs S g)

-- between two turns, while facts are taken that arose sooner than g: nothing of a later round than g's has arrived
pub record Toward (cs : List Clause) (S : Facts) (g : ℕ) (had : List ℕ) (w : Work) : Type 0 where
  pub sound : Sound cs S had w
  pub near : w.latest ≤ round_number cs S g
  pub sooner : (f : ℕ) → f ∈ had → round_number cs S f < round_number cs S g
