-- Contracts between functions: the worklist as its arrays say it. No promise to the outside rests on this.
use Rattle.std.specs.Prelude.{ℕ, zero, suc, ◌+◌, ◌≤◌, ◌<◌, ◌≡◌, Bool, ◌&&◌, cond, List, ltb, length, get_or, set, take, drop}
use Rattle.sets.specs.Sets.{Facts}
use Rattle.meaning.specs.Model.{Clause}
use Rattle.meaning.specs.Worklist.{Work, stored, begun}
use Rattle.meaning.specs.Working.{Known, Within, Toward, clause_at}
use Rattle.worklist.specs.Working.{state_in}
use Rattle.worklist.specs.declared.Worklist.{Worklist}

-- what each clause still lacks, the round table, the facts that have arrived, in order, and how many they are
pub record Arrays : Type 0 where
  pub lacks : List ℕ
  pub table : List ℕ
  pub queue : List ℕ
  pub n : ℕ

abbrev pub arrays : List ℕ → List ℕ → List ℕ → ℕ → Arrays
arrays lacks table queue n = record { lacks = lacks; table = table; queue = queue; n = n }

-- what the worklist keeps, and the table beside it
abbrev pub held : Worklist → List ℕ → Arrays
held w table = arrays w.lacks.now table w.queue.facts.now w.queue.n

-- a fact's number; only facts below 4,096 have one
unfoldable pub number_in : List ℕ → ℕ → ℕ
number_in table f = cond (ltb f 4096) (get_or table f 0) 65535

-- the round of the latest arrival, 0 where none arrived
unfoldable pub latest_in : List ℕ → List ℕ → ℕ → ℕ
latest_in table queue zero = 0
latest_in table queue (suc n) = get_or table (get_or queue n 0) 0

-- the worklist that the arrays say, where the facts before `at` have been taken, so many places have been crossed, and
-- what clauses lack is known
abbrev pub seen : (ℕ → ℕ) → List ℕ → List ℕ → ℕ → ℕ → ℕ → Work
seen lacking table queue n at crossings = record {
  queue = drop at (take n queue);
  lacking = lacking;
  number = number_in table;
  latest = latest_in table queue n;
  crossings = crossings;
}

-- the same, with what the array says that clauses lack
abbrev pub said : Arrays → ℕ → ℕ → Work
said a at crossings = seen (λ k. get_or a.lacks k 0) a.table a.queue a.n at crossings

-- the arrays have room, and what has arrived are facts
pub record Fits (a : Arrays) : Type 0 where
  pub lacks : length a.lacks ≡ 4096
  pub table : 4096 ≤ length a.table
  pub queue : length a.queue ≡ 4096
  pub full : a.n ≤ 4096
  pub low : (i : ℕ) → i < a.n → get_or a.queue i 0 < 4096

-- What the second arrays say is what this step of the worklist makes of what the first ones say, wherever in the queue
-- it stands and however many places it has crossed.
pub record Does (step : Work → Work) (a b : Arrays) : Type 0 where
  pub says : (at crossings : ℕ) → at ≤ a.n
      → said b at (step (said a at crossings)).crossings ≡ step (said a at crossings)
  pub grows : a.n ≤ b.n
  pub fits : Fits b
  pub as_long : length b.table ≡ length a.table
  pub beyond : drop 4096 b.table ≡ drop 4096 a.table

-- a fact waits that arose sooner than g, as far as the table tells
unfoldable pub waits_for : ℕ → List ℕ → List ℕ → ℕ → ℕ → Bool
unfolding number_in
waits_for g table queue n at = ltb at n && ltb (get_or table (get_or queue at 0) 0) (number_in table g)

-- ---- the start

-- the facts of the state wait, in order
pub record Gathered (S : Facts) (n : ℕ) (queue : List ℕ) : Type 0 where
  pub sized : length queue ≡ 4096
  pub full : n ≤ 4096
  pub facts : take n queue ≡ stored 4096 S

-- every clause lacks the facts of its body, and none fewer than so many
pub record Lacking (cs : List Clause) (least : ℕ) (lacks : List ℕ) : Type 0 where
  pub sized : length lacks ≡ 4096
  pub bodies : (k : ℕ) → get_or lacks k 0 ≡ length (clause_at cs k).body
  pub fewest : (k : ℕ) → k < length cs → least ≤ length (clause_at cs k).body

-- the arrays say how the worklist begins, and the table still tells the state
pub record Starts (cs : List Clause) (S : Facts) (before : List ℕ) (a : Arrays) : Type 0 where
  pub says : said a 0 0 ≡ begun cs S
  pub state : state_in a.table ≡ S
  pub fits : Fits a
  pub as_long : length a.table ≡ length before
  pub beyond : drop 4096 a.table ≡ drop 4096 before

-- ---- a crossing

-- a fact arrives in round r, unless it has arrived before: table, queue and how many have arrived, before and after
pub record Arrives (f r : ℕ) (table queue : List ℕ) (n : ℕ) (table' queue' : List ℕ) (n' : ℕ) : Type 0 where
  pub new : get_or table f 0 ≡ 65535 → (table' ≡ set table f r) × (queue' ≡ set queue n f) × (n' ≡ n + 1)
  pub old : (get_or table f 0 ≡ 65535 → ⊥) → (table' ≡ table) × (queue' ≡ queue) × (n' ≡ n)

-- a place of clause k can be crossed
pub record Crossable (cs : List Clause) (k : ℕ) (a : Arrays) : Type 0 where
  pub number : k < length cs
  pub low : k < 4096
  pub head : (clause_at cs k).head < 4096
  pub lacking : 1 ≤ get_or a.lacks k 0
  pub room : get_or a.table (clause_at cs k).head 0 ≡ 65535 → a.n < 4096
  pub fits : Fits a

-- in the midst of a turn, of some fact in some state: these entries are still to be crossed, in the round before r
pub record Amid (cs : List Clause) (r : ℕ) (ks : List ℕ) (a : Arrays) : Type 0 where
  pub S : Facts
  pub known : Known cs S
  pub had : List ℕ
  pub f : ℕ
  pub at : ℕ
  pub crossings : ℕ
  pub here : length had + 1 ≡ at
  pub some : at ≤ a.n
  pub round : r ≡ suc (number_in a.table f)
  pub within : Within cs S had f ks (said a at crossings)
  pub fits : Fits a

-- between two turns on the way to the fact g: so many facts have been taken
pub record Between (cs : List Clause) (S : Facts) (g at crossings : ℕ) (a : Arrays) : Type 0 where
  pub had : List ℕ
  pub here : length had ≡ at
  pub some : at ≤ a.n
  pub toward : Toward cs S g had (said a at crossings)
  pub fits : Fits a
