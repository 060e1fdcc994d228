-- Closing by a worklist: what is lent, and what is promised (document 02, wish 5). The promise is that of the rounds;
-- the worklist itself (Rattle.meaning.specs.Worklist) is not named in it.
use Rattle.std.specs.Prelude.{ℕ, ◌≤◌, ◌<◌, ◌≡◌, ◌&&◌, cond, List, eqb, ltb, length, get_or, take, drop}
use Rattle.sets.specs.Sets.{Facts, ◌∈◌}
use Rattle.meaning.specs.Model.{Clause}
use Rattle.meaning.specs.Rounds.{rounds, closure, round_number}
use Rattle.meaning.specs.Worklist.{index_below_lem, body_places, places_in}
use Rattle.meaning.specs.Early.{shown, rounds_for}
use Rattle.meaning.specs.Working.{Known, sooner}
use Rattle.records.specs.Records.{records, place_of}
use Rattle.records.specs.declared.Kind.{Kind}
use Rattle.lists.specs.Lists.{AllCut}
use Rattle.files.specs.Files.{clauses_in}
use Rattle.worklist.specs.declared.Worked.{Worked}

-- "Round 0 is the state.": the facts that have the number 0 in the table
unfoldable pub state_in : List ℕ → Facts
state_in table f = ltb f 4096 && eqb (get_or table f 0) 0

-- the table holds round 0: 0 for a fact of the state, 65,535 for every other
pub record Begun (table : List ℕ) : Type 0 where
  pub room : 4096 ≤ length table
  pub entries : (f : ℕ) → f < 4096 → get_or table f 0 ≡ cond (state_in table f) 0 65535

-- "body facts 16"
abbrev pub Short : List Clause → Type 0
Short cs = (c : Clause) → c ∈ cs → length c.body ≤ 16

-- what judging has shown of the clauses' section, for a state
pub record Judged (section : List ℕ) (S : Facts) : Type 0 where
  pub cut : AllCut Kind.Clause section
  pub known : Known (clauses_in section) S
  pub short : Short (clauses_in section)

-- where the record of each clause starts, an entry a clause
pub record Placed (section starts : List ℕ) : Type 0 where
  pub count : length starts ≡ length (clauses_in section)
  pub places : (k : ℕ) → k < length starts → get_or starts k 0 ≡ place_of k (records section)

-- "The lent index then holds each body place's clause number, by fact and then clause": those of fact f stand from
-- entry `ends f` on and before entry `ends (f + 1)`
pub record Listed (cs : List Clause) (index ends : List ℕ) : Type 0 where
  pub entries : take (body_places cs) index ≡ index_below_lem 4096 cs
  pub room : 4097 ≤ length ends
  pub bounds : (f : ℕ) → f ≤ 4096 → get_or ends f 0 ≡ length (index_below_lem f cs)

-- what closing by the index asks for
pub record Workable (section table index ends starts : List ℕ) : Type 0 where
  pub judged : Judged section (state_in table)
  pub begun : Begun table
  pub listed : Listed (clauses_in section) index ends
  pub places : Placed section starts

-- "Stop closing .. in the round where it arrives" (document 02, wish 8), for the fact g: how many rounds are run, and
-- what the table shows then; "Anything beyond is unchanged."; the places of the facts that arose sooner are crossed
pub record WorksFor (cs : List Clause) (S : Facts) (g : ℕ) (before after : List ℕ) (r : Worked) : Type 0 where
  pub rounds : r.rounds ≡ rounds_for cs S g
  pub crossings : r.crossings ≡ places_in (sooner cs S g) cs
  pub as_long : length after ≡ length before
  pub entries : (f : ℕ) → f < 4096 → get_or after f 0 ≡ shown cs S (rounds_for cs S g) f
  pub beyond : drop 4096 after ≡ drop 4096 before

-- in full: "answers the number of rounds", each fact's round number, "Anything beyond is unchanged."; "The count of
-- crossings equals .. the number of body places whose fact is in the closure"
pub record Works (cs : List Clause) (S : Facts) (before after : List ℕ) (r : Worked) : Type 0 where
  pub rounds : r.rounds ≡ rounds cs S
  pub crossings : r.crossings ≡ places_in (closure cs S) cs
  pub as_long : length after ≡ length before
  pub entries : (f : ℕ) → f < 4096 → get_or after f 0 ≡ round_number cs S f
  pub beyond : drop 4096 after ≡ drop 4096 before
