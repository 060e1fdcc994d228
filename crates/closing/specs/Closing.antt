-- What closing promises: the round table that it leaves and the number that it answers (document 01, "Closing is one
-- part", "Buffers").
use Rattle.std.specs.Prelude.{ℕ, ◌<◌, ◌≤◌, ◌≡◌, ◌⊎◌, Bool, false, not, ◌&&◌, ◌||◌, List, T, leb, ltb, eqb, length, get_or, take, drop}
use Rattle.std.specs.Prelude.{Result, Ok, Err}
use Rattle.std.proofs.Math.Option.{Option, none, some, map}
use Rattle.sets.specs.Sets.{Facts, first, ◌∈◌}
use Rattle.meaning.specs.Model.{Clause}
use Rattle.meaning.specs.Rounds.{rounds, closure, round_number, missing_heads}
use Rattle.meaning.specs.Worklist.{index_below_lem, body_places, places_in, steps}
use Rattle.meaning.specs.Published.{HC}
use Rattle.meaning.specs.Promises.{IsRounds, IsRoundNumber, IsIndex}
use Rattle.facts.specs.Facts.{members}
use Rattle.records.specs.Records.{given, ◌or_else◌}
use Rattle.records.specs.Refusals.{answer_or}
use Rattle.sections.specs.declared.Role.TheVariants.{Clauses}
use Rattle.files.specs.Files.{section_of, fact_count, model_of_lem, model_fault}
use Rattle.causes.specs.Causes.{ModelCause, RightModel, ModelStarts}
use Rattle.worklist.specs.Working.{Placed, Listed}
use Rattle.worklist.specs.declared.Worked.{Worked}

-- ---- the round table

-- "The first 4,096 table entries hold" these numbers; "Anything beyond is unchanged."
pub record Written (number : ℕ → ℕ) (before after : List ℕ) : Type 0 where
  pub as_long : length after ≡ length before
  pub entries : (f : ℕ) → f < 4096 → get_or after f 0 ≡ number f
  pub beyond : drop 4096 after ≡ drop 4096 before

-- "that state's round numbers"
abbrev pub Filled : List Clause → Facts → List ℕ → List ℕ → Type 0
Filled cs S before after = Written (round_number cs S) before after

-- the facts that have a round number in the table
unfoldable pub numbered : List ℕ → Facts
numbered table f = ltb f 4096 && not (eqb (get_or table f 0) 65535)

-- the clauses of a judged model: "Clauses 4,096", and every fact below 4,096
pub record Bounded (cs : List Clause) : Type 0 where
  pub count : length cs ≤ 4096
  pub heads : (c : Clause) → c ∈ cs → c.head < 4096
  pub bodies : (c : Clause) → c ∈ cs → (b : ℕ) → b ∈ c.body → b < 4096

-- the way that closing takes, by what it is lent: sweeps, or the index of a model's clauses
pub data Way (model index ends starts : List ℕ) : Type 0 where
  sweeps : length starts ≡ 0 → Way model index ends starts
  indexed : Listed (model_of_lem model).clauses index ends → Placed (section_of model Clauses) starts
      → Way model index ends starts

-- what every caller of closing relies on: the number of rounds, and each fact's round number in the table
pub record ClosesUnder (cs : List Clause) (state before after : List ℕ) (n : ℕ) : Type 0 where
  pub number : n ≡ rounds cs (members state)
  pub filled : Filled cs (members state) before after

-- ---- closing called by itself

-- 1: "state buffer under 512 bytes or round table under 4,096 entries"
unfoldable pub no_room_lem : List ℕ → List ℕ → Bool
no_room_lem state table = ltb (length state) 512 || ltb (length table) 4096

-- "a bit set from F on in its first 512 bytes": the first fact from F on is below 4,096
unfoldable pub some_from : ℕ → Facts → Bool
unfolding first
some_from F S = ltb (first (λ f. leb F f && S f) 4096) 4096

-- "6 for a starting state with a bit set from F on in its first 512 bytes"
abbrev pub state_refusal : List ℕ → List ℕ → Option ℕ
state_refusal model state = given (some_from (fact_count model) (members state)) 6

-- "it gives 1 to 8 below for what it is lent, then 6 for a starting state with a bit set from F on": the refusal's
-- number. 12 and 17 (document 02, wishes 9 and 11) are among the model's: "A number that a later request adds for the
-- model is given wherever the model is judged"
unfoldable pub close_refusal : List ℕ → List ℕ → List ℕ → Option ℕ
unfolding given ◌or_else◌ no_room_lem model_fault some_from fact_count
close_refusal model state table =
    given (no_room_lem state table) 1
    or_else map (λ f. f.number) (model_fault model)
    or_else state_refusal model state

-- "On a refusal closing changes nothing. Otherwise it .. fills the round table as for a verdict"
unfoldable pub Table : Option ℕ → List Clause → Facts → List ℕ → List ℕ → Type 0
Table none cs S before after = Filled cs S before after
Table (some k) cs S before after = after ≡ before

-- for the function within: what is left to promise for a model that nothing refuses and a table with room. "A refusal
-- .. is its number alone.", otherwise it "answers the number of rounds"
pub record ClosesKnown (model state before after : List ℕ) (r : Result ℕ ℕ) : Type 0 where
  pub answers : r
      ≡ answer_or (state_refusal model state) (rounds (model_of_lem model).clauses (members state))
  pub table : Table (state_refusal model state) (model_of_lem model).clauses (members state) before after

-- what closing promises: its answer, and every entry of the table
pub record Closes (model state before after : List ℕ) (r : Result ℕ ℕ) : Type 0 where
  pub answers : r ≡ answer_or (close_refusal model state before) (rounds (model_of_lem model).clauses (members state))
  pub table : Table (close_refusal model state before) (model_of_lem model).clauses (members state) before after

-- ---- with an index lent (document 02, wish 5)

-- "The lent index then holds each body place's clause number, by fact and then clause; its other entries stay."
pub record IndexHolds (cs : List Clause) (before after : List ℕ) : Type 0 where
  pub as_long : length after ≡ length before
  pub entries : take (body_places cs) after ≡ index_below_lem 4096 cs
  pub beyond : drop (body_places cs) after ≡ drop (body_places cs) before

-- a refusal leaves it: "nothing written"
unfoldable pub Index : {A : Type 0} → Option A → List Clause → List ℕ → List ℕ → Type 0
Index none cs before after = IndexHolds cs before after
Index (some k) cs before after = after ≡ before

-- "if the lent index has fewer entries than the model has body places"
unfoldable pub no_places_lem : List ℕ → List ℕ → Bool
unfolding body_places model_of_lem
no_places_lem model index = ltb (length index) (body_places (model_of_lem model).clauses)

-- for the functions within: the index is built, and the way that takes it, with as many starts as clauses, is open
pub record Builds (model before after ends starts : List ℕ) (n : ℕ) : Type 0 where
  pub holds : IndexHolds (model_of_lem model).clauses before after
  pub ends-sized : length ends ≡ 4097
  pub starts-sized : length starts ≡ 4096
  pub few : n ≤ 4096
  pub listed : Listed (model_of_lem model).clauses after ends
  pub placed : Placed (section_of model Clauses) (take n starts)

-- "Refusals: ROOM, right after NEGATED": after the model's numbers, before 6 for the starting state
unfoldable pub close_refusal_indexed : List ℕ → List ℕ → List ℕ → List ℕ → Option ℕ
unfolding given ◌or_else◌ no_room_lem model_fault no_places_lem some_from fact_count
close_refusal_indexed model state table index =
    given (no_room_lem state table) 1
    or_else map (λ f. f.number) (model_fault model)
    or_else given (no_places_lem model index) 1
    or_else state_refusal model state

-- what closing with an index leaves and answers, after what refuses it: a refusal's number, or the number of rounds and
-- "the count of crossings". "The count of crossings equals .. the number of body places whose fact is in the closure.";
-- its table is that of closing without one
pub record Crosses (refused : Option ℕ) (model state before after ix ix' : List ℕ) (r : Result Worked ℕ) : Type 0 where
  pub answers : r
      ≡ answer_or refused (record {
        rounds = rounds (model_of_lem model).clauses (members state);
        crossings = places_in (closure (model_of_lem model).clauses (members state)) (model_of_lem model).clauses;
      })
  pub table : Table refused (model_of_lem model).clauses (members state) before after
  pub index : Index refused (model_of_lem model).clauses ix ix'

-- what closing with an index promises: its answer, and every entry of the table and of the index
abbrev pub ClosesIndexed : List ℕ → List ℕ → List ℕ → List ℕ → List ℕ → List ℕ → Result Worked ℕ → Type 0
ClosesIndexed model state before after ix ix' r =
    Crosses (close_refusal_indexed model state before ix) model state before after ix ix' r

-- ---- what follows, in words that name none of the definitions above but `numbered`

-- demand 3 (docs/PROMISES.md), for a state's set under a model's clauses: the facts with a number are the smallest set
-- that holds the state and obeys the clauses, each entry is the fact's round number, the answer is the number of rounds
-- and at most the different heads missing from the state; nothing else of the table changed
pub record ClosedExactly (cs : List Clause) (S : Facts) (before after : List ℕ) (n : ℕ) : Type 0 where
  pub smallest : HC cs S (numbered after)
  pub entries : (f : ℕ) → f < 4096 → IsRoundNumber cs S f (get_or after f 0)
  pub number : IsRounds cs S n
  pub bound : n ≤ missing_heads cs S
  pub as_long : length after ≡ length before
  pub beyond : drop 4096 after ≡ drop 4096 before

-- the buffers have room: a state of 512 bytes or more and a round table of 4,096 entries or more
pub record Room (state table : List ℕ) : Type 0 where
  pub bytes : 512 ≤ length state
  pub entries : 4096 ≤ length table

-- the model by itself is well_formed
pub record RightAlone (m : List ℕ) : Type 0 where
  pub size : length m ≤ 65536
  pub first : ModelStarts m
  pub model : RightModel m

-- the cause of each refusal, with nothing there that comes before it: "it gives 1 to 8 below for what it is lent, then
-- 6 for a starting state with a bit set from F on in its first 512 bytes"
pub data RefusedFor (m state table : List ℕ) : ℕ → Type 0 where
  room : (length state < 512) ⊎ (length table < 4096) → RefusedFor m state table 1
  long : Room state table → 65536 < length m → RefusedFor m state table 2
  version : Room state table → length m ≤ 65536 → (ModelStarts m → ⊥) → RefusedFor m state table 3
  wrong : {k : ℕ} {bytes : List ℕ} → Room state table → length m ≤ 65536 → ModelStarts m → ModelCause m k bytes
      → RefusedFor m state table k
  fact : Room state table → RightAlone m → (f : ℕ) → fact_count m ≤ f → T (members state f)
      → RefusedFor m state table 6

-- none of them is there
pub record Answerable (m state table : List ℕ) : Type 0 where
  pub room : Room state table
  pub model : RightAlone m
  pub facts : (f : ℕ) → fact_count m ≤ f → members state f ≡ false

-- ---- the same with an index lent (document 02, wish 5)

-- what closing without an index answers, where one with it answers this
abbrev pub uncrossed : Result Worked ℕ → Result ℕ ℕ
uncrossed (Ok w) = Ok w.rounds
uncrossed (Err k) = Err k

-- "The lent index then holds each body place's clause number, by fact and then clause; its other entries stay."
pub record IndexExactly (cs : List Clause) (before after : List ℕ) : Type 0 where
  pub places : IsIndex cs (take (body_places cs) after)
  pub as_long : length after ≡ length before
  pub beyond : drop (body_places cs) after ≡ drop (body_places cs) before

-- "The count of crossings equals the steps of the worklist as defined, and also the number of body places whose fact is
-- in the closure. So it is at most the model's body places."
pub record CrossedExactly (cs : List Clause) (S : Facts) (before after ix ix' : List ℕ) (n crossings : ℕ) : Type 0 where
  pub closed : ClosedExactly cs S before after n
  pub as_steps : crossings ≡ length (steps cs S)
  pub as_places : crossings ≡ places_in (closure cs S) cs
  pub bound : crossings ≤ body_places cs
  pub index : IndexExactly cs ix ix'

-- "ROOM, right after NEGATED, if the lent index has fewer entries than the model has body places", with nothing there
-- that comes before it
pub record IndexShort (m state table index : List ℕ) : Type 0 where
  pub room : Room state table
  pub model : RightAlone m
  pub places : length index < body_places (model_of_lem m).clauses

-- the cause of each refusal: the index is short, or it isn't and the cause is one of closing without it
pub data RefusedIndexed (m state table index : List ℕ) : ℕ → Type 0 where
  index : IndexShort m state table index → RefusedIndexed m state table index 1
  other : {k : ℕ} → (IndexShort m state table index → ⊥) → RefusedFor m state table k
      → RefusedIndexed m state table index k
