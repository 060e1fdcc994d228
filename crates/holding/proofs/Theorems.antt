-- What is promised of asking for one fact, over bytes: the answer is full closing's, the table shows the rounds run,
-- and refusals are the check's with FACT after them.
use Prim.Native.Nat.{ℕ, ◌<◌}
use mathlib.Core.Path.{◌≡◌, refl, sym, ap, ◌∙◌}
use mathlib.Core.Logic.{◌↔◌}
use mathlib.Core.Bool.{true, false}
use mathlib.Core.List.{List}
use mathlib.Core.Option.{Option, none, some, map}
use native.Mathlib.Omega.{arith}
use borrow.Author.Tests.{leb-false}
use lib.Dec.{T, leb}
use lib.ListN.{length, get_or}
use Rattle.sets.specs.Sets.{Facts}
use Rattle.sets.proofs.Laws.{passes, fails, by-test}
use Rattle.meaning.specs.Model.{Clause, Model, aims}
use Rattle.meaning.specs.Rounds.{round, closure, round_number}
use Rattle.meaning.specs.Early.{rounds_for}
use Rattle.meaning.specs.Run.{Condition, Ending, Outcome}
use Rattle.meaning.specs.Run.Ending.{attack, blocked, not_met, upheld}
use Rattle.meaning.specs.Published.{HC}
use Rattle.meaning.specs.Promises.{IsRounds}
use Rattle.meaning.proofs.Closing.{round_number-is, rounds-is, rounds-bound, missing_heads-bound}
use Rattle.meaning.proofs.Theorems.{closure-is-HC, HC_unique}
use Rattle.meaning.proofs.Arriving.{number_le, number-rounds, round_closes}
use Rattle.meaning.proofs.Early.{shown_in, shown_out, rounds-held, rounds-absent}
use Rattle.facts.proofs.Laws.{determined}
use Rattle.records.specs.Records.{given, ◌or_else◌}
use Rattle.files.specs.Files.{Blamed, model_of_lem, shape_fault, fact_count, files_fault, steps_fault, pair_fault}
use Rattle.files.specs.Answers.{blamed_number}
use Rattle.sections.proofs.Fits.{neither, not-given}
use Rattle.files.proofs.Laws.{facts-bound, clauses-bound}
use Rattle.files.proofs.Traces.{files_shape}
use Rattle.closing.specs.Closing.{IndexHolds, Index, no_places_lem}
use Rattle.closing.proofs.Laws.{filled_unique}
use Rattle.closing.proofs.Crossings.{index-left}
use Rattle.stepping.specs.Conditions.{stop_number}
use Rattle.reaching.specs.Reaching.{Lent}
use Rattle.checking.specs.Verdict.{no_space_lem, refused, refusal}
use Rattle.running.specs.Outcomes.{outcome, ran, number_of, Left}
use Rattle.running.specs.declared.Verdict.{Verdict}
use Rattle.checking.proofs.Refusals.{either_number}
use Rattle.checking.proofs.Theorems.{LentBytes, left_unique}
use Rattle.holding.specs.Holding.{holds_refusal, blocked_by, stopped, LeftFor, Buffers, HoldsIn, ShownUpTo}
use Rattle.std.specs.Prelude.{Result, Ok, Err}
use Rattle.records.specs.Refusals.{answer_or}
use Rattle.holding.specs.declared.Held.{Held}

-- ---- an answer

-- an answer that is no refusal: the round number and the rounds run
abbrev held : ℕ → ℕ → Held
held number rounds = record { round = number; rounds = rounds }

-- What is refused is some number's.
not_mapped : (o : Option Blamed) → map blamed_number o ≡ none → o ≡ none
not_mapped none e = refl
not_mapped (some b) e = let z : ◌≡◌ {A = ℕ} 0 1 = cc in absurd (omega arith)

-- Where nothing is refused, the files are right and the fact is one of the model's.
none-refused : (m t : List ℕ) (g : ℕ) (l : Lent) (ix : List ℕ) → holds_refusal m t g l ix ≡ none
    → (files_fault m t ≡ none) × (g < fact_count m)
unfolding holds_refusal
none-refused m t g l ix e =
    let room : Option ℕ = given (no_space_lem l) 1 in
    let files = map blamed_number (files_fault m t) in
    let places : Option ℕ = given (no_places_lem m ix) 1 in
    let steps = map blamed_number (steps_fault (length (aims (model_of_lem m))) (length (model_of_lem m).rules) t) in
    let fact : Option ℕ = given (leb (fact_count m) g) 6 in
    let right = (neither room (files or_else places or_else steps or_else fact) e).1 in
    let (fine, rest) = neither files (places or_else steps or_else fact) right in
    let known = (neither steps fact (neither places (steps or_else fact) rest).1).1 in
    (not_mapped (files_fault m t) fine, leb-false (fact_count m) g (not-given (leb (fact_count m) g) 6 known))

-- A round is answered where nothing is refused and no step is blocked.
round-fine : (o : Option ℕ) (c : Option Condition) {j i k n : ℕ} → Ok (held k n) ≡ answer_or (stopped o c) (held j i)
    → (o ≡ none) × (c ≡ none) × (k ≡ j) × (n ≡ i)
unfolding stopped ◌or_else◌
round-fine none none {j = j} {i = i} {k = k} {n = n} e =
    let same : held k n ≡ held j i = cc in
    (refl, refl, ap (λ (h : Held). h.round) same, ap (λ (h : Held). h.rounds) same)
round-fine none (some c) e = let z : ◌≡◌ {A = ℕ} 0 1 = cc in absurd (omega arith)
round-fine (some x) c e = let z : ◌≡◌ {A = ℕ} 0 1 = cc in absurd (omega arith)

module _ {m t : List ℕ} {g : ℕ} {b a : Lent} {ix ix' : List ℕ} {k n : ℕ}
    (h : HoldsIn m t g b a ix ix' (Ok (held k n))) where
  abbrev cs : List Clause
  cs = (model_of_lem m).clauses

  abbrev S : Facts
  S = (outcome m t).state.facts

  -- Nothing is refused, every step fires, and the answer is as defined.
  fine : (holds_refusal m t g b ix ≡ none) × (blocked_by (outcome m t).ending ≡ none)
      × (k ≡ round_number cs S g) × (n ≡ rounds_for cs S g)
  fine = round-fine _ _ h.answers

  -- The model is judged.
  shape : shape_fault m ≡ none
  shape = files_shape m t (none-refused m t g b ix fine.0).0

  -- A round number of the last state's closure is below 65,535.
  known_of : (f : ℕ) → T (closure cs S f) → round_number cs S f < 65535
  known_of f i =
      omega (arith, number-rounds cs S f i, rounds-bound cs S, missing_heads-bound cs S, clauses-bound m shape)

  -- What is left, then.
  left : LeftFor (model_of_lem m) (outcome m t) g b a
  unfolding Buffers
  left = rw (fine.0, fine.1) at h.buffers

  -- Every step fires.
  pub all-fire : (c : Condition) → (outcome m t).ending ≡ blocked c → ⊥
  unfolding blocked_by
  all-fire c e = let z : ◌≡◌ {A = Option Condition} (some c) none = rw e at fine.1 in some-none z
    where
      some-none : {x : Condition} → ◌≡◌ {A = Option Condition} (some x) none → ⊥
      some-none z = let y : ◌≡◌ {A = ℕ} 0 1 = cc in absurd (omega arith)

  -- The fact is one of the model's, ..
  pub known-fact : g < fact_count m
  known-fact = (none-refused m t g b ix fine.0).1

  -- .. so that the table has an entry for it.
  low : g < 4096
  low = omega (arith, known-fact, facts-bound m shape)

  -- The answer is what the table of full closing says of the fact, as any check leaves it.
  pub as_full : {b' a' : Lent} → Left (model_of_lem m) (outcome m t) b' a' → k ≡ get_or a'.table g 0
  as_full l = fine.2 ∙ sym (l.rounds.entries g low)

  -- The fact is held exactly if it is in HC of the last state, in document 003's terms.
  pub held_exactly : {X : Facts} → HC cs S X → T (X g) ↔ (k ≡ 65535 → ⊥)
  held_exactly {X} hc =
      let same = HC_unique hc (closure-is-HC cs S) g in (
        λ i e. omega (arith, known_of g (rw same at i), fine.2),
        λ n. rw same (by-test (closure cs S g) passes
            (λ e. absurd (n (fine.2 ∙ (round_number-is cs S g).outside (fails e))))),
      )

  -- The rounds run are the round number when held, ..
  pub rounds_when_held : (k ≡ 65535 → ⊥) → n ≡ k
  rounds_when_held e =
      let t = (held_exactly (closure-is-HC cs S)).1 e in
      fine.3 ∙ rounds-held cs S g t ∙ sym fine.2

  -- .. and all rounds when absent.
  pub rounds_when_absent : k ≡ 65535 → IsRounds cs S n
  rounds_when_absent e =
      let out : T (closure cs S g) → ⊥ = λ i. (held_exactly (closure-is-HC cs S)).0 i e in
      rw (fine.3, rounds-absent cs S g out) (rounds-is cs S)

  -- Each entry of the table shows the fact's first round, as far as the rounds run reach it.
  pub table_shows : (f : ℕ) → f < 4096 → ShownUpTo cs S n f (get_or a.table f 0)
  table_shows f l =
      rw (left.rounds.entries f l, ← fine.3)
      (by-test (round cs S n f)
      (λ e.
      let t = passes e in
      let inside = round_closes cs S n f t in
      rw (shown_in cs S n f t)
      (record {
        stands = λ _. (round_number-is cs S f).stands inside;
        first = λ _. (round_number-is cs S f).first inside;
        run = λ _. number_le cs S n f t;
        unreached = λ z _. omega (arith, known_of f inside);
      }))
      (λ e. rw (shown_out cs S n f (fails e)) (record {
        stands = λ z. absurd (z refl);
        first = λ z. absurd (z refl);
        run = λ z. absurd (z refl);
        unreached = λ _. fails e;
      })))

  -- State and names are left as by the check, from the same buffers.
  pub left_as_checked : {a' : Lent} → LentBytes a → LentBytes a' → Left (model_of_lem m) (outcome m t) b a'
      → (a.state ≡ a'.state) × (a.names ≡ a'.names)
  left_as_checked bytes bytes' l = (
    determined bytes.0 bytes'.0 left.kept l.kept (λ f. left.facts f ∙ sym (l.facts f)),
    determined bytes.1 bytes'.1 left.names-kept l.names-kept (λ f. left.names f ∙ sym (l.names f)),
  )

-- ---- refusals

-- A refusal is no round.
apart : {k j n : ℕ} → Err k ≡ Ok (held j n) → ⊥
apart e = let z : ◌≡◌ {A = ℕ} 0 1 = cc in absurd (omega arith)

-- The first of three, either way.
or_assoc : (a b c : Option ℕ) → (a or_else (b or_else c)) ≡ ((a or_else b) or_else c)
unfolding ◌or_else◌
or_assoc none b c = refl
or_assoc (some x) b c = refl

module _ (m t : List ℕ) (g : ℕ) (l : Lent) (ix : List ℕ) where
  -- With room for the index the numbers are the check's, and then FACT: "after NAME and before any step".
  pub refuses_as_check : no_places_lem m ix ≡ false
      → holds_refusal m t g l ix
      ≡ (map (λ (v : Verdict). v.number) (refusal m t l) or_else given (leb (fact_count m) g) 6)
  unfolding holds_refusal refusal pair_fault given ◌or_else◌ refused
  refuses_as_check enough =
      let steps = steps_fault (length (aims (model_of_lem m))) (length (model_of_lem m).rules) t in
      let fact : Option ℕ = given (leb (fact_count m) g) 6 in
      by-test (no_space_lem l) (λ e. rw e)
      (λ e. rw (e, enough) (or_assoc (map blamed_number (files_fault m t)) (map blamed_number steps) fact
      ∙ ap (λ (o : Option ℕ). o or_else fact) (either_number (files_fault m t) steps)))

  -- Without it 1 is given where sizes, versions and model are right, whatever the trace and the fact.
  pub short-refused : no_places_lem m ix ≡ true → files_fault m t ≡ none → holds_refusal m t g l ix ≡ some 1
  unfolding holds_refusal given ◌or_else◌
  short-refused short files = by-test (no_space_lem l) (λ e. rw e) (λ e. rw (e, files, short))

module _ {m t : List ℕ} {g : ℕ} {b a : Lent} {ix ix' : List ℕ} {k : ℕ}
    (h : HoldsIn m t g b a ix ix' (Err k)) where
  -- What is refused before a step is run changes nothing, ..
  pub refused_leaves : {j : ℕ} → holds_refusal m t g b ix ≡ some j → (k ≡ j) × (a ≡ b) × (ix' ≡ ix)
  unfolding stopped ◌or_else◌ Buffers Index
  refused_leaves e =
      let told : Err k ≡ Err _ = rw e at h.answers in
      (cc, rw e at h.buffers, rw e at h.index)

  -- .. and a step that can't fire leaves all as the check does, whose number it has.
  pub blocked_as_checked : holds_refusal m t g b ix ≡ none
      → (k ≡ (ran m t (outcome m t)).number) × Left (model_of_lem m) (outcome m t) b a
      × IndexHolds (model_of_lem m).clauses ix ix'
  unfolding stopped ◌or_else◌ Buffers Index blocked_by ran number_of
  blocked_as_checked e = go (outcome m t).ending refl
    where
      open_end : blocked_by (outcome m t).ending ≡ none → ⊥
      open_end by = apart (rw (e, by) at h.answers)

      go : (o : Ending) → (outcome m t).ending ≡ o
          → (k ≡ (ran m t (outcome m t)).number) × Left (model_of_lem m) (outcome m t) b a
          × IndexHolds (model_of_lem m).clauses ix ix'
      go (blocked c) o =
          let by : blocked_by (outcome m t).ending ≡ some c = ap blocked_by o in
          let told : Err k ≡ Err (stop_number c) = rw (e, by) at h.answers in
          let number : k ≡ stop_number c = cc in
          (rw o number, rw (e, by) at h.buffers, rw e at h.index)
      go attack o = absurd (open_end (ap blocked_by o))
      go (not_met c) o = absurd (open_end (ap blocked_by o))
      go upheld o = absurd (open_end (ap blocked_by o))

-- ---- one result

module _ (m t : List ℕ) (g : ℕ) (before : Lent) {a b : Lent} (bytes-a : LentBytes a) (bytes-b : LentBytes b) where
  -- Whatever refuses or blocks, the buffers are left in one way.
  pub buffers_unique : (refused : Option ℕ) (c : Option Condition) (M : Model) (o : Outcome)
      → Buffers refused c M o g before a → Buffers refused c M o g before b → a ≡ b
  unfolding Buffers
  buffers_unique (some k) c M o x y = x ∙ sym y
  buffers_unique none (some c) M o x y = left_unique m t before bytes-a bytes-b x y
  buffers_unique none none M o x y =
      let states = determined bytes-a.0 bytes-b.0 x.kept y.kept (λ f. x.facts f ∙ sym (y.facts f)) in
      let tables = filled_unique x.rounds y.rounds in
      let names =
      determined bytes-a.1 bytes-b.1 x.names-kept y.names-kept (λ n. x.names n ∙ sym (y.names n)) in
      λ i. record { state = states i; table = tables i; names = names i }

  -- Two results of asking one pair for one fact are equal in the answer and in every byte and entry.
  pub holds_unique : (ix ia ib : List ℕ) (r s : Result Held ℕ) → HoldsIn m t g before a ix ia r
      → HoldsIn m t g before b ix ib s → (r ≡ s) × (a ≡ b) × (ia ≡ ib)
  holds_unique ix ia ib r s x y =
      let refused = holds_refusal m t g before ix in (
        x.answers ∙ sym y.answers,
        buffers_unique refused (blocked_by (outcome m t).ending) (model_of_lem m) (outcome m t) x.buffers y.buffers,
        index-left refused (model_of_lem m).clauses ix ia ib x.index y.index,
      )
