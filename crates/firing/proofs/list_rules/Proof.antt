-- `firing::list_rules` meets its contract: k rules were passed up to `at`, and n of them fire.
use Prim.Native.Nat.{ℕ, ◌+◌, ◌-◌, ◌≤◌, ◌<◌}
use mathlib.Core.Path.{◌≡◌, refl, sym, ap, ◌∙◌}
use mathlib.Core.Logic.{⊎_elim}
use mathlib.Core.List.Memᴰ
use mathlib.Core.List.{List, ◌∷◌, map}
use native.Mathlib.Omega.{arith}
use lib.ListN.{length, drop, get_or, length-drop}
use Rattle.sets.specs.Sets.{◌∈◌}
use Rattle.meaning.specs.Model.{Rule}
use Rattle.records.specs.Words.{word}
use Rattle.records.specs.Records.{records}
use Rattle.records.proofs.Sections.{record-size, records-at, records-end}
use Rattle.sections.specs.declared.Role.TheVariants.{Rules}
use Rattle.files.specs.Files.{section_of, rule_in, model_of_lem}
use Rattle.closing.specs.Closing.{numbered}
use Rattle.stepping.specs.Conditions.{names_in}
use Rattle.firing.specs.Firing.{fires_by}
use Rattle.firing.proofs.Numbers.{Listing, listing_start, listing_room, listing_hit, listing_miss}
use Rattle.firing.proofs.Numbers.{listing_end, listing_long}
use Rattle.firing.proofs.Records.{few-rules, rule-long}
use borrow.Author.Rules.{rules}
use Rattle.firing.proofs.list_rules.Statement.{statement}
use Rattle.firing.proofs.list_rules.Tie as tie

-- the rules from a place of their section on
abbrev rules_from : List ℕ → List ℕ → ℕ → List Rule
rules_from model rules at = map (rule_in (get_or model 0 0)) (records (drop at rules))

abbrev invariant-loop : tie.invariant-loop-at
invariant-loop model table names list₀ rules at₀ k₀ n₀ list at k n =
    Listing (fires_by (numbered table) (names_in names)) (model_of_lem model).rules (rules_from model rules at) k n list₀ list
    × ((r : List ℕ) → r ∈ records (drop at rules) → r ∈ records (section_of model Rules))

abbrev decreases-loop : tie.decreases-loop-at
decreases-loop model table names list₀ rules at₀ k₀ n₀ list at k n = length rules - at

section-requires : tie.Need-section-rules-requires invariant-loop decreases-loop
section-requires c κs = search rules

loop-holds : tie.Need-loop-at-init invariant-loop decreases-loop
unfolding model_of_lem
loop-holds c = rw c.section-rules.ensures (listing_start _, λ r there. there)

record-at-requires : tie.Need-record_at-rule-requires invariant-loop decreases-loop
record-at-requires c κs = search rules

-- In a turn: the rule at the place is the first of those that are left.
module _ (c : tie.After-record_at-rule invariant-loop decreases-loop) where
  abbrev loop : tie.At-loop-at invariant-loop decreases-loop
  loop = c.before.before

  abbrev entry : tie.Start invariant-loop decreases-loop
  entry = c.before.before.before.before.before.before.before.before

  abbrev model : List ℕ
  model = entry.args.model.now

  abbrev bytes : List ℕ
  bytes = loop.section-rules.result.now

  abbrev rule : List ℕ
  rule = c.record_at-rule.result.now

  abbrev at : ℕ
  at = loop.loop-at.at

  next : records (drop at bytes) ≡ rule ∷ records (drop (at + length rule) bytes)
  next = records-at bytes at rule c.record_at-rule.ensures c.loop-at-test.true

  there : rule ∈ records (section_of model Rules)
  there = loop.loop-at.invariant.1 rule (rw next (Memᴰ.head refl))

  listing : Listing (fires_by (numbered entry.args.table.now) (names_in entry.args.names.now))
      (model_of_lem model).rules (rule_in (get_or model 0 0) rule ∷ rules_from model bytes (at + length rule))
      loop.loop-at.k loop.loop-at.n entry.args.list.now loop.loop-at.list
  listing = rw next at loop.loop-at.invariant.0

  long : length rule ≡ 2 + word rule
  long = rule-long model entry.requires.0 rule there

  few : loop.loop-at.k < 2048
  few = omega (arith, listing.left, few-rules model entry.requires.0)

-- Every record has bytes.
some : (c : tie.After-record_at-rule invariant-loop decreases-loop) → (0 < length (rule c)) × (at c + length (rule c) ≤ length (bytes c))
some c =
    let inside = c.loop-at-test.true in
    let size = record-size (drop (at c) (bytes c)) (rw length-drop (omega (arith, inside))) in
    let same = ap length c.record_at-rule.ensures in
    (omega (arith, size.0, same), omega (arith, size.1, same, length-drop (at c) (bytes c), inside))

-- Its length is read from its first bytes.
size : (c : tie.After-word_at-size invariant-loop decreases-loop) → 2 + c.word_at-size.result ≡ length (rule c.before)
size c = ap (λ n. 2 + n) c.word_at-size.ensures ∙ sym (long c.before)

word-at-requires : tie.Need-word_at-size-requires invariant-loop decreases-loop
word-at-requires c κs = omega (arith, long c)

add-size : tie.Need-overflow_add-size invariant-loop decreases-loop
add-size c = omega (arith, size c, some c.before)

fires-requires : tie.Need-fires-requires invariant-loop decreases-loop
fires-requires c κs = (c.requires.0, there c.before, c.requires.1)

mul-list : tie.Need-offset_bounds-list-n invariant-loop decreases-loop
mul-list c = omega (arith, few c.before.before.before, (listing c.before.before.before).few)

slice-write-list : tie.Need-bounds-list-n invariant-loop decreases-loop
slice-write-list c =
    omega (arith, listing_room (listing c.before.before.before) c.requires.2, listing_long (listing c.before.before.before) c.requires.2)

add-n : tie.Need-overflow_add-n invariant-loop decreases-loop
add-n c = omega (arith, few c.before.before.before, (listing c.before.before.before).few)

add_at : tie.Need-overflow_add-at invariant-loop decreases-loop
add_at c = omega (arith, some c.before.before.before, size c.before.before)

add-k : tie.Need-overflow_add-k invariant-loop decreases-loop
add-k c = omega (arith, few c.before.before.before)

loop-less : tie.Need-loop-at-smaller invariant-loop decreases-loop
loop-less c = omega (arith, some c.before.before.before, size c.before.before)

loop-again : tie.Need-loop-at-preserved invariant-loop decreases-loop
loop-again c =
    rw (size c.before.before) (
      ⊎_elim
          (λ w.
          rw (w.list-is, w.n-is)
          (listing_hit (listing c.before.before.before) (sym c.fires.ensures ∙ w.if-fires.true) c.requires.2))
          (λ w. rw (w.list-is, w.n-is) (listing_miss (listing c.before.before.before) (sym c.fires.ensures ∙ w.if-fires.false)))
          c.if-fires.branch-raw,
      λ x m. c.loop-at.invariant.1 x (rw (next c.before.before.before) (Memᴰ.tail m)),
    )

same_length : tie.Need-shape_of-list invariant-loop decreases-loop
same_length c =
    listing_long c.loop-at.invariant.0 c.requires.2

returns : tie.Need-returns invariant-loop decreases-loop
returns c =
    let bytes = c.section-rules.result.now in
    let done = records-end bytes c.loop-at.at c.loop-at-test.false in
    listing_end (rw done at c.loop-at.invariant.0)

pub list_rules_spec : {M : Type 1} → statement M
list_rules_spec =
    tie.close
    (tie.spec
    invariant-loop
    decreases-loop
    section-requires
    loop-holds
    record-at-requires
    word-at-requires
    add-size
    fires-requires
    mul-list
    slice-write-list
    add-n
    add_at
    add-k
    loop-less
    loop-again
    same_length
    returns)
