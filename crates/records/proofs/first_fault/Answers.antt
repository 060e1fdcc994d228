-- The records are judged in order.
use Prim.Native.Nat.{ℕ, ◌+◌, ◌-◌, ◌≤◌}
use mathlib.Core.Path.{◌≡◌, refl, sym, ap, ◌∙◌}
use mathlib.Core.Bool.{true}
use mathlib.Core.List.{List, ◌∷◌}
use mathlib.Core.Option.{Option, none}
use native.Mathlib.Nat.{le_refl}
use native.Mathlib.Numerals.{add-one}
use native.Mathlib.Omega.{arith}
use lib.ListN.{length, take, drop, length-drop}
use lib.Seq.{length-take-le}
use borrow.Author.Tests.{eqb-true, eqb-false}
use Rattle.std.specs.Prelude.{Result, Ok, Err}
use Rattle.records.specs.Refusals.{refused_by}
use Rattle.records.specs.declared.Refusal.{Refusal}
use Rattle.records.specs.Words.{word}
use Rattle.records.specs.Records.{record_of_lem, records, whole, first_from, first_fault_lem}
use Rattle.records.proofs.Judging.{first-whole, first-not-whole, not-whole}
use Rattle.records.proofs.Sections.{record-fits, records_empty, records-next, first-here, first-later}
use Rattle.records.proofs.Places.{few_records}
use Rattle.records.proofs.first_fault.Goals as goal

-- a record that nothing refuses
passed : (r : Result (Unit {0}) Refusal) (number : Option ℕ) → refused_by r ≡ number
    → ((e : Refusal) → r ≡ Err e → ⊥) → number ≡ none
passed (Ok x) number e not = sym e
passed (Err k) number e not = absurd (not k refl)

-- what stands at the start of what is left, where its length fits
record First (rest body behind : List ℕ) : Type 0 where
  size : length (record_of_lem rest) ≡ 2 + length body
  shorter : length behind + length (record_of_lem rest) ≡ length rest
  whole : (whole (record_of_lem rest) ≡ true) × (body ≡ drop 2 (record_of_lem rest))
  steps : records rest ≡ record_of_lem rest ∷ records behind

first : (rest body behind : List ℕ)
    → (2 + word rest ≤ length rest) × (body ≡ take (word rest) (drop 2 rest)) × (behind ≡ drop (2 + word rest) rest)
    → First rest body behind
first rest body behind (fits, front, back) =
    let w = first-whole rest fits in
    let long : length (record_of_lem rest) ≡ 2 + word rest =
    rw (record-fits rest fits) (length-take-le (2 + word rest) rest fits) in
    let room : word rest ≤ length (drop 2 rest) = omega (arith, fits, length-drop 2 rest) in
    record {
      size = rw front (omega (arith, long, length-take-le (word rest) (drop 2 rest) room));
      shorter = rw back (omega (arith, long, fits, length-drop (2 + word rest) rest));
      whole = (w.0, front ∙ w.1);
      steps = rw (records-next rest (omega (arith, fits)), long, back);
    }

pub loop-rest-init : goal.loop-rest-init
unfolding first_fault_lem
loop-rest-init c =
    let start : length c.args.section.now - length c.args.section.now ≡ 0 = omega arith in
    (le_refl _, omega arith, rw start)

pub returns-in_default : goal.returns-in_default
returns-in_default c =
    let rest = c.loop-rest.rest.now in
    let short = first-not-whole rest c.in_default.ensures in
    rw (
      c.loop-rest.invariant.2,
      records-next rest (omega (arith, eqb-false (length rest) 0 (sym c.loop-rest-test.ensures))),
      short.0,
      first-here _ _ _ _ _ _ (not-whole _ _ _ _ short.1),
    )

pub returns-in-Err : goal.returns-in-Err
returns-in-Err c =
    let f = first _ _ _ c.in-Some.ensures in
    rw (c.loop-rest.invariant.2, f.steps, first-here _ _ _ _ _ _ (sym (c.in-Err.ensures _ f.whole)), f.size)

pub overflow_add-n : goal.overflow_add-n
overflow_add-n c =
    let f = first _ _ _ c.in-Some.ensures in
    omega (arith, c.loop-rest.invariant.1, ap length f.steps, few_records c.args.section.now)

pub loop-rest-preserved : goal.loop-rest-preserved
loop-rest-preserved c =
    let inv = c.loop-rest.invariant in
    let section = c.args.section.now in
    let rest = c.loop-rest.rest.now in
    let behind = c.in-Some.behind.now in
    let f = first _ _ _ c.in-Some.ensures in
    let place : length section - length rest + length (record_of_lem rest) ≡ length section - length behind =
    omega (arith, inv.0, f.shorter) in (
      omega (arith, inv.0, f.shorter),
      omega (arith, inv.1, ap length f.steps),
      inv.2
          ∙ rw (f.steps, add-one, sym place)
          (first-later _ _ _ _ _ (passed _ _ (c.check_body.ensures _ f.whole) c.in_default-check_body.not-Err)),
    )

pub returns : goal.returns
unfolding first_from
returns c =
    let inv = c.loop-rest.invariant in
    let none = records_empty c.loop-rest.rest.now (eqb-true _ _ (sym c.is_empty.ensures ∙ c.loop-rest-test.false)) in
    rw (inv.2, none) (ap Ok (omega (arith, inv.1, ap length none)))
