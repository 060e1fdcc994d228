-- Laws on judging a model's sections in order: the first of them that is at fault, what is counted on the way, and what
-- the sizes and bare numbers are that have no fault.
use Prim.Native.Nat.{ℕ, suc, ◌+◌, ◌≤◌, ◌<◌}
use mathlib.Core.Path.{◌≡◌, refl, ◌∙◌, sym, ap}
use mathlib.Core.Bool.{Bool, true, false, not, ◌&&◌, cond}
use mathlib.Core.List.{List, ◌∷◌}
use mathlib.Core.Option.{Option, none, some, some-ne-none}
use native.Mathlib.Nat.{add-zero}
use native.Mathlib.Numerals.{add-one}
use native.Mathlib.Omega.{arith}
use lib.Dec.{leb, ltb, eqb}
use lib.ListN.{length, drop, get_or, length-map, length-drop, drop_of_length-le}
use lib.Seq.{drop-cons}
use borrow.Author.Tests.{lt-ltb, le-ltb, leb-false, ltb-false, eqb-true, not-false}
use Rattle.sets.specs.Sets.{any, ◌∈◌}
use Rattle.sets.proofs.Laws.{by-test, is_false, fails, any_intro}
use Rattle.records.specs.Words.{word, words, odd, ascending}
use Rattle.records.specs.Records.{given, ◌or_else◌, record_of_lem, records, bare}
use Rattle.records.specs.Refusals.{Fault}
use Rattle.records.proofs.Sections.{record-size, records-none, records-next}
use Rattle.records.proofs.Places.{by-records}
use Rattle.sections.specs.Sections.{end_at, fits, section_at, payload, in_section, rest_fault_lem, left_over, all_of, sizes}
use Rattle.sections.specs.Sections.{reader, entries}
use Rattle.std.specs.Prelude.{Result, Ok, Err}
use Rattle.records.specs.Refusals.{fault_of, told, answer_or}
use Rattle.records.specs.declared.Fault.{Fault as NamedFault}
use Rattle.records.proofs.Laws.{told_ok, told_err}
use Rattle.sections.specs.declared.Passed.{Passed}
use Rattle.sections.specs.declared.Role.{Role}
use Rattle.sections.specs.declared.Role.TheVariants.{Sizes, Initial, Persistent, Names, Clauses, Rules, Goals}
use Rattle.sections.specs.declared.Role.TheVariants.{Formulas}
use Rattle.sections.proofs.Fits.{neither, not-given, section-fine}
use Rattle.sections.proofs.Parts.{fit-ended, ended-size}
use Rattle.sections.proofs.Answers.{or_first, or_next}
use Rattle.files.specs.Files.{roles, roles_of, tag, index_of, has, place_of_role, section_of, fact_count, clauses_in}
use Rattle.files.specs.Files.{fault_from, shape_fault}
use Rattle.files.specs.Answers.{counts_of, noted, noted_from}
use Rattle.files.specs.declared.Counts.{Counts}
use Rattle.files.proofs.Roles.{by-version, always, section-there}
use Rattle.files.proofs.Aims.{aim-records}

-- ---- counting

records-few : (section : List ℕ) → length (records section) ≤ length section
records-few =
    by-records (λ section. length (records section) ≤ length section) (rw records-none (omega arith))
    (λ section h few.
    let left = length-drop (length (record_of_lem section)) section in
    rw (records-next section h) (omega (arith, record-size section h)))

-- A section has no more records than bytes.
entries-few : (r : Role) (bytes : List ℕ) → entries r bytes ≤ length bytes
unfolding entries
entries-few Sizes bytes = omega arith
entries-few Initial bytes = omega arith
entries-few Persistent bytes = omega arith
entries-few Names bytes = omega arith
entries-few Clauses bytes = records-few bytes
entries-few Rules bytes = records-few bytes
entries-few Goals bytes = records-few bytes
entries-few Formulas bytes = records-few bytes

-- No section adds more goals than it has records.
noted-few : (n : Counts) (r : Role) (k : ℕ) → (noted n r k).goals ≤ n.goals + k
unfolding noted
noted-few n Sizes k = omega arith
noted-few n Initial k = omega arith
noted-few n Persistent k = omega arith
noted-few n Names k = omega arith
noted-few n Clauses k = omega arith
noted-few n Rules k = omega arith
noted-few n Goals k = omega arith
noted-few n Formulas k = omega arith

-- ---- the sections in order

-- Judging with F facts has come to section i, at a place, with counts: the model's first fault and its counts are those
-- from here on, and no more goals are counted than bytes passed.
pub record Onward (file : List ℕ) (F i at : ℕ) (n : Counts) : Type 0 where
  pub fault : shape_fault file ≡ fault_from (drop i (roles_of file)) F file at
  pub counts : counts_of file ≡ noted_from (drop i (roles_of file)) file at n
  pub few : n.goals ≤ at

module _ (file : List ℕ) (F : ℕ) where
  -- The sizes are judged without F; so an F that is the model's where they are fine finds the same first fault.
  by-facts : (x : Option Fault) (rest : ℕ → Option Fault) → (x ≡ none → F ≡ fact_count file)
      → (x or_else rest (fact_count file)) ≡ (x or_else rest F)
  unfolding ◌or_else◌
  by-facts none rest told = ap rest (sym (told refl))
  by-facts (some f) rest told = refl

  -- the counts by the places of sections of these roles
  abbrev counted : List Role → Counts
  counted rs =
      let count : Role → ℕ = λ r. length (records (payload file (section_at file (index_of r rs)))) in
      let formulas = cond (ltb (index_of Formulas rs) (length rs)) (count Formulas) 0 in
      record { clauses = count Clauses; rules = count Rules; goals = count Goals + formulas }

  -- a version without formulas has none
  formulas-placed : length (records (section_of file Formulas))
      ≡ cond (has file Formulas) (length (records (payload file (place_of_role file Formulas)))) 0
  unfolding section_of
  formulas-placed =
      by-test (has file Formulas) (λ e. rw e) (λ e. rw (e, records-none))

  counts-placed : counts_of file ≡ counted (roles_of file)
  unfolding counts_of clauses_in place_of_role
  counts-placed =
      let there = always file in
      rw (
        aim-records file,
        formulas-placed,
        length-map,
        length-map,
        section-there file Clauses there.clauses,
        section-there file Rules there.rules,
        section-there file Goals there.goals,
      )

  start-counts : counts_of file ≡ noted_from (roles_of file) file 1 (record { clauses = 0; rules = 0; goals = 0 })
  unfolding roles_of section_at noted_from noted entries index_of tag
  start-counts =
      counts-placed
      ∙ by-version (λ rs. counted rs ≡ noted_from rs file 1 (record { clauses = 0; rules = 0; goals = 0 }))
      (simp add-zero) (simp add-zero) (simp add-zero) refl (get_or file 0 0)

  -- It starts with the sizes.
  pub onward-start : (in_section (reader (get_or file 0 0) Sizes F) file 1 ≡ none → F ≡ fact_count file)
      → Onward file F 0 1 (record { clauses = 0; rules = 0; goals = 0 })
  unfolding shape_fault fault_from roles_of roles section_at reader in_section
  onward-start told = record {
    fault =
        by-facts (in_section (reader (get_or file 0 0) Sizes F) file 1)
        (λ k. fault_from (drop 1 (roles_of file)) k file (end_at file 1)) told;
    counts = start-counts;
    few = omega arith;
  }

  module _ {i at : ℕ} {n : Counts} (on : Onward file F i at n) where
    module _ (h : i < length (roles_of file)) where
      here : drop i (roles_of file) ≡ get_or (roles_of file) i Sizes ∷ drop (suc i) (roles_of file)
      here = drop-cons (roles_of file) i Sizes h

      module _ {r : Result Passed NamedFault}
          (is : told r
          ≡ answer_or (in_section (reader (get_or file 0 0) (get_or (roles_of file) i Sizes) F) file at)
          (record {
            end = end_at file at;
            count = entries (get_or (roles_of file) i Sizes) (payload file at);
          })) where
        -- The section is fine: the records counted are no more than its bytes.
        pub onward-few : {p : Passed} → r ≡ Ok p → (n.goals + p.count ≤ p.end) × (p.end ≤ length file)
        onward-few {p} fit-is =
            let role = get_or (roles_of file) i Sizes in
            let (fine, is') = told_ok _ _ p (ap told (sym fit-is) ∙ is) in
            let (fit, _) = section-fine (reader (get_or file 0 0) role F) file at fine in
            let ended = fit-ended file at fit in
            rw is' (omega (arith, ended, ended-size file at _ ended, entries-few role (payload file at), on.few))

        -- It comes to the next one.
        pub onward-next : {p : Passed} → r ≡ Ok p
            → Onward file F (i + 1) p.end (noted n (get_or (roles_of file) i Sizes) p.count)
        unfolding fault_from noted_from
        onward-next {p} fit-is =
            let (fine, is') = told_ok _ _ p (ap told (sym fit-is) ∙ is) in
            let few = onward-few fit-is in
            record {
              fault = on.fault ∙ rw (here, add-one i, is') (or_next _ _ fine);
              counts = on.counts ∙ rw (here, add-one i, is');
              few = omega (arith, few, noted-few n (get_or (roles_of file) i Sizes) p.count);
            }

        -- It is at fault: that is the model's first fault.
        pub onward-fault : {f : NamedFault} → r ≡ Err f → shape_fault file ≡ some (fault_of f)
        unfolding fault_from
        onward-fault {f} fit-is =
            on.fault ∙ rw here (or_first _ _ _ (told_err _ _ f (ap told (sym fit-is) ∙ is)))

    module _ (h : length (roles_of file) ≤ i) where
      -- After the last section bytes are left over.
      pub onward-left : at < length file → shape_fault file ≡ some (rest_fault_lem file at)
      unfolding fault_from left_over
      onward-left more = on.fault ∙ rw (drop_of_length-le (roles_of file) h, lt-ltb _ _ more)

      -- None are: nothing is at fault, and the counts are the model's.
      pub onward-end : length file ≤ at → (shape_fault file ≡ none) × (n ≡ counts_of file)
      unfolding fault_from noted_from left_over
      onward-end done = (
        on.fault ∙ rw (drop_of_length-le (roles_of file) h, le-ltb _ _ done),
        sym (on.counts ∙ rw (drop_of_length-le (roles_of file) h)),
      )

-- ---- the sizes and bare numbers

-- A number for all of some bytes that is not there is none.
pub all-fine : (number : Option ℕ) (bytes : List ℕ) → all_of number bytes ≡ none → number ≡ none
unfolding all_of
all-fine none bytes e = refl
all-fine (some k) bytes e = absurd (some-ne-none _ e)

-- Sizes with no fault are two bytes, a number of at most 4,096.
pub sizes-fine : (bytes : List ℕ) → sizes bytes ≡ none → (length bytes ≡ 2) × (word bytes ≤ 4096)
unfolding sizes
sizes-fine bytes e =
    let (two, small) = neither (given (not (eqb (length bytes) 2)) 4) (given (ltb 4096 (word bytes)) 5) e in
    (eqb-true _ _ (not-false _ (not-given _ _ two)), ltb-false _ _ (not-given _ _ small))

-- Where the sizes are fine, their two bytes end at place 7 of the file.
pub sizes-end : (F : ℕ) (file : List ℕ) → in_section (reader (get_or file 0 0) Sizes F) file 1 ≡ none
    → (fits file 1 ≡ true) × (end_at file 1 ≡ 7)
unfolding reader
sizes-end F file e =
    let (fit, fine) = section-fine (reader (get_or file 0 0) Sizes F) file 1 e in
    let (two, small) = sizes-fine (payload file 1) (all-fine (sizes (payload file 1)) _ fine) in
    let ended = fit-ended file 1 fit in
    (fit, omega (arith, ended, ended-size file 1 _ ended))

-- Bare numbers with no fault leave no byte over,
pub bare-even : (names : Bool) (limit : ℕ) (bytes : List ℕ) → bare names limit bytes ≡ none → odd bytes ≡ false
unfolding bare
bare-even names limit bytes e = not-given _ _ (neither (given (odd bytes) 4) _ e).0

-- and are below the limit and strictly ascending.
pub bare-fine : (names : Bool) (limit : ℕ) (bytes : List ℕ) → bare names limit bytes ≡ none
    → ((n : ℕ) → n ∈ words bytes → n < limit) × (ascending (words bytes) ≡ true)
unfolding bare
bare-fine names limit bytes e =
    let large = any (leb limit) (words bytes) in
    let (even, rest) = neither (given (odd bytes) 4) _ e in
    let (facts, rest') = neither (given (not names && large) 6) _ rest in
    let (named, ordered) = neither (given (names && large) 12) _ rest' in
    let small : large ≡ false = either-clear names large (not-given _ _ facts) (not-given _ _ named) in (
      λ n m. leb-false limit n (is_false (λ t. fails small (any_intro (leb limit) (words bytes) n m t))),
      not-false _ (not-given _ _ ordered),
    )
  where
    either-clear : (names large : Bool) → (not names && large) ≡ false → (names && large) ≡ false → large ≡ false
    either-clear true large e f = f
    either-clear false large e f = e
