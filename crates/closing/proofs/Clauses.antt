-- The clauses of a judged section, one at a time: what each is.
use Prim.Native.Nat.{ℕ, ◌+◌, ◌-◌, ◌≤◌, ◌<◌}
use mathlib.Core.Path.{◌≡◌, refl, sym, ap, ◌∙◌}
use mathlib.Core.Bool.{Bool, false}
use mathlib.Core.List.Memᴰ
use mathlib.Core.List.{List, ◌∷◌, map}
use native.Mathlib.Omega.{arith}
use lib.Dec.{eqb}
use lib.ListN.{length, take, drop, length-drop}
use borrow.Author.Tests.{eqb-false}
use Rattle.sets.specs.Sets.{Facts, every}
use Rattle.meaning.specs.Model.{Clause}
use Rattle.meaning.specs.Rounds.{stands}
use Rattle.records.specs.Words.{word, words}
use Rattle.records.specs.Records.{record_of_lem, records}
use Rattle.lists.specs.Lists.{AllCut}
use Rattle.records.specs.declared.Kind.{Kind}
use Rattle.records.proofs.Sections.{rest_of, records-next}
use Rattle.lists.proofs.Clauses.{ClauseBytes, clause-bytes}
use Rattle.files.specs.Files.{clause_of, clauses_in}
use Rattle.closing.specs.Closing.{Bounded}
use Rattle.closing.specs.Sweep.{Body}

-- These bytes are a section's first clause: its head and whole facts, all below 4,096; and the section's clauses are it
-- and those of the rest, which are judged as they are.
pub record ClauseFirst (section clause rest : List ℕ) : Type 0 where
  pub long : 4 ≤ length clause
  pub head : word (drop 2 clause) < 4096
  pub body : Body (drop 4 clause)
  pub next : clauses_in section ≡ clause_of clause ∷ clauses_in rest
  pub cut : AllCut Kind.Clause rest
  pub bounded : Bounded (clauses_in rest)

-- Fewer clauses are bounded too.
bounded-rest : {c : Clause} {cs : List Clause} → Bounded (c ∷ cs) → Bounded cs
bounded-rest b =
    record {
      count = omega (arith, b.count);
      heads = λ d m. b.heads d (Memᴰ.tail m);
      bodies = λ d m. b.bodies d (Memᴰ.tail m);
    }

module _ (section : List ℕ) (some : false ≡ eqb (length section) 0) (all : AllCut Kind.Clause section) where
  abbrev r : List ℕ
  r = record_of_lem section

  parts : records section ≡ r ∷ records (drop (length r) section)
  parts = records-next section (omega (arith, eqb-false (length section) 0 (sym some)))

  bytes : ClauseBytes section
  unfolding AllCut
  bytes = clause-bytes section (all r (rw parts (Memᴰ.head refl)))

  -- A judged section starts with a whole record, ..
  pub clause-fits : 2 + word section ≤ length section
  clause-fits = bytes.fits

  -- .. which is a clause.
  pub clause-first : Bounded (clauses_in section) → (n : ℕ) → n ≡ word section → {clause rest : List ℕ}
      → clause ≡ take (2 + n) section → rest ≡ drop (2 + n) section → ClauseFirst section clause rest
  unfolding clauses_in clause_of AllCut
  clause-first b n e {clause} {rest} front back =
      let same : clause ≡ r = front ∙ ap (λ (k : ℕ). take (2 + k) section) e ∙ sym bytes.is in
      let others : rest ≡ drop (length r) section =
      back ∙ ap (λ (k : ℕ). drop k section) (ap (λ (k : ℕ). 2 + k) e ∙ sym bytes.size) in
      let four : length (drop 4 r) ≡ length r - 4 = length-drop 4 r in
      let next : clauses_in section ≡ clause_of r ∷ clauses_in (drop (length r) section) = ap (map clause_of) parts in
      let bounded : Bounded (clause_of r ∷ clauses_in (drop (length r) section)) = rw next at b in
      rw (same, others)
      (record {
        long = omega (arith, bytes.size, bytes.head);
        head = bounded.heads (clause_of r) (Memᴰ.head refl);
        body = record {
          even = omega (arith, bytes.size, bytes.head, bytes.even);
          below = bounded.bodies (clause_of r) (Memᴰ.head refl);
        };
        next = next;
        cut = λ r' m. all r' (rw parts (Memᴰ.tail m));
        bounded = bounded-rest bounded;
      })

-- ---- what the code looks at in a clause

pub head-is : (clause : List ℕ) (h : ℕ) → h ≡ word (drop 2 clause) → h ≡ (clause_of clause).head
unfolding clause_of
head-is clause h e = e

pub body_stands : (clause : List ℕ) (X : Facts) (b : Bool)
    → b ≡ every X (words (take (length clause - 4) (drop 4 clause))) → b ≡ stands X (clause_of clause)
unfolding clause_of stands
body_stands clause X b e = e ∙ ap (λ (l : List ℕ). every X (words l)) (rest_of clause 4)
