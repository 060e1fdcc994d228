-- What judging a section of records has shown. No promise to the outside rests on these.
use Rattle.std.specs.Prelude.{ℕ, zero, suc, ◌+◌, ◌*◌, ◌≡◌, false, List, take, drop}
use Rattle.std.proofs.Math.Option.{some}
use Rattle.sets.specs.Sets.{◌∈◌}
use Rattle.records.specs.Words.{word, words, odd}
use Rattle.records.specs.Records.{records, lists_of, list_of}
use Rattle.records.specs.declared.Kind.{Kind}

-- the record's lists fill it
unfoldable pub Cut : Kind → List ℕ → Type 0
unfolding lists_of
Cut K r = (lists : List (List ℕ)) × (lists_of K r ≡ some lists)

-- every record of the section is so: what a judged section gives
unfoldable pub AllCut : Kind → List ℕ → Type 0
unfolding Cut records
AllCut K section = (r : List ℕ) → r ∈ records section → Cut K r

-- "A list is a 2-byte count and that many facts.": the facts' bytes of list j, of the lists that these bytes are
unfoldable pub list_at_lem : ℕ → List ℕ → List ℕ
unfolding word
list_at_lem zero bytes = take (2 * word bytes) (drop 2 bytes)
list_at_lem (suc j) bytes = list_at_lem j (drop (2 + 2 * word bytes) bytes)

-- these bytes are the record's list j: the very bytes, their facts, and that they are 2 bytes each
pub record ListBytes (K : Kind) (r : List ℕ) (j : ℕ) (bytes : List ℕ) : Type 0 where
  pub these : bytes ≡ list_at_lem j (drop 2 r)
  pub facts : words bytes ≡ list_of K r j
  pub even : odd bytes ≡ false
