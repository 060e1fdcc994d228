-- Contracts between functions: the marks that judging a record collects. No promise to the outside rests on them.
use Rattle.std.specs.Prelude.{ℕ, Bool, false, not, ◌&&◌, ◌||◌, List, leb, ltb, length}
use Rattle.std.proofs.Math.Option.{Option, none, some}
use Rattle.sets.specs.Sets.{any}
use Rattle.records.specs.Codes.{is_formula_lem}
use Rattle.records.specs.Words.{words, odd, ascending}
use Rattle.records.specs.Records.{given, ◌or_else◌, most, over_long, wrong_fact, wrong_name, any_list}
use Rattle.records.specs.declared.Kind.{Kind}
use Rattle.records.specs.declared.Marks.{Marks}
use Rattle.records.specs.declared.Row.{Row}

-- the marks before a record's lists are looked at: whether record n is beyond its section's bound
unfoldable pub before : Kind → ℕ → Marks
unfolding most
before K n = record { count = leb (most K) n; fact = false; name = false; order = false }

-- the marks with those of one more list, of names or of facts: whether it is over long, has a number that is too
-- large, or doesn't ascend
abbrev pub marked : Bool → Marks → Bool → Bool → Bool → Marks
marked names m long large broken = record {
  count = m.count || long;
  fact = m.fact || not names && large;
  name = m.name || names && large;
  order = m.order || broken;
}

-- the same of a list and its row
unfoldable pub marked_by : Row → List ℕ → Marks → Marks
unfolding any ascending
marked_by row l m = marked row.names m (over_long row l) (any (leb row.limit) l) (not (ascending l))

-- the number for some marks: 5 before 6 before 12 before 7
unfoldable pub picked : Marks → Option ℕ
unfolding given ◌or_else◌
picked m = given m.count 5 or_else given m.fact 6 or_else given m.name 12 or_else given m.order 7

-- the number for a record with these lists, after some marks: 4 where there are none
unfoldable pub picked_of : List Row → Marks → Option (List (List ℕ)) → Option ℕ
unfolding picked any_list any ascending
picked_of rows m none = some 4
picked_of rows m (some lists) =
    picked
    (record {
      count = m.count || any_list over_long rows lists;
      fact = m.fact || any_list wrong_fact rows lists;
      name = m.name || any_list wrong_name rows lists;
      order = m.order || any (λ l. not (ascending l)) lists;
    })

-- the number for a formula's codes, of a record that is one too many or is not
unfoldable pub judge_codes : ℕ → Bool → List ℕ → Option ℕ
unfolding given ◌or_else◌ odd words any
judge_codes F beyond bytes =
    given (odd bytes) 4
    or_else given (beyond || ltb 255 (length (words bytes))) 5
    or_else given (any (λ c. leb F c && ltb c 32768) (words bytes)) 6
    or_else given (not (is_formula_lem (words bytes))) 17
