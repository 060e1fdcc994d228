-- `records::record_at` meets its contract: each of its four answers is the record by one of the two laws on `record_of_lem`.
use Prim.Native.Nat.{ℕ, ◌+◌, ◌-◌, ◌≤◌, ◌<◌}
use mathlib.Core.Path.{◌≡◌, ◌∙◌, sym, ap}
use native.Mathlib.Omega.{arith}
use lib.ListN.{length, take, drop, drop_of_length-le}
use lib.Seq.{drop-length}
use Rattle.records.specs.Words.{word}
use Rattle.records.specs.Records.{record_of_lem}
use Rattle.records.proofs.Sections.{rest_of, record-fits, record-rest}
use borrow.Author.Rules.{rules}
use Rattle.records.proofs.record_at.Statement.{statement}
use Rattle.records.proofs.record_at.Tie as tie

sub-result : tie.Need-slice_bounds-result-count
sub-result c = search rules

part-result-start : tie.Need-slice_bounds-result-start
part-result-start c = search rules

part-result-end : tie.Need-slice_bounds-result-end
part-result-end c = search rules

returns : tie.Need-returns-then-section-at
unfolding record_of_lem
returns c =
    let section = c.args.section.now in
    let past = drop_of_length-le section c.if-section-at.true in
    rest_of section (length section) ∙ drop-length section ∙ sym (ap record_of_lem past)

sub-rest : tie.Need-slice_bounds-rest-count
sub-rest c = search rules

part-rest-start : tie.Need-slice_bounds-rest-start
part-rest-start c = search rules

part-rest-end : tie.Need-slice_bounds-rest-end
part-rest-end c = search rules

returns-2 : tie.Need-returns-then-rest-lt2
returns-2 c =
    let section = c.args.section.now in
    let at = c.args.at in
    let short : length (drop at section) < 2 = rw rest_of at c.if-rest-lt2.true in
    rest_of section at ∙ sym (record-rest (drop at section) (omega arith))

word-at-requires : tie.Need-word_at-size-requires
word-at-requires c κs = search rules

sub-if3 : tie.Need-overflow_sub-rest
sub-if3 c = search rules

add-result : tie.Need-overflow_add-result
add-result c = search rules

sub-result-2 : tie.Need-slice_bounds-result-count-then-size-rest
sub-result-2 c = search rules

part-result-start-2 : tie.Need-slice_bounds-result-start-then-size-rest
part-result-start-2 c = search rules

part-result-end-2 : tie.Need-slice_bounds-result-end-then-size-rest
part-result-end-2 c = search rules

returns-3 : tie.Need-returns-then-size-rest
returns-3 c =
    let section = c.args.section.now in
    let at = c.args.at in
    let rest = drop at section in
    let size : c.word_at-size.result ≡ word rest = rw rest_of at c.word_at-size.ensures in
    let long : 2 ≤ length rest = rw rest_of at c.if-rest-lt2.false in
    let fits : c.word_at-size.result ≤ length rest - 2 = rw rest_of at c.if-size-rest.true in
    let end : c.word_at-size.result + 2 - 0 ≡ 2 + word rest = omega arith in
    rw rest_of (ap (λ (n : ℕ). take n rest) end ∙ sym (record-fits rest (omega arith)))

returns-4 : tie.Need-returns-else-size-rest
returns-4 c =
    let section = c.args.section.now in
    let at = c.args.at in
    let rest = drop at section in
    let size : c.word_at-size.result ≡ word rest = rw rest_of at c.word_at-size.ensures in
    let beyond : length rest - 2 < c.word_at-size.result = rw rest_of at c.if-size-rest.false in
    rest_of section at ∙ sym (record-rest rest (omega arith))

pub record_at_spec : {M : Type 1} → statement M
record_at_spec =
    tie.close
    (tie.spec
    sub-result
    part-result-start
    part-result-end
    returns
    sub-rest
    part-rest-start
    part-rest-end
    returns-2
    word-at-requires
    sub-if3
    add-result
    sub-result-2
    part-result-start-2
    part-result-end-2
    returns-3
    returns-4)
