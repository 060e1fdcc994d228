-- `both::cut` meets its contract: past the file's end there is nothing, and of the rest as much as there is.
use Prim.Native.Nat.{◌≤◌}
use mathlib.Core.Path.{sym, ap, ◌∙◌}
use native.Mathlib.Omega.{arith}
use lib.ListN.{length, take, drop, drop_of_length-le}
use lib.Seq.{take-nil, take_all, drop-length, length-take-le}
use borrow.Author.Rules.{rules}
use Rattle.records.proofs.Sections.{rest_of}
use Rattle.files.proofs.both.cut.Statement.{statement}
use Rattle.files.proofs.both.cut.Tie as tie

sub-result : tie.Need-slice_bounds-result-count
sub-result c = search rules

part-result-start : tie.Need-slice_bounds-result-start
part-result-start c = search rules

part-result-end : tie.Need-slice_bounds-result-end
part-result-end c = search rules

returns : tie.Need-returns-then-file-start
returns c =
    let a = c.args in
    let file = a.file.now in
    let past : length file ≤ a.start = omega arith in
    rest_of file (length file) ∙ drop-length file
    ∙ sym (ap (take a.size) (drop_of_length-le file past) ∙ take-nil a.size)

sub-rest : tie.Need-slice_bounds-rest-count
sub-rest c = search rules

part-rest-start : tie.Need-slice_bounds-rest-start
part-rest-start c = search rules

part-rest-end : tie.Need-slice_bounds-rest-end
part-rest-end c = search rules

slice-aggregate-result : tie.Need-slice_bounds-result-end-then-size-rest
slice-aggregate-result c = sym (length-take-le _ _ (omega arith))

returns-2 : tie.Need-returns-then-size-rest
returns-2 c = rw rest_of

returns-3 : tie.Need-returns-else-size-rest
returns-3 c =
    let a = c.args in
    let rest = rest_of a.file.now a.start in
    rest ∙ sym (take_all a.size (drop a.start a.file.now) (rw rest at c.if-size-rest.false))

pub cut_spec : {M : Type 1} → statement M
cut_spec =
    tie.close
    (tie.spec
    sub-result
    part-result-start
    part-result-end
    returns
    sub-rest
    part-rest-start
    part-rest-end
    slice-aggregate-result
    returns-2
    returns-3)
