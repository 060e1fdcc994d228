-- `held::formula` meets its contract: an attack state has no codes, a formula's stand behind its record's length.
use Prim.Native.Nat.{◌-◌, ◌≤◌, ◌<◌}
use mathlib.Core.Path.{◌≡◌, refl}
use mathlib.Core.List.{[]}
use native.Mathlib.Omega.{arith}
use lib.ListN.{length, get_or}
use Rattle.records.specs.Records.{records}
use Rattle.records.proofs.Sections.{rest_of}
use Rattle.sections.specs.declared.Role.TheVariants.{Formulas}
use Rattle.files.specs.Files.{section_of, model_of_lem}
use Rattle.files.proofs.Aims.{formula-there}
use Rattle.files.proofs.Formulas.{formula-long, formula-codes}
use borrow.Author.Rules.{rules}
use Rattle.files.proofs.held.formula.Statement.{statement}
use Rattle.files.proofs.held.formula.Tie as tie

state-count-requires : tie.Need-state_count-states-requires
state-count-requires c κs = search rules

slice-aggregate-result : tie.Need-slice_bounds-result-end
slice-aggregate-result c = search rules

-- the goal is an attack state
returns : tie.Need-returns-then-g-states
returns c =
    let below = rw c.state_count-states.ensures at c.if-g-states.true in
    record { state = λ _. refl; formula = λ from. absurd (omega arith) }

-- the goal is a formula
from : (c : tie.Else-g-states)
    → let args = c.args in
    length (model_of_lem args.model.now).goals ≤ args.g
from c = rw c.state_count-states.ensures at c.if-g-states.false

-- so it has a record,
there : (c : tie.Else-g-states)
    → let args = c.args in
    args.g - length (model_of_lem args.model.now).goals < length (records (section_of args.model.now Formulas))
there c =
    formula-there c.args.model.now c.args.g (from c) c.requires.1

-- this one.
this : (c : tie.After-record-record)
    → let args = c.args in
    let m = args.model.now in
    c.record-record.result.now ≡ get_or (records (section_of m Formulas)) (args.g - length (model_of_lem m).goals) []
this c = rw c.state_count-states.ensures at c.record-record.ensures

long : (c : tie.After-record-record) → 2 ≤ length c.record-record.result.now
long c =
    rw (this c) (formula-long c.args.model.now c.requires.0 _ (there c.before))

record-requires : tie.Need-record-record-requires
record-requires c κs = (c.requires.0, rw c.state_count-states.ensures (there c))

sub-result : tie.Need-slice_bounds-result-count
sub-result c = long c

part-result-start : tie.Need-slice_bounds-result-start
part-result-start c = long c

part-result-end : tie.Need-slice_bounds-result-end-2
part-result-end c = search rules

returns-2 : tie.Need-returns
returns-2 c =
    let m = c.args.model.now in
    let after = from c.before.before in
    record {
      state = λ below. absurd (omega arith);
      formula = λ _.
          rw (rest_of c.before.record-record.result.now 2, this c.before)
          (formula-codes m c.requires.0 c.args.g after c.requires.1);
    }

pub formula_spec : {M : Type 1} → statement M
formula_spec =
    tie.close
    (tie.spec
    state-count-requires
    slice-aggregate-result
    returns
    record-requires
    sub-result
    part-result-start
    part-result-end
    returns-2)
