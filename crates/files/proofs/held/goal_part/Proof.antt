-- `held::goal_part` meets its contract: the goals are the attack states and then the formulas.
use mathlib.Core.Path.{◌∙◌}
use borrow.Author.Tests.{lt-ltb, le-ltb}
use Rattle.files.specs.Answers.{goal_part_lem}
use Rattle.files.proofs.Aims.{state-there, formula-there}
use borrow.Author.Rules.{rules}
use Rattle.files.proofs.held.goal_part.Statement.{statement}
use Rattle.files.proofs.held.goal_part.Tie as tie

state-count-requires : tie.Need-state_count-states-requires
state-count-requires c κs = search rules

record-part-requires : tie.Need-record_part-requires
record-part-requires c κs =
    let below = rw c.state_count-states.ensures at c.if-g-states.true in
    (c.requires.0, state-there c.args.model.now below)

record-part-requires-2 : tie.Need-record_part-requires-else-g-states
record-part-requires-2 c κs =
    let is = c.state_count-states.ensures in
    let there = formula-there c.args.model.now c.args.g (rw is at c.if-g-states.false) c.requires.1 in
    (c.requires.0, rw is there)

returns : tie.Need-returns-then-g-states
unfolding goal_part_lem
returns c =
    let below = rw c.state_count-states.ensures at c.if-g-states.true in
    c.record_part.ensures ∙ rw (lt-ltb _ _ below)

returns-2 : tie.Need-returns-else-g-states
unfolding goal_part_lem
returns-2 c =
    let is = c.state_count-states.ensures in
    let from = rw is at c.if-g-states.false in
    c.record_part-else-g-states.ensures ∙ rw (le-ltb _ _ from, is)

pub goal_part_spec : {M : Type 1} → statement M
goal_part_spec =
    tie.close
    (tie.spec state-count-requires record-part-requires record-part-requires-2 returns returns-2)
