-- What is behind the record's length is judged as its kind asks.
use mathlib.Core.Path.{◌∙◌}
use Rattle.records.proofs.Judging.{judged_clause, judged_lists, judged_codes}
use Rattle.records.proofs.check_body.Goals as goal

pub returns-in-Clause : goal.returns-in-Clause
returns-in-Clause c =
    λ r is. c.check_clause.ensures ∙ judged_clause _ _ _ r _ _ c.in-Clause.is c.beyond-marks.ensures is

pub returns-in-Rule : goal.returns-in-Rule
returns-in-Rule c =
    λ r is. c.check_lists.ensures ∙ judged_lists _ _ _ r _ _ c.in-Rule.is c.beyond-marks.ensures is

pub returns-in-Formula : goal.returns-in-Formula
returns-in-Formula c =
    λ r is. c.check_formula.ensures ∙ judged_codes _ _ _ r _ _ c.in-Formula.is c.beyond-marks.ensures is
