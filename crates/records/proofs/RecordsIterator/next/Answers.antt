-- The next record is the one at the start, and the rest is behind it.
use Rattle.std.proofs.Common.{rules}
use mathlib.Core.Path.{◌∙◌}
use Rattle.records.proofs.Sections.{records_empty, records-next, record-size}
use Rattle.records.proofs.RecordsIterator.next.Goals as goal

pub returns-then-is_empty-clause-steps : goal.returns-then-is_empty-clause-steps
returns-then-is_empty-clause-steps c =
    let none = records_empty c.args.self.now.0.now (search rules) in
    (none, none)

pub split_at-requires : goal.split_at-requires
split_at-requires c = rw (c.record_at-record.ensures) (record-size c.args.self.now.0.now (search rules)).1

pub returns-clause-steps : goal.returns-clause-steps
returns-clause-steps c =
    records-next c.args.self.now.0.now (search rules)
    ∙ rw (c.split_at.ensures.back, c.record_at-record.ensures)

pub returns-clause-goes : goal.returns-clause-goes
returns-clause-goes c = record {
  on = λ finite. search (rules, returns-clause-steps c);
  keeps = search rules;
  rests = search rules;
}
