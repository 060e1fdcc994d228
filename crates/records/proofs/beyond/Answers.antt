-- `records::beyond` meets its contract: the bound is that of the kind.
use Rattle.records.specs.Marking.{before}
use Rattle.records.proofs.beyond.Goals as goal
use Rattle.records.proofs.beyond.Goals.{in-Clause, in-Rule, in-Maker, in-Goal, in-Formula}

pub returns : goal.returns
unfolding before
returns c =
    elim c.match-kind.branch [
      | in-Clause w ↦ rw (w.most-is, w.in-Clause.is)
      | in-Rule w ↦ rw (w.most-is, w.in-Rule.is)
      | in-Maker w ↦ rw (w.most-is, w.in-Maker.is)
      | in-Goal w ↦ rw (w.most-is, w.in-Goal.is)
      | in-Formula w ↦ rw (w.most-is, w.in-Formula.is)
    ]
