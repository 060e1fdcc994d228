-- Before a step the buffers hold the state reached (`On`), and the numbers left are those of the later steps; along the
-- conditions of a step's rule the first unmet one is among those still ahead (`Looking`).
use Rattle.std.proofs.Common.{◌≡◌, drop, None}
use Rattle.records.specs.Words.{words}
use Rattle.files.specs.Files.{trace_of}
use Rattle.closing.specs.Closing.{numbered}
use Rattle.stepping.specs.Conditions.{names_in}
use Rattle.stepping.proofs.Looking.{asks, Looking}
use Rattle.reaching.proofs.Stepwise.{On}
use Rattle.reaching.proofs.search.Given as goal

abbrev pub invariant-search : goal.invariant-search
invariant-search l = record {
  on : On l.model l.trace
      (record { state = l.initial.state; table = l.initial.table; names = l.initial.names })
      (record { state = l.state; table = l.table; names = l.names }) l.initial.kept l.kept l.fired l.rounds;
  left : words l.k-iterator.0.now ≡ drop l.fired (trace_of l.trace).steps;
  unstopped : l.stop ≡ None;
}

abbrev pub invariant-loop-i : goal.invariant-loop-i
invariant-loop-i l = record {
  looking : Looking (asks l.lists.p.now l.lists.n.now l.lists.names.now) (numbered l.table) (names_in l.names) l.i;
  unstopped : l.stop ≡ None;
}
