-- The list that is asked for is as many lists ahead as are left to pass, and the list at hand fits.
use Rattle.std.proofs.Common.{◌≡◌, ◌+◌, ◌-◌, ◌*◌, ◌≤◌, length, drop}
use Rattle.records.specs.Words.{word}
use Rattle.lists.specs.Lists.{list_at_lem}
use Rattle.lists.proofs.Cuts.{Ahead}
use Rattle.lists.proofs.list_of.Given as goal

abbrev pub invariant-loop : goal.invariant-loop
invariant-loop l = record {
  fits : l.at + (2 + 2 * word (drop l.at l.whole)) ≤ length l.whole;
  ahead : Ahead (l.j - l.counter) (drop l.at l.whole);
  same : list_at_lem (l.j - l.counter) (drop l.at l.whole) ≡ list_at_lem l.j (drop 2 l.whole);
}
