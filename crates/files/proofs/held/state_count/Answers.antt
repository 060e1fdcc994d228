-- The attack states are the records of their section.
use mathlib.Core.Path.{refl, sym, ap, ◌∙◌}
use mathlib.Core.Logic.{inl}
use native.Mathlib.Omega.{arith}
use lib.ListN.{length}
use Rattle.std.proofs.lemmas.Iterator.Consumers.{YieldsList-from_first, count_from_yields_List}
use Rattle.records.specs.Records.{records}
use Rattle.records.proofs.Places.{few_records}
use Rattle.files.proofs.Aims.{state-records}
use Rattle.files.proofs.held.state_count.Goals as goal

pub count-requires-clause-fits : goal.count-requires-clause-fits
count-requires-clause-fits c = inl (omega (arith, few_records c.section.result.now))

pub returns : goal.returns
returns c =
    count_from_yields_List _ c.count.result c.count.ensures.ran
    (YieldsList-from_first (λ r. r.now) (λ s. records s.0.now) (records c.section.result.now) refl)
    ∙ ap (λ bytes. length (records bytes)) c.section.ensures
    ∙ sym (state-records c.args.model.now)
