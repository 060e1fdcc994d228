-- Room for the index, then the trace's faults, then the fact, then the run.
use mathlib.Core.Path.{sym, ap, ◌∙◌}
use native.Mathlib.Omega.{arith}
use Rattle.std.proofs.Common.{rules}
use borrow.Author.Tests.{le-leb, lt-leb}
use Rattle.std.proofs.lemmas.Result.{err_from_is_err_and}
use Rattle.files.specs.Answers.{counts_of}
use Rattle.files.specs.declared.Counts.{Counts}
use Rattle.files.proofs.Answers.{blamed_ok, blames_err, steps-counted}
use Rattle.files.proofs.Laws.{facts-bound}
use Rattle.files.proofs.Traces.{files_shape, stages_fine}
use Rattle.reaching.specs.Reaching.{Lent}
use Rattle.checking.proofs.Refusals.{spacious}
use Rattle.holding.proofs.Answers.{holds-short, holds-steps, holds-fact, holds-ran}
use Rattle.holding.proofs.holds_passed.Goals as goal

pub no_places-requires : goal.no_places-requires
unfolding counts_of
no_places-requires c =
    (files_shape _ _ c.requires.fine, sym (ap (λ (n : Counts). n.clauses) c.requires.counted))

pub returns-then-no_places : goal.returns-then-no_places
returns-then-no_places c =
    holds-short _ _ _ _ _ c.requires.room c.requires.fine (sym c.no_places.ensures ∙ c.if-no_places.true)

pub returns-in_err-judge_steps : goal.returns-in_err-judge_steps
returns-in_err-judge_steps c =
    let p = err_from_is_err_and c.from_residual.result c.from_residual.ensures.1 in
    rw (p.1, p.2)
    (holds-steps _ _ _ _ _ c.requires.room c.requires.fine (sym c.no_places.ensures ∙ c.if-no_places.false)
    (blames_err _ _ _ (c.in_err-judge_steps.ensures ∙ steps-counted _ _ _ c.requires.counted)))

pub facts-requires : goal.facts-requires
facts-requires c = files_shape _ _ c.requires.fine

pub returns-then-facts-asked : goal.returns-then-facts-asked
returns-then-facts-asked c =
    let fine = (blamed_ok _ _ _ (c.in_ok-judge_steps.ensures ∙ steps-counted _ _ _ c.requires.counted)).0 in
    holds-fact _ _ _ _ _ c.requires.room c.requires.fine (sym c.no_places.ensures ∙ c.if-no_places.false) fine
    (le-leb _ _ (rw c.facts.ensures at c.if-facts-asked.true))

pub run_built-requires : goal.run_built-requires
run_built-requires c =
    let lent : Lent = record { state = c.args.state.now; table = c.args.table.now; names = c.args.names.now } in
    let fine = (blamed_ok _ _ _ (c.in_ok-judge_steps.ensures ∙ steps-counted _ _ _ c.requires.counted)).0 in (
      spacious lent c.requires.room (stages_fine _ _ c.requires.fine fine),
      sym c.no_places.ensures ∙ c.if-no_places.false,
      omega (arith, c.if-facts-asked.false, c.facts.ensures, facts-bound _ (files_shape _ _ c.requires.fine)),
    )

pub returns : goal.returns
returns c =
    let fine = (blamed_ok _ _ _ (c.in_ok-judge_steps.ensures ∙ steps-counted _ _ _ c.requires.counted)).0 in
    let (asks, holds) = c.run_built.ensures.asks in
    let whole =
    holds-ran _ _ _ _ _ c.requires.room c.requires.fine (sym c.no_places.ensures ∙ c.if-no_places.false) fine
    (lt-leb _ _ (rw c.facts.ensures at c.if-facts-asked.false)) asks holds in
    search rules
