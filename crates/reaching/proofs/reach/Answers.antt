-- The initial state, then the steps.
use Rattle.std.proofs.Common.{List, ℕ, sym, ap, ◌∙◌, subst, arith}
use mathlib.Core.Path.{fun_ext}
use Rattle.sets.specs.Sets.{listed}
use Rattle.meaning.specs.Model as meant
use Rattle.records.specs.Words.{words}
use Rattle.facts.proofs.Laws.{kept_trans}
use Rattle.files.specs.Files.{model_of_lem}
use Rattle.files.specs.Known.{Known}
use Rattle.files.proofs.Lists.{initial-known}
use Rattle.files.proofs.Traces.{pair_shape}
use Rattle.reaching.proofs.reach.Goals as goal

pub section-requires : goal.section-requires
section-requires c = pair_shape _ _ c.requires.0.fine

pub names-requires : goal.names-requires
names-requires c = pair_shape _ _ c.requires.0.fine

pub begin-requires : goal.begin-requires
begin-requires c = (
  subst Known (sym c.section.ensures) (initial-known _ (pair_shape _ _ c.requires.0.fine)),
  c.names.ensures.1,
  c.requires.0.room,
  c.requires.0.names,
)

pub search-requires : goal.search-requires
unfolding model_of_lem meant.start
search-requires c =
    let facts = c.begin.ensures.facts in
    let names = c.begin.ensures.names in (
      record {
        fine = c.requires.0.fine;
        room = omega (arith, facts.kept.as_long, c.requires.0.room);
        entries = c.requires.0.entries;
        names = omega (arith, names.kept.as_long, c.requires.0.names);
      },
      λ i. record {
        facts = fun_ext (λ g. facts.set g ∙ ap (λ (l : List ℕ). listed (words l) g) c.section.ensures) i;
        names = fun_ext (λ g. names.set g ∙ ap (λ (l : List ℕ). listed l g) c.names.ensures.0) i;
      },
      c.requires.1,
      c.requires.2,
      c.requires.3,
    )

pub returns-clause-steps : goal.returns-clause-steps
returns-clause-steps c =
    let began = c.begin.ensures in
    let led = c.search.ensures.steps in
    record {
      fired = led.fired;
      stop = led.stop;
      rounds = led.rounds;
      facts = led.facts;
      kept = kept_trans began.facts.kept led.kept;
      names = led.names;
      names-kept = kept_trans began.names.kept led.names-kept;
      as_long = led.as_long;
      beyond = led.beyond;
      filled = led.filled;
      keeps = led.keeps;
      within = led.within;
      bound = led.bound;
    }
