-- A fact of the list is gone, unless it is persistent.
use Rattle.std.proofs.Common.{sym, ◌∙◌}
use Rattle.sets.specs.Sets.{listed}
use Rattle.facts.specs.Facts.{members}
use Rattle.facts.proofs.Laws.{kept_trans}
use Rattle.records.specs.Words.{words}
use Rattle.stepping.proofs.Changing.{without, done-one, done_all, remove_idle, remove_twice, keeps, takes}
use Rattle.stepping.proofs.remove_all.Goals as goal

pub loop-fact-preserved-then-not-has : goal.loop-fact-preserved-then-not-has
loop-fact-preserved-then-not-has c =
    let k = listed (words c.args.persistent.now) in
    let so_far = c.loop-fact.invariant in
    let state = c.loop-fact.state in
    let fact = c.in-Some.fact in
    let removed = c.remove.ensures in
    let goes = sym c.has.ensures ∙ c.if-not-has.true in
    record {
      kept = kept_trans so_far.kept removed.kept;
      facts = λ g.
          done-one 512 (without k) (remove_idle k) (remove_twice k) state c.remove.new.set c.in-Some.ensures.steps
          (λ g. removed.set g ∙ sym (takes k fact goes g (members state g))) g
          ∙ so_far.facts g;
    }

pub loop-fact-preserved : goal.loop-fact-preserved
loop-fact-preserved c =
    let k = listed (words c.args.persistent.now) in
    let so_far = c.loop-fact.invariant in
    let state = c.loop-fact.state in
    let fact = c.in-Some.fact in
    let stays = sym c.has.ensures ∙ c.if-not-has.false in
    record {
      kept = so_far.kept;
      facts = λ g.
          done-one 512 (without k) (remove_idle k) (remove_twice k) state state c.in-Some.ensures.steps
          (λ g. sym (keeps k fact stays g (members state g))) g
          ∙ so_far.facts g;
    }

pub returns : goal.returns
returns c =
    let k = listed (words c.args.persistent.now) in
    let none = c.in-None.ensures.steps.0 in
    let done = done_all 512 (without k) (remove_idle k) (remove_twice k) c.loop-fact.state none in
    record { set = λ g. sym (done g) ∙ c.loop-fact.invariant.facts g; kept = c.loop-fact.invariant.kept }
