-- The search goes from step to step and from condition to condition.
use Rattle.std.proofs.Common.{◌<◌, length, refl, sym, ap, ◌∙◌, arith, lit<, length-drop}
use mathlib.Core.Option.{some}
use Rattle.files.specs.Files.{trace_of}
use Rattle.files.proofs.Laws.{persistent-ascending, persistent_in}
use Rattle.files.proofs.Lists.{rule-there}
use Rattle.files.proofs.Traces.{pair_shape, pair_fits, pair_entries}
use Rattle.stepping.specs.Conditions.{unmet_in}
use Rattle.stepping.proofs.Looking.{asks, asks-length, asks-known, looking_start, looking_hit, looking_next, looking_end}
use Rattle.reaching.proofs.Aiming.{keeps-next}
use Rattle.reaching.proofs.Stepwise.{on-start, on-fired, on-stop, on-end}
use Rattle.reaching.proofs.Places.{steps-in, room, long, names-room, fired-few, few-more, table-long, shown, step-there, later_is}
use Rattle.reaching.proofs.Places.{known-rule, rule-in, cut_of, known-list, P-is, N-is, A-is, made_is, asked_is}
use Rattle.reaching.proofs.search.Goals as goal

pub entries-entries-requires : goal.entries-entries-requires
entries-entries-requires c = pair_fits c.args.model.now c.args.trace.now c.requires.0.fine

pub section-persistent-requires : goal.section-persistent-requires
section-persistent-requires c = pair_shape c.args.model.now c.args.trace.now c.requires.0.fine

pub slice_bounds-k-items-count : goal.slice_bounds-k-items-count
slice_bounds-k-items-count c =
    omega (arith, ap length c.entries-entries.ensures, pair_entries _ c.args.trace.now c.requires.0.fine)

pub slice_bounds-k-items-start : goal.slice_bounds-k-items-start
slice_bounds-k-items-start c =
    omega (arith, ap length c.entries-entries.ensures, pair_entries _ c.args.trace.now c.requires.0.fine)

pub search-init : goal.search-init
search-init c = record {
  on = on-start _ _ _ c.requires.1 c.requires.3;
  left = rw c.into_iter-k-iterator.ensures.into_iter_gives (steps-in _ _ c.entries-entries.ensures);
  unstopped = refl;
}

pub close_judged-rounds-requires : goal.close_judged-rounds-requires
close_judged-rounds-requires c =
    let on = c.search.invariant.on in
    (pair_shape _ _ c.requires.0.fine, long c.requires.0 on, c.requires.4)

pub overflow_add-rounds : goal.overflow_add-rounds
overflow_add-rounds c =
    let on = c.search.invariant.on in
    omega (arith, on.bound, fired-few c.requires.0 on, few-more c.requires.0 on c.close_judged-rounds.ensures)

pub record-rule-requires : goal.record-rule-requires
record-rule-requires c =
    let here = sym c.search.invariant.left ∙ c.in-Some.ensures.steps in
    (pair_shape _ _ c.requires.0.fine, rule-there _ (known-rule c.requires.0 c.search.invariant.on here))

pub rule_list-requires : goal.rule_list-requires
rule_list-requires c =
    let here = sym c.search.invariant.left ∙ c.in-Some.ensures.steps in
    (cut_of c.requires.0 c.search.invariant.on here c.record-rule.ensures, lit< tt)

pub rule_list-requires-in-search : goal.rule_list-requires-in-search
rule_list-requires-in-search c =
    let here = sym c.search.invariant.left ∙ c.in-Some.ensures.steps in
    (cut_of c.requires.0 c.search.invariant.on here c.record-rule.ensures, lit< tt)

pub made-requires : goal.made-requires
made-requires c =
    let here = sym c.search.invariant.left ∙ c.in-Some.ensures.steps in
    (pair_shape _ _ c.requires.0.fine, rule-in c.requires.0 c.search.invariant.on here c.record-rule.ensures)

pub loop-i-init : goal.loop-i-init
loop-i-init c = record { looking = looking_start _ _ _; unstopped = c.search.invariant.unstopped }

pub meets-requires : goal.meets-requires
meets-requires c =
    let on = c.search.invariant.on in
    let here = sym c.search.invariant.left ∙ c.in-Some.ensures.steps in
    let known-P = known-list c.requires.0 on here c.record-rule.ensures 0 (lit< tt) c.rule_list.ensures in
    let known-N = known-list c.requires.0 on here c.record-rule.ensures 1 (lit< tt) c.rule_list-in-search.ensures in (
      rw c.nth-c.ensures (asks-known _ _ _ _ known-P known-N (omega arith)),
      table-long c.requires.0 on c.close_judged-rounds.ensures,
    )

pub loop-i-preserved : goal.loop-i-preserved
loop-i-preserved c =
    let there : c.loop-i.i < length (asks c.rule_list.result.now c.rule_list-in-search.result.now c.made.result.now) =
    rw asks-length (omega arith) in
    record {
      looking =
          looking_next _ c.loop-i.invariant.looking _ there
          (rw c.nth-c.ensures at (sym c.meets.ensures ∙ c.if-not-meets.false));
      unstopped = c.loop-i.invariant.unstopped;
    }

pub rule_list-a-requires : goal.rule_list-a-requires
rule_list-a-requires c =
    let here = sym c.search.invariant.left ∙ c.in-Some.ensures.steps in
    (cut_of c.requires.0 c.search.invariant.on here c.record-rule.ensures, lit< tt)

pub apply-requires : goal.apply-requires
apply-requires c =
    let on = c.search.invariant.on in
    let here = sym c.search.invariant.left ∙ c.in-Some.ensures.steps in (
      known-list c.requires.0 on here c.record-rule.ensures 2 (lit< tt) c.rule_list-a.ensures,
      rw c.section-persistent.ensures (persistent-ascending _ (pair_shape _ _ c.requires.0.fine)),
      c.made.ensures.1,
      room c.requires.0 on,
      names-room c.requires.0 on,
    )

pub overflow_add-fired : goal.overflow_add-fired
overflow_add-fired c = omega (arith, fired-few c.requires.0 c.search.invariant.on)

pub search-preserved : goal.search-preserved
search-preserved c =
    let m = c.args.model.now in
    let t = c.args.trace.now in
    let on = c.search.invariant.on in
    let here = sym c.search.invariant.left ∙ c.in-Some.ensures.steps in
    let closed = c.close_judged-rounds.ensures in
    let rule = c.record-rule.ensures in
    let P = P-is c.requires.0 on here rule c.rule_list.ensures in
    let N = N-is c.requires.0 on here rule c.rule_list-in-search.ensures in
    let made = made_is c.requires.0 on here rule _ c.made.ensures.0 in
    let none_left = looking_end _ c.loop-i.invariant.looking (rw asks-length (omega (arith, c.count-i-end.ensures))) in
    record {
      on =
          on-fired m t on closed refl (step-there c.requires.0 on here)
          (asked_is c.requires.0 on closed _ _ _ P N made none_left)
          (few-more c.requires.0 on closed) (shown c.requires.0 on closed)
          (keeps-next m t c.requires.2 on.past on.keeps c.advance.ensures) c.advance.ensures.kept.as_long
          P (A-is c.requires.0 on here rule c.rule_list-a.ensures) made (persistent_in m c.section-persistent.ensures)
          c.apply.ensures.facts c.apply.ensures.names;
      left = later_is c.requires.0 on here;
      unstopped = c.loop-i.invariant.unstopped;
    }

pub returns-in-None-clause-steps : goal.returns-in-None-clause-steps
returns-in-None-clause-steps c =
    let fired = c.search.fired in
    let ks = (trace_of c.args.trace.now).steps in
    let none_left = sym c.search.invariant.left ∙ c.in-None.ensures.steps.0 in
    on-end _ _ c.search.invariant.on (omega (arith, length-drop fired ks, ap length none_left)) refl refl
    (ap unmet_in c.search.invariant.unstopped)

pub returns-then-not-meets-clause-steps : goal.returns-then-not-meets-clause-steps
returns-then-not-meets-clause-steps c =
    let on = c.search.invariant.on in
    let here = sym c.search.invariant.left ∙ c.in-Some.ensures.steps in
    let closed = c.close_judged-rounds.ensures in
    let rule = c.record-rule.ensures in
    let P = P-is c.requires.0 on here rule c.rule_list.ensures in
    let N = N-is c.requires.0 on here rule c.rule_list-in-search.ensures in
    let made = made_is c.requires.0 on here rule _ c.made.ensures.0 in
    let there : c.loop-i.i < length (asks c.rule_list.result.now c.rule_list-in-search.result.now c.made.result.now) =
    rw asks-length (omega arith) in
    let hit =
    looking_hit _ c.loop-i.invariant.looking _ there (rw c.nth-c.ensures at (sym c.meets.ensures ∙ c.if-not-meets.true)) in
    on-stop _ _ on closed (step-there c.requires.0 on here)
    (asked_is c.requires.0 on closed _ _ _ P N made (hit ∙ ap some (sym c.nth-c.ensures))) refl refl refl
    (few-more c.requires.0 on closed)
