-- P's conditions are met, then N's, then those of the names.
use Rattle.std.proofs.Common.{rules, refl, sym, ap, ◌∙◌, lit<, not}
use Rattle.std.proofs.Math.Bool.{not-not}
use Rattle.meaning.specs.Run.Condition.{positive, negative, unused}
use Rattle.stepping.specs.Conditions.{condition_of, KnownIn}
use Rattle.firing.proofs.Records.{rule-cut, list_known, answer-nowhere, not-by-P, not-by-N, by_names}
use Rattle.firing.proofs.fires.Goals as goal

pub rule_list-p-requires : goal.rule_list-p-requires
rule_list-p-requires c = (rule-cut _ c.requires.0 _ c.requires.1, lit< tt)

pub first_of-requires : goal.first_of-requires
unfolding condition_of KnownIn
first_of-requires c =
    let known = list_known _ c.requires.0 _ c.requires.1 0 (lit< tt) _ c.rule_list-p.ensures in
    (search rules, λ f d i e. rw e (known.below f i), c.requires.2)

pub returns-then-is_some : goal.returns-then-is_some
unfolding condition_of
returns-then-is_some c =
    let P = answer-nowhere _ (c.first_of.ensures positive (λ f d i e. rw e refl)) in
    not-by-P _ _ _ c.rule_list-p.ensures _ _ (sym P ∙ ap not (sym c.is_some.ensures ∙ c.if-is_some.true))

pub rule_list-n-requires : goal.rule_list-n-requires
rule_list-n-requires c = (rule-cut _ c.requires.0 _ c.requires.1, lit< tt)

pub first_of-requires-2 : goal.first_of-requires-2
unfolding condition_of KnownIn
first_of-requires-2 c =
    let known = list_known _ c.requires.0 _ c.requires.1 1 (lit< tt) _ c.rule_list-n.ensures in
    (search rules, λ f d i e. rw e (known.below f i), c.requires.2)

pub returns-then-is_some-2 : goal.returns-then-is_some-2
unfolding condition_of
returns-then-is_some-2 c =
    let P = answer-nowhere _ (c.first_of.ensures positive (λ f d i e. rw e refl)) in
    let N = answer-nowhere _ (c.first_of-2.ensures negative (λ f d i e. rw e refl)) in
    not-by-N _ _ _ c.rule_list-p.ensures _ _ (sym P ∙ ap not (sym c.is_some.ensures ∙ c.if-is_some.false)) _
    c.rule_list-n.ensures (sym N ∙ ap not (sym c.is_some-2.ensures ∙ c.if-is_some-2.true))

pub first_of-requires-3 : goal.first_of-requires-3
unfolding condition_of KnownIn
first_of-requires-3 c = (search rules, λ f d i e. rw e tt, c.requires.2)

pub returns : goal.returns
unfolding condition_of
returns c =
    let P = answer-nowhere _ (c.first_of.ensures positive (λ f d i e. rw e refl)) in
    let N = answer-nowhere _ (c.first_of-2.ensures negative (λ f d i e. rw e refl)) in
    let names = answer-nowhere _ (c.first_of-3.ensures unused (λ f d i e. rw e refl)) in
    sym (not-not _) ∙ ap not (sym c.is_none.ensures) ∙ names
    ∙ by_names _ _ _ c.rule_list-p.ensures _ _ (sym P ∙ ap not (sym c.is_some.ensures ∙ c.if-is_some.false)) _
    c.rule_list-n.ensures (sym N ∙ ap not (sym c.is_some-2.ensures ∙ c.if-is_some-2.false)) _ c.made-made.ensures.0
