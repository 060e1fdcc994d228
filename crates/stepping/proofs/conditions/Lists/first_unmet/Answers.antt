-- P's first unmet condition, else N's, else that of the names.
use Rattle.std.proofs.Common.{List, rules, ◌≡◌, refl, ap, map}
use Rattle.std.proofs.Math.Option as math
use Rattle.std.specs.Prelude.{Option, Some, None, MatchOption}
use Rattle.meaning.specs.Run.{Condition, unmet}
use Rattle.meaning.specs.Run.Condition.{positive, negative, unused}
use Rattle.records.specs.Records.{◌or_else◌}
use Rattle.stepping.specs.Conditions.{condition_of, unmet_in, names_in}
use Rattle.records.specs.Words.{words}
use Rattle.closing.specs.Closing.{numbered}
use Rattle.stepping.specs.declared.conditions.Condition.TheVariants as condition
use Rattle.stepping.proofs.Looking.{unmet-lists}
use Rattle.stepping.proofs.conditions.Lists.first_unmet.Goals as goal

-- one answer, or where it is none the other
chosen : {P : Type 0} (r s : Option condition.the_data) → MatchOption r P (λ x. s ≡ Some x) → (o : math.Option Condition)
    → (P → unmet_in s ≡ o) → unmet_in s ≡ (unmet_in r or_else o)
unfolding ◌or_else◌
chosen None s m o other = other m
chosen (Some x) s m o other = ap unmet_in m

pub returns : goal.returns
unfolding condition_of
returns c =
    let a = c.args in
    let first = λ (cs : List Condition). unmet (numbered a.table.now) (names_in a.used.now) cs in
    let of_P = c.first_of.ensures positive (λ f d i e. rw e refl) in
    let of_N =
    chosen c.first_of.result c.or_else.result c.or_else.ensures (first (map negative (words a.self.now.n.now)))
    (λ h. search rules) in
    let of_names =
    chosen c.or_else.result c.or_else-2.result c.or_else-2.ensures (first (map unused (words a.self.now.names.now)))
    (λ h. search rules) in
    rw (unmet-lists, ← of_P, ← of_N) of_names
