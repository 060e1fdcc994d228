-- What is left is that a kind of no arm is none: it is 0, or past all kinds.
use Rattle.std.proofs.Common.{◌≡◌, ◌≤◌, ◌⊎◌, [], ◌∷◌, sym, arith}
use Rattle.std.proofs.Math.ListN.{get_or-eq_default}
use Rattle.std.specs.Prelude.{codes}
use mathlib.Core.Logic.{⊎_elim}
use Rattle.cantivorex.specs.Names.{name_of_kind}
use Rattle.cantivorex.proofs.kind_name.Goals as goal

pub returns-in_default : goal.returns-in_default
unfolding name_of_kind
returns-in_default c =
    let k = c.args.kind in
    let unnamed : (k ≡ 0) ⊎ (3 ≤ k) = grind arith in
    let kinds = codes "none" ∷ codes "positive" ∷ codes "negative" ∷ [] in
    ⊎_elim (λ e. rw e) (λ past. sym (get_or-eq_default kinds (codes "none") past)) unnamed
