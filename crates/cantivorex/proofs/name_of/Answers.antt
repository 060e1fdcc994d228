-- What is left is that a number of no arm has no name: it is one of the empty ones, or past all names.
use Rattle.std.proofs.Common.{◌≡◌, ◌≤◌, ◌⊎◌, [], sym, arith}
use Rattle.std.proofs.Math.ListN.{get_or-eq_default}
use mathlib.Core.Logic.{⊎_elim}
use Rattle.cantivorex.specs.Names.{names, name_of_number}
use Rattle.cantivorex.proofs.name_of.Goals as goal

pub returns-in_default : goal.returns-in_default
unfolding names name_of_number
returns-in_default c =
    let k = c.args.number in
    let unnamed : (k ≡ 8) ⊎ ((k ≡ 14) ⊎ ((k ≡ 15) ⊎ ((k ≡ 16) ⊎ (18 ≤ k)))) = grind arith in
    ⊎_elim (λ e. rw e)
    (⊎_elim (λ e. rw e)
    (⊎_elim (λ e. rw e) (⊎_elim (λ e. rw e) (λ past. sym (get_or-eq_default names [] past))))) unnamed
