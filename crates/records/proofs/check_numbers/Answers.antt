-- An odd byte is 4, else the marks of the whole as one list tell.
use mathlib.Core.Path.{◌∙◌, sym}
use borrow.Author.Tests.{eq-eqb, ne_eqb}
use Rattle.records.proofs.Lists.{bare-odd, bare-even}
use Rattle.records.proofs.check_numbers.Goals as goal

pub returns-then-bytes-eq1 : goal.returns-then-bytes-eq1
returns-then-bytes-eq1 c = rw (bare-odd _ _ _ (eq-eqb _ _ c.if-bytes-eq1.true))

pub returns : goal.returns
returns c =
    c.pick.ensures ∙ sym (bare-even _ _ _ _ (ne_eqb _ _ c.if-bytes-eq1.false) c.mark_list.ensures)
