-- `records::mark_head` meets its contract: the head is one number, below the limit or not.
use Prim.Native.Nat.{ℕ, ◌≤◌}
use mathlib.Core.Path.{◌≡◌, refl, ◌∙◌}
use mathlib.Core.Bool.{or-false}
use mathlib.Core.List.{List, [], ◌∷◌}
use native.Mathlib.Omega.{arith}
use lib.Dec.{leb}
use lib.ListN.{length, take}
use Rattle.sets.specs.Sets.{any}
use Rattle.records.specs.Words.{word, words, ascending}
use Rattle.records.specs.Marking.{marked_by}
use borrow.Author.Rules.{rules}
use Rattle.records.proofs.mark_head.Statement.{statement}
use Rattle.records.proofs.mark_head.Tie as tie

-- the first two bytes are one number
head-words : (body : List ℕ) → 2 ≤ length body → words (take 2 body) ≡ word body ∷ []
unfolding words word
head-words [] h = absurd (omega arith)
head-words (a ∷ []) h = absurd (omega arith)
head-words (a ∷ b ∷ rest) h = refl

word-at-requires : tie.Need-word_at-requires
word-at-requires c κs = search rules

mark-requires : tie.Need-mark-requires
mark-requires c κs = search rules

returns : tie.Need-returns
unfolding any ascending marked_by
returns c =
    let s = c.before.before.before in
    let is = head-words s.args.body.now s.requires in
    c.mark.ensures ∙ rw (is, c.word_at.ensures, or-false (leb _ _))

pub mark_head_spec : {M : Type 1} → statement M
mark_head_spec = tie.close (tie.spec word-at-requires mark-requires returns)
