-- The file is chosen before its bytes are looked at; a mark of neither file marks nothing, as no bytes of a file do.
use Rattle.std.proofs.Common.{ℕ, zero, suc, ◌≡◌, ◌≤◌, List, [], refl, sym, ◌∙◌, arith}
use Rattle.files.specs.Answers.{bytes_at, part_of}
use Rattle.exports.proofs.cantivorex_part.Goals as goal
use Rattle.exports.proofs.cantivorex_part.Goals.{then-mark-eq1, else-mark-eq1, then-mark-lt2, else-mark-lt2}

neither : (m t : List ℕ) (mark start size : ℕ) → 2 ≤ mark → bytes_at m t mark start size ≡ []
unfolding bytes_at
neither m t zero start size h = absurd (omega arith)
neither m t (suc zero) start size h = absurd (omega arith)
neither m t (suc (suc mark)) start size h = refl

pub returns : goal.returns
unfolding part_of bytes_at
returns c =
    let m = c.args.model.now in
    let t = c.args.trace.now in
    let chosen : c.part.result.now ≡ bytes_at m t c.args.mark c.args.start c.args.size =
    c.part.ensures
    ∙ elim c.if-mark-eq1.branch [
      | then-mark-eq1 w ↦
          elim c.if-mark-lt2.branch
          [ then-mark-lt2 v ↦ rw (w.file-is, v.size-is, w.if-mark-eq1.true) | else-mark-lt2 v ↦ absurd (omega arith) ]
      | else-mark-eq1 w ↦
          elim c.if-mark-lt2.branch [
            | then-mark-lt2 v ↦ let first : c.args.mark ≡ 0 = omega arith in rw (w.file-is, v.size-is, first)
            | else-mark-lt2 v ↦
                rw v.size-is (sym (neither m t c.args.mark c.args.start c.args.size v.if-mark-lt2.false))
          ]
    ]
    in
    record { count = rw (← chosen) c.copy.ensures.count; bytes = rw (← chosen) c.copy.ensures.front }
