use Rattle.std.proofs.Common.{◌<◌, ◌∙◌, length, sym, arith}
use lib.ListN.{length-take}
use lib.Seq.{get_or-take}
use Rattle.meaning.proofs.Places.{clause_in}
use Rattle.files.specs.Files.{clauses_in}
use Rattle.worklist.proofs.Starting.{opened-start, opened-room, opened-body, opened-head, opened-end}
use Rattle.worklist.proofs.Worklist.unasked.Goals as goal
use Rattle.worklist.proofs.Worklist.unasked.Goals.{then-left-eq0, else-left-eq0}

pub loop-k-init : goal.loop-k-init
loop-k-init c =
    let pre = c.requires in
    opened-start pre.0.known pre.3 pre.4 _ pre.2.sized

pub arrive-requires : goal.arrive-requires
arrive-requires c =
    let pre = c.requires in
    let inside : c.loop-k.k < length (clauses_in c.args.clauses.bytes.now) =
    omega (arith, pre.1.count, length-take (length c.args.clauses.starts.now) c.args.self.now.lacks.now) in
    let known = pre.0.known in
    let opened = c.loop-k.invariant in
    rw c.head.ensures (known.heads _ (clause_in _ _ inside), opened.fits.table, opened-room known opened inside)

pub loop-k-preserved : goal.loop-k-preserved
loop-k-preserved c =
    let pre = c.requires in
    let inside : c.loop-k.k < length (clauses_in c.args.clauses.bytes.now) =
    omega (arith, pre.1.count, length-take (length c.args.clauses.starts.now) c.args.self.now.lacks.now) in
    let known = pre.0.known in
    let opened = c.loop-k.invariant in
    let few = length c.args.clauses.starts.now in
    let lacks = c.args.self.now.lacks.now in
    let left = get_or-take few lacks c.loop-k.k 0 (omega (arith, inside)) ∙ pre.2.bodies c.loop-k.k in
    elim c.if-left-eq0.branch [
      | then-left-eq0 w ↦
          rw (w.table-is, w.queue-is)
          (opened-head known opened inside (sym left ∙ w.if-left-eq0.true) (rw w.head.ensures at w.arrive.ensures))
      | else-left-eq0 w ↦
          rw (w.table-is, w.queue-is) (opened-body known opened inside (λ e. w.if-left-eq0.false (left ∙ e)))
    ]

pub returns : goal.returns
returns c =
    let pre = c.requires in
    let passed = length-take (length c.args.clauses.starts.now) c.args.self.now.lacks.now in
    opened-end pre.0.known c.loop-k.invariant (omega (arith, pre.1.count)) pre.2
