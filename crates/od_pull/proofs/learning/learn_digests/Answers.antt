use Rattle.od_pull.proofs.Ends.{fails}
use Rattle.od_pull.proofs.Learns.{learned-more, learning-memory, learning-stops, unlearned-more}
use Rattle.od_pull.proofs.learning.learn_digests.Goals.{in-Some+in_ok-clone-in-Some+in_ok-push-in-Some, in-None}
use Rattle.od_pull.proofs.learning.learn_digests.Goals as goal

pub returns-in_err-digest : goal.returns-in_err-digest
returns-in_err-digest g c = rw (fails c.from_residual.ensures)
    (learning-stops g.met.O.Outside.laws c.args.bare.now c.loop-file.learned c.loop-file.file-index c.file-item.result c.in_err-digest.field-0.0 c.loop-file-test.true c.file-item.is c.loop-file.invariant c.in_err-digest.ensures)

pub returns-in_err-clone-in-Some : goal.returns-in_err-clone-in-Some
returns-in_err-clone-in-Some g c = rw (fails c.from_residual-in_err-clone-in-Some.ensures)
    (learning-memory c.args.bare.now _
    (learned-more g.met.O.Outside.laws c.args.bare.now c.loop-file.learned c.loop-file.file-index c.file-item.result c.in-Some.digest c.loop-file-test.true c.file-item.is c.loop-file.invariant (rw c.in-Some.is at c.in_ok-digest.ensures)))

pub returns-in_err-push-in-Some : goal.returns-in_err-push-in-Some
returns-in_err-push-in-Some g c = rw (fails c.from_residual-in_err-push-in-Some.ensures)
    (learning-memory c.args.bare.now _
    (learned-more g.met.O.Outside.laws c.args.bare.now c.loop-file.learned c.loop-file.file-index c.file-item.result c.in-Some.digest c.loop-file-test.true c.file-item.is c.loop-file.invariant (rw c.in-Some.is at c.in_ok-digest.ensures)))

pub loop-file-preserved : goal.loop-file-preserved
loop-file-preserved g c = elim c.match-branch-2.branch [
  | in-Some+in_ok-clone-in-Some+in_ok-push-in-Some w ↦
      rw w.learned-is (rw w.in_ok-push-in-Some.ensures.ok (rw w.in_ok-clone-in-Some.ensures.cases
      (learned-more g.met.O.Outside.laws c.args.bare.now c.loop-file.learned c.loop-file.file-index c.file-item.result w.in-Some.digest c.loop-file-test.true c.file-item.is c.loop-file.invariant (rw w.in-Some.is at c.in_ok-digest.ensures))))
  | in-None w ↦
      rw w.learned-is
      (unlearned-more g.met.O.Outside.laws c.args.bare.now c.loop-file.learned c.loop-file.file-index c.file-item.result c.loop-file-test.true c.file-item.is c.loop-file.invariant (rw w.in-None.is at c.in_ok-digest.ensures))
]
