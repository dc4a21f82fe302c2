use Rattle.od_tree.proofs.Steps.{begins-more}
use Rattle.od_tree.proofs.Tied.{first-made, not-empty, tied-next}
use Rattle.od_tree.proofs.memory.make_edits.Goals as goal

pub returns-in_err-make_due-clause-log : goal.returns-in_err-make_due-clause-log
returns-in_err-make_due-clause-log c = begins-more _ _ _ c.loop-call.invariant.log c.make_due.ensures.log

pub returns-in_err-make_due-clause-first : goal.returns-in_err-make_due-clause-first
returns-in_err-make_due-clause-first c =
    first-made c.args.edits.now c.loop-call.call-index c.args.folder.now c.loop-call.folder c.make_due.new.folder c.args.kind c.args.number c.in_err-make_due.ensures.err c.loop-call.invariant.tied

pub loop-call-preserved : goal.loop-call-preserved
loop-call-preserved c = record {
  log = begins-more _ _ _ c.loop-call.invariant.log c.make_due.ensures.log;
  tied =
      tied-next c.args.edits.now c.loop-call.call-index c.loop-call-item.result c.args.folder.now c.loop-call.folder c.make_due.new.folder c.is_call.result c.args.kind c.args.number
      c.loop-call-test.true c.loop-call-item.is c.is_call.ensures c.in_ok-make_due.ensures.due c.loop-call.invariant.tied;
  alone = λ empty. absurd (not-empty c.args.edits.now c.loop-call.call-index c.loop-call-test.true empty);
}
