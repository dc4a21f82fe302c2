use Rattle.std.proofs.Common.{◌∙◌}
use Rattle.od_pull.proofs.Whole.{with-next}
use Rattle.od_pull.proofs.learning.take_learned.Goals as goal

pub loop-one-preserved : goal.loop-one-preserved
loop-one-preserved c = record {
  items = with-next c.args.learned.now c.loop-one.one-index c.one-item.result c.args.view.now.items c.loop-one.view.items c.learn-unknown.new.self.items c.loop-one-test.true c.one-item.is c.loop-one.invariant.items c.learn-unknown.ensures.learnt;
  token = c.learn-unknown.ensures.token ∙ c.loop-one.invariant.token;
}
