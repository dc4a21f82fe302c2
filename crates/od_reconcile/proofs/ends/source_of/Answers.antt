use Rattle.std.proofs.Common.{◌∙◌}
use Rattle.od_reconcile.proofs.ends.source_of.Goals as goal

pub returns : goal.returns
returns c = c.get.ensures.value ∙ c.requires.tos c.args.path.now
