use Rattle.std.proofs.Common.{◌∙◌}
use Rattle.od_reconcile.proofs.side.standing.Goals as goal

pub returns : goal.returns
returns c = c.content_at.ensures ∙ c.requires.index c.args.path.now
