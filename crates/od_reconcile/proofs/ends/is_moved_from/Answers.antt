use Rattle.std.proofs.Common.{◌∙◌}
use Rattle.od_reconcile.proofs.ends.is_moved_from.Goals as goal

pub returns : goal.returns
returns c = c.has.ensures ∙ c.requires.froms c.args.path.now
