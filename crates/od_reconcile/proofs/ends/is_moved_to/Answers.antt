use Rattle.std.proofs.Common.{◌∙◌, Option, ap, is_some}
use Rattle.od_merge.proofs.Lists.{Path}
use Rattle.od_reconcile.proofs.Ending.{some-source}
use Rattle.od_reconcile.proofs.ends.is_moved_to.Goals as goal

pub returns : goal.returns
returns c = c.contains_key.ensures ∙ (ap (λ (o : Option Path). is_some o) (c.requires.tos c.args.path.now) ∙ some-source c.args.ends.now.pairs.now c.args.path.now)
