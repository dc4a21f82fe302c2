use Rattle.std.proofs.Common.{◌∙◌}
use Rattle.od_reconcile.proofs.Lookups.{set-has}
use Rattle.od_reconcile.proofs.folders.has.Goals as goal

pub returns : goal.returns
returns c = c.contains.ensures ∙ set-has c.args.path.now c.args.folders.now.keys
