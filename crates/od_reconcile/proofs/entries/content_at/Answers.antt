use Rattle.std.proofs.Common.{◌∙◌}
use Rattle.od_reconcile.proofs.Lookups.{map-has}
use Rattle.od_reconcile.proofs.entries.content_at.Goals as goal

pub returns : goal.returns
returns c = c.copied.ensures ∙ (c.get.ensures.value ∙ map-has c.args.path.now c.args.index.now.entries)
