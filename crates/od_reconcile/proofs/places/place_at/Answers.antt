use Rattle.std.proofs.Common.{◌∙◌}
use Rattle.od_reconcile.proofs.places.place_at.Goals as goal

pub returns : goal.returns
returns c = c.copied.ensures ∙ c.get.ensures.value
