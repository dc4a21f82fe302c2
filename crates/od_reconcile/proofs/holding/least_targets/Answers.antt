use Rattle.std.proofs.Common.{◌∙◌, List, subst}
use Rattle.od_merge.proofs.Lists.{Path}
use Rattle.od_reconcile.specs.Holding.{IsLeast}
use Rattle.od_reconcile.proofs.holding.least_targets.Goals as goal

pub returns : goal.returns
returns c = subst (λ (ps : List Path). IsLeast ps c.in_ok-index.index.entries) (c.as_slice.ensures.value ∙ c.in_ok-targets.ensures) c.in_ok-index.ensures
