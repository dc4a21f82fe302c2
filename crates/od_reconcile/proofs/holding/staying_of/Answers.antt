use Rattle.std.proofs.Common.{◌∙◌, List, subst}
use Rattle.od_merge.proofs.Lists.{Path}
use Rattle.od_reconcile.specs.Holding.{IsSpelt}
use Rattle.od_reconcile.proofs.holding.staying_of.Goals as goal

pub returns : goal.returns
returns c = subst (λ (ps : List Path). IsSpelt ps c.in_ok-index.index.entries) (c.as_slice.ensures.value ∙ c.in_ok-kept.ensures) c.in_ok-index.ensures
