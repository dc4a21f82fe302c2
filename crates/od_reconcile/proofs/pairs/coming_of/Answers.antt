use Rattle.std.proofs.Common.{◌∙◌, List, ap, filter, subst}
use Rattle.od_merge.specs.Pairs.{comes_there}
use Rattle.od_merge.proofs.Lists.{Path}
use Rattle.od_reconcile.specs.Holding.{IsSpelt, limiter_limits, limiter_sides}
use Rattle.od_reconcile.proofs.pairs.coming_of.Goals as goal

pub returns : goal.returns
returns c =
    let comes = comes_there (limiter_limits c.args.limiter.now) (limiter_sides c.args.limiter.now) in
    subst (λ (ps : List Path). IsSpelt ps c.in_ok-index.index.entries)
    (c.as_slice.ensures.value ∙ (c.in_ok-coming.ensures ∙ ap (λ (ps : List Path). filter comes ps) c.requires.ready.paths)) c.in_ok-index.ensures
