use Rattle.std.proofs.Common.{Option, Some, None, ap, refl, sym, subst}
use Rattle.gd_item.specs.declared.digest.Digest.{Digest}
use Rattle.od_merge.proofs.Lists.{Path}
use Rattle.od_reconcile.specs.Queues.{TakesSource}
use Rattle.od_reconcile.proofs.Queueing.{first-serves, none-serves}
use Rattle.od_reconcile.proofs.queues.take_source.Goals as goal

pub returns : goal.returns
returns c =
    let old = c.args.queues.now.entries in
    let new = c.pop_first.new.queues.entries in
    let to = c.args.to.now in
    let digest = c.in-Some.digest in
    subst (λ (d : Option Digest). TakesSource d to old new c.in_ok-taken.taken) (sym c.in-Some.is)
    (first-serves digest to (digest.0, Some c.in_ok-clone.field-0) (digest.0, None) old new c.in_ok-taken.taken (ap (λ (p : Path). (digest.0, Some p)) c.in_ok-clone.ensures.cases) refl c.in_ok-taken.ensures)

pub returns-in_default : goal.returns-in_default
returns-in_default c =
    let old = c.args.queues.now.entries in
    subst (λ (d : Option Digest). TakesSource d c.args.to.now old old None) (sym c.in_default.is) (none-serves c.args.to.now old)
