use Rattle.std.proofs.Common.{◌∙◌, ◌∷◌, ◌++◌, [], cond, Option, ap, sym}
use Rattle.od_reconcile.specs.Queues.{Slot, is_slot, queue_at}
use Rattle.od_reconcile.proofs.Queueing.{push-slot}
use Rattle.od_reconcile.proofs.queues.push_source.Goals as goal

pub returns : goal.returns
returns c = λ q.
    let path = c.args.path.now in
    let old = queue_at c.args.queues.now.entries q in
    push-slot c.in-Some.slot q path old (queue_at c.push_at.new.queues.entries q) (c.in_ok-push_at.ensures q)
    ∙ ap (λ (s : Option Slot). old ++ cond (is_slot q s) (path ∷ []) []) (sym c.in-Some.is)
