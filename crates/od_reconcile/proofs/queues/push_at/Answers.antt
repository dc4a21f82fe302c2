use Rattle.std.proofs.Common.{◌∙◌, ◌∷◌, ◌++◌, [], List, Option, ap}
use Rattle.od_merge.proofs.Lists.{Path}
use Rattle.od_reconcile.specs.Queues.{queued}
use Rattle.od_reconcile.proofs.Queueing.{put-queue}
use Rattle.od_reconcile.proofs.queues.push_at.Goals as goal

pub returns : goal.returns
returns c = λ q.
    let path = c.args.path.now in
    put-queue c.args.slot q c.push.new.self (λ (ps : List Path). ps ++ path ∷ []) c.args.queues.now.entries c.remove.new.self.entries c.insert.new.self.entries
    (c.in_ok-push.ensures ∙ ap (λ (ps : List Path). ps ++ path ∷ []) (c.queue_or_new-queue.ensures ∙ ap (λ (o : Option (List Path)). queued o) c.remove.ensures.value))
    (c.remove.ensures.updates.0 q) (c.in_ok-insert.ensures.updates.0 q)
