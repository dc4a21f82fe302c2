use Rattle.std.proofs.Common.{◌≡◌, ◌∙◌, List, Option, ap, drop, sym}
use Rattle.od_merge.proofs.Lists.{Path}
use Rattle.od_reconcile.specs.Queues.{front_of, queue_at, queued}
use Rattle.od_reconcile.proofs.Queueing.{put-queue}
use Rattle.od_reconcile.proofs.queues.pop_at.Goals as goal

pub returns : goal.returns
returns c =
    let old = c.args.queues.now.entries in
    let slot = c.args.slot in
    let here : queue_at old slot ≡ c.in-Some.found = ap (λ (o : Option (List Path)). queued o) (sym c.remove.ensures.value ∙ c.in-Some.is) in
    record {
      first = c.pop-taken.ensures.first ∙ ap (λ (ps : List Path). front_of ps) (sym here);
      rest = λ q.
          put-queue slot q c.pop-taken.new.self (λ (ps : List Path). drop 1 ps) old c.remove.new.self.entries c.insert.new.self.entries
          (c.pop-taken.ensures.rest ∙ ap (λ (ps : List Path). drop 1 ps) (sym here)) (c.remove.ensures.updates.0 q) (c.in_ok-insert.ensures.updates.0 q);
    }
