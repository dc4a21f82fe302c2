use Rattle.std.proofs.Common.{◌≡◌, ◌++◌, drop, filter}
use Rattle.od_reconcile.specs.Holding.{limiter_sides}
use Rattle.od_reconcile.specs.Queues.{Slot, is_slot, queue_at, slot_there}
use Rattle.od_reconcile.proofs.pairs.queues_there.Given as goal

abbrev pub invariant-loop-path : goal.invariant-loop-path
invariant-loop-path l = (slot : Slot)
    → queue_at l.queues.entries slot ++ filter (λ path. is_slot slot (slot_there (limiter_sides l.limiter) l.coming.entries path)) (drop l.path-index l.path-items)
    ≡ filter (λ path. is_slot slot (slot_there (limiter_sides l.limiter) l.coming.entries path)) l.path-items
