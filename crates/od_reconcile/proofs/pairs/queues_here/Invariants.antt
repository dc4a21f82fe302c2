use Rattle.std.proofs.Common.{◌≡◌, ◌++◌, drop, filter}
use Rattle.od_reconcile.specs.Looks.{merge_sides}
use Rattle.od_reconcile.specs.Queues.{Slot, is_slot, queue_at, slot_here}
use Rattle.od_reconcile.proofs.pairs.queues_here.Given as goal

abbrev pub invariant-loop-path : goal.invariant-loop-path
invariant-loop-path l = (slot : Slot)
    → queue_at l.queues.entries slot ++ filter (λ path. is_slot slot (slot_here (merge_sides l.look.merge.now) path)) (drop l.path-index l.path-items)
    ≡ filter (λ path. is_slot slot (slot_here (merge_sides l.look.merge.now) path)) l.path-items
