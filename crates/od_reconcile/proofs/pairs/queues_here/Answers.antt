use Rattle.std.proofs.Common.{◌<◌, ◌+◌, ◌∙◌, ◌∷◌, ◌++◌, [], cond, Option, length, drop, filter, arith, ap}
use Rattle.od_merge.proofs.Lists.{Path}
use Rattle.od_reconcile.specs.Looks.{merge_sides}
use Rattle.od_reconcile.specs.Queues.{Slot, is_slot, queue_at, slot_here}
use Rattle.od_reconcile.proofs.Indexes.{drop-next}
use Rattle.od_reconcile.proofs.Queueing.{queue-more}
use Rattle.od_reconcile.proofs.pairs.queues_here.Goals as goal

pub loop-path-preserved : goal.loop-path-preserved
loop-path-preserved c = λ slot.
    let m = merge_sides c.args.look.now.merge.now in
    let sources = c.as_slice-path-items.result.now in
    let i = c.loop-path.path-index in
    let path = c.path-item.result in
    let old = queue_at c.loop-path.queues.entries slot in
    let less : i < length sources = omega arith in
    queue-more (λ (x : Path). is_slot slot (slot_here m x)) path old (queue_at c.push_source.new.queues.entries slot) (drop i sources) (drop (i + 1) sources)
    (filter (λ (x : Path). is_slot slot (slot_here m x)) sources) (drop-next sources i path less c.path-item.is)
    (c.in_ok-push_source.ensures slot ∙ ap (λ (s : Option Slot). old ++ cond (is_slot slot s) (path ∷ []) []) c.in_ok-slot.ensures) (c.loop-path.invariant slot)
