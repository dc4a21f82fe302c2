use Rattle.std.proofs.Common.{◌≤◌, ◌<◌, ◌+◌, ◌∙◌, ◌∷◌, ◌++◌, [], cond, List, Option, length, drop, filter, arith, ap}
use Rattle.od_merge.proofs.Lists.{Path}
use Rattle.od_reconcile.specs.Holding.{limiter_sides}
use Rattle.od_reconcile.specs.Moving.{is_source_there}
use Rattle.od_reconcile.specs.Queues.{Slot, all_sources_there, is_slot, queue_at, slot_there}
use Rattle.od_reconcile.proofs.Indexes.{drop-next}
use Rattle.od_reconcile.proofs.Queueing.{all-wait, queue-more, queue-whole}
use Rattle.od_reconcile.proofs.pairs.queues_there.Goals as goal

pub loop-path-preserved : goal.loop-path-preserved
loop-path-preserved c = λ slot.
    let m = limiter_sides c.args.limiter.now in
    let coming = c.args.coming.now.entries in
    let sources = c.as_slice-path-items.result.now in
    let i = c.loop-path.path-index in
    let path = c.path-item.result in
    let old = queue_at c.loop-path.queues.entries slot in
    let less : i < length sources = omega arith in
    queue-more (λ (x : Path). is_slot slot (slot_there m coming x)) path old (queue_at c.push_source.new.queues.entries slot) (drop i sources) (drop (i + 1) sources)
    (filter (λ (x : Path). is_slot slot (slot_there m coming x)) sources) (drop-next sources i path less c.path-item.is)
    (c.in_ok-push_source.ensures slot ∙ ap (λ (s : Option Slot). old ++ cond (is_slot slot s) (path ∷ []) []) c.in_ok-slot.ensures) (c.loop-path.invariant slot)

pub returns : goal.returns
returns c =
    let m = limiter_sides c.args.limiter.now in
    let coming = c.args.coming.now.entries in
    let sources = c.as_slice-path-items.result.now in
    let whole = c.as_slice-path-items.ensures.value ∙ (c.in_ok-sources.ensures ∙ ap (λ (ps : List Path). filter (is_source_there m) ps) c.requires.ready.paths) in
    let past : length sources ≤ c.loop-path.path-index = omega arith in
    all-wait (slot_there m coming) (all_sources_there m) c.loop-path.queues.entries
    (λ slot. queue-whole (λ (x : Path). is_slot slot (slot_there m coming x)) c.loop-path.path-index (queue_at c.loop-path.queues.entries slot) sources (all_sources_there m) past whole (c.loop-path.invariant slot))
