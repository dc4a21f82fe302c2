use Rattle.std.proofs.Common.{◌≡◌, drop}
use Rattle.od_merge.specs.Pairs.{local_pairs, pairs_from}
use Rattle.od_reconcile.specs.Looks.{merge_sides}
use Rattle.od_reconcile.specs.Moving.{fits_here}
use Rattle.od_reconcile.specs.Queues.{IsQueued, all_sources_here, slot_here}
use Rattle.od_reconcile.proofs.pairs.local_pairs.Given as goal

abbrev pub invariant-loop-to : goal.invariant-loop-to
invariant-loop-to l =
    let m = merge_sides l.look.merge.now in
    (pairs_from (fits_here m) (all_sources_here m) l.pairs.items (drop l.to-index l.to-items) ≡ local_pairs m) × IsQueued (slot_here m) (all_sources_here m) l.pairs.items l.queues.entries
