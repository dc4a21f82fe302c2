use Rattle.std.proofs.Common.{◌≡◌, drop}
use Rattle.od_merge.specs.Pairs.{drive_pairs, may_move, pairs_from}
use Rattle.od_reconcile.specs.Holding.{limiter_limits, limiter_sides}
use Rattle.od_reconcile.specs.Queues.{IsQueued, all_sources_there, slot_there}
use Rattle.od_reconcile.proofs.pairs.drive_pairs.Given as goal

abbrev pub invariant-loop-to : goal.invariant-loop-to
invariant-loop-to l =
    let limits = limiter_limits l.limiter in
    let m = limiter_sides l.limiter in
    (pairs_from (may_move limits m) (all_sources_there m) l.pairs.items (drop l.to-index l.to-items) ≡ drive_pairs limits m)
    × IsQueued (slot_there m l.coming.entries) (all_sources_there m) l.pairs.items l.queues.entries
