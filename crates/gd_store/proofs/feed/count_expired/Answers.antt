use Rattle.std.proofs.Common.{leb, rules}
use Rattle.std.proofs.lemmas.List.Sorted.{IsPartitionPoint-from_clause, IsPartitionedBy-leb}
use Rattle.gd_item.specs.declared.live.Tombstone.{Tombstone}
use Rattle.gd_store.proofs.Feeds.{from-floor, non-falling}
use Rattle.gd_store.proofs.feed.count_expired.Goals as goal

pub returns-clause-rest : goal.returns-clause-rest
returns-clause-rest c =
    let parted = IsPartitionedBy-leb (λ (stone : Tombstone). stone.change) _ c.args.floor (non-falling c.args.stones.now c.requires) in
    let point = IsPartitionPoint-from_clause (λ (stone : Tombstone). leb stone.change c.args.floor) _ _ c.partition_point.ensures.partitioned parted (λ a r q k. search rules) in
    from-floor c.args.floor c.partition_point.result c.args.stones.now point.0 point.1
