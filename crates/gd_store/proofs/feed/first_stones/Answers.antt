use Rattle.std.proofs.Common.{leb, length, take, refl, ap, rules, ◌∙◌}
use Rattle.std.proofs.lemmas.List.Sorted.{IsPartitionPoint-from_clause, IsPartitionedBy-leb}
use Rattle.gd_item.specs.declared.live.Tombstone.{Tombstone}
use Rattle.gd_store.proofs.Feeds.{first-past, non-falling}
use Rattle.gd_store.proofs.feed.first_stones.Goals as goal

pub returns : goal.returns
returns c =
    let parted = IsPartitionedBy-leb (λ (stone : Tombstone). stone.change) _ c.max-last.result (non-falling c.args.stones.now c.requires) in
    let point = IsPartitionPoint-from_clause (λ (stone : Tombstone). leb stone.change c.max-last.result) _ _ c.partition_point-start.ensures.partitioned parted (λ a r q k. search rules) in
    first-past c.args.position c.args.removed_after c.max-last.result c.partition_point-start.result (length c.split_at.result.1.now) c.args.most c.args.stones.now c.split_at.result.1.now c.split_at-2.result.0.now c.max-last.ensures point
    c.split_at.ensures.back refl (c.split_at-2.ensures.front ∙ ap (λ k. take k c.split_at.result.1.now) c.min.ensures)
