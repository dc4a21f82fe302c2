use Rattle.std.proofs.Common.{◌+◌, List, sym, subst}
use Rattle.gd_item.specs.Inventory.{Inventory}
use Rattle.gd_item.specs.declared.live.Tombstone.{Tombstone}
use Rattle.gd_store.specs.Kept.{IsKept}
use Rattle.gd_store.proofs.Kept.{kept-pruned}
use Rattle.gd_store.proofs.items.Items.forget.Goals as goal

pub invariant_of-self : goal.invariant_of-self
invariant_of-self c =
    let view : Inventory = record {
      number = c.self.inside.number;
      next = c.self.inside.last + 1;
      items = c.self.inside.index;
      removed = c.self.inside.removed.items;
      replaced = c.self.inside.replaced.items;
      kept = c.self.inside.kept;
    } in
    subst (λ (stones : List Tombstone). IsKept (record view { removed = stones })) (sym c.drop_stones.ensures) (kept-pruned c.args.floor view c.self.invariant)
