use denote.Bor.{Bor}
use Rattle.std.proofs.Common.{◌≡◌, Some, List, map, ap, ◌∙◌, subst}
use Rattle.gd_item.specs.Inventory.{Inventory, live_at}
use Rattle.gd_item.specs.Records.{in_change_order_from}
use Rattle.gd_item.specs.declared.live.LiveItem.{LiveItem}
use Rattle.gd_index.specs.Dated.{changed_past}
use Rattle.gd_store.specs.Kept.{IsKept}
use Rattle.gd_store.specs.Recorded.{live_entry}
use Rattle.gd_store.proofs.Feeds.{each-changed, first-changes, shown}
use Rattle.gd_store.proofs.Siblings.{all-shown, live-each}
use Rattle.gd_store.proofs.items.Items.changes.Goals as goal

pub put_items-requires : goal.put_items-requires
put_items-requires c =
    all-shown (λ (r : Bor LiveItem). r.now) (λ (x : LiveItem). live_at x.number c.self.inside.index ≡ Some x) c.args.most (changed_past c.args.position c.self.inside.index) c.in_ok-items.items.items c.as_slice-2.result.now
    c.as_slice-2.ensures.value c.in_ok-items.ensures
    (each-changed (λ (x : LiveItem). live_at x.number c.self.inside.index ≡ Some x) c.args.position c.self.inside.index (live-each c.self.inside.index c.self.invariant.map.numbers))

pub returns-clause-first : goal.returns-clause-first
returns-clause-first c =
    first-changes c.args.self.now c.args.position c.args.removed_after c.args.most c.self.inside.index (map (λ (r : Bor LiveItem). r.now) c.in_ok-items.items.items) c.as_slice.result.now c.first_stones-stones.result.now
    c.new-changes.result.entries c.put_root.new.changes.entries c.put_items.new.changes.entries c.put_stones.new.changes.entries (subst IsKept c.self.view_is c.self.invariant)
    (ap (λ (held : Inventory). held.items) c.self.view_is) (c.as_slice.ensures.value ∙ ap (λ (held : Inventory). held.removed) c.self.view_is) c.in_ok-items.ensures c.first_stones-stones.ensures
    c.new-changes.ensures.empty c.in_ok-put_root.ensures
    (c.in_ok-put_items.ensures
    ∙ ap (in_change_order_from c.put_root.new.changes.entries)
    (shown (λ (r : Bor LiveItem). r.now) (live_entry c.self.inside.index) c.as_slice-2.result.now ∙ ap (λ (rs : List (Bor LiveItem)). map (live_entry c.self.inside.index) (map (λ (r : Bor LiveItem). r.now) rs)) c.as_slice-2.ensures.value))
    c.in_ok-put_stones.ensures
