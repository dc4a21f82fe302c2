use denote.Bor.{Bor}
use Rattle.std.proofs.Common.{◌≡◌, ◌∙◌, ap, length, List, nat_lt, Some, refl, subst, take, true}
use Rattle.std.specs.Option.{option_copied}
use Rattle.gd_item.specs.Children.{children_past}
use Rattle.gd_item.specs.Inventory.{Inventory, live_at}
use Rattle.gd_item.specs.Records.{record_with}
use Rattle.gd_item.specs.declared.live.LiveItem.{LiveItem}
use Rattle.gd_store.specs.Kept.{IsKept}
use Rattle.gd_store.proofs.Feeds.{count-of, listed}
use Rattle.gd_store.proofs.Siblings.{all-shown, each-child, few-shown, live-each}
use Rattle.gd_store.proofs.items.Items.list_found.Goals as goal

pub first_records-requires : goal.first_records-requires
first_records-requires c =
    let held : Inventory = c.args.self.now in
    let P : LiveItem → Type 0 = λ x. live_at x.number held.items ≡ Some x in
    let kept : IsKept held = subst IsKept c.self.view_is c.self.invariant in
    all-shown (λ (r : Bor LiveItem). r.now) P c.saturating_add-count.result (children_past c.args.number (option_copied c.args.after) held.items) c.in_ok-found.found.items c.in_ok-found.found.items refl
    (c.in_ok-found.ensures ∙ ap (λ (h : Inventory). take c.saturating_add-count.result (children_past c.args.number (option_copied c.args.after) h.items)) c.self.view_is)
    (each-child P c.args.number (option_copied c.args.after) held.items (live-each held.items kept.map.numbers))

pub returns : goal.returns
returns c =
    let held : Inventory = c.args.self.now in
    let kept : IsKept held = subst IsKept c.self.view_is c.self.invariant in
    let xs : List LiveItem = children_past c.args.number (option_copied c.args.after) held.items in
    let are = c.in_ok-found.ensures ∙ ap (λ (h : Inventory). take c.saturating_add-count.result (children_past c.args.number (option_copied c.args.after) h.items)) c.self.view_is in
    let few = few-shown (λ (r : Bor LiveItem). r.now) c.args.number (option_copied c.args.after) held.items c.saturating_add-count.result c.in_ok-found.found.items kept.few are in
    let same =
    listed (λ (r : Bor LiveItem). r.now) (record_with true held) c.args.most c.saturating_add-count.result c.in_ok-found.found.items xs
    (count-of c.args.most c.saturating_add-count.result (length c.in_ok-found.found.items) few c.saturating_add-count.ensures) are in
    (c.in_ok-records.ensures ∙ same.0, ap (λ (rs : List (Bor LiveItem)). nat_lt c.args.most (length rs)) c.as_slice.ensures.value ∙ same.1)
