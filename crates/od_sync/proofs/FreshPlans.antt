-- Where nothing stands in the folder and nothing was agreed on, the plan can be done and makes the drive's tree.
use Rattle.std.proofs.Common.{◌≡◌, ◌<◌, ◌≤◌, false, List, [], ◌∷◌, length, map, refl, ap, sym, subst, ◌∙◌, arith}
use Rattle.std.specs.List.{All, AllByRecursion}
use Rattle.gd_names.specs.Ordered.{in_order}
use Rattle.gd_item.specs.Inventory.{Inventory}
use Rattle.gd_item.specs.Records.{record_of, records_of, size_of}
use Rattle.gd_item.specs.Sound.{IsItemMap}
use Rattle.gd_item.specs.Steps.{held_by}
use Rattle.gd_item.specs.Trees.{nodes_of}
use Rattle.gd_item.specs.declared.item.Item.{Item}
use Rattle.gd_item.specs.declared.live.LiveItem.{LiveItem}
use Rattle.gd_item.specs.declared.step.Step.{Step}
use Rattle.gd_names.proofs.Each.{each-so}
use Rattle.gd_names.proofs.Ordered.{Path, Rises, rises-in-order-from}
use Rattle.gd_laws.proofs.Logs.{file_sizes, sound-log}
use Rattle.gd_item.specs.Views.{uncounted}
use Rattle.gd_laws.specs.Placed.{placed_items}
use Rattle.od_mirror.specs.Pulled.{paths_of}
use Rattle.gd_names.proofs.Mapped.{mapped}
use Rattle.od_pages.proofs.Standing.{paths-of-placed, tree-of-placed}
use Rattle.od_tree.specs.Local.{is_path}
use Rattle.od_sync.specs.FreshPlans.{FreshPlan}
use Rattle.od_sync.specs.Planning.{fetches_of, planned_fetches, planned_folders}
use Rattle.od_sync.specs.declared.planning.Fetching.{Fetching}
use Rattle.gd_laws.proofs.PlacedItems.{IsAt, IsHeld, IsLed, all-at, all-held, all-led, item_bytes}
use Rattle.od_sync.proofs.FreshPlansItems.{fetches-fresh, files-held, folders-fresh, folders-held, same-fetches, same-folders, same-paths}
use Rattle.gd_names.proofs.Keys.{all-mapped}
use Rattle.gd_laws.proofs.Leading.{path-long}
use Rattle.od_sync.proofs.FreshPlansSpots.{AreBelow, can-make, can-place}
use Rattle.od_sync.proofs.FreshPlansTrees.{Entry, files, folders, tree-again}

not-root : (path : Path) → 0 < length path → is_path [] path ≡ false
not-root [] long = absurd (omega (arith, long))
not-root (name ∷ path) long = refl

module _ (held : Inventory) (sound : IsItemMap held) (sizes : All (λ (item : LiveItem). size_of item.bytes ≤ 67108864) held.items) where
  abbrev entries : List (Path × LiveItem)
  entries = in_order (placed_items held)

  abbrev tree : List Entry
  tree = mapped item_bytes entries

  each-held : AllByRecursion (IsHeld held) held.items
  each-held = all-held held sound sizes

  each-at : AllByRecursion (IsAt held) entries
  each-at = all-at held each-held

  tree-rises : Rises tree
  tree-rises =
      subst (λ (t : List Entry). Rises t) (tree-of-placed held)
      (rises-in-order-from [] (mapped item_bytes (placed_items held)) tt)

  tree-below : AreBelow tree
  tree-below =
      all-mapped item_bytes (λ (entry : Entry). is_path [] entry.0 ≡ false) entries
      (each-so (IsAt held) (λ (entry : Path × LiveItem). is_path [] entry.0 ≡ false)
      (λ entry at. not-root entry.0 (path-long (nodes_of held) (length (nodes_of held)) entry.1.number entry.0 at.item.below_root at.path)) entries each-at)

  tree-led : AllByRecursion (λ (entry : Entry). IsLed tree entry.0) tree
  tree-led = all-mapped item_bytes (λ (entry : Entry). IsLed tree entry.0) entries (all-led held sound each-held)

  plan-held : FreshPlan held (folders tree) (fetches_of (mapped (record_of held.items) entries))
  plan-held = record {
    files = files tree;
    are = files-held held entries each-at;
    can_make = can-make tree tree-rises tree-below tree-led;
    can_place = can-place tree tree-rises tree-below tree-led;
    tree = tree-again tree tree-rises ∙ sym (tree-of-placed held);
  }

  plan-of : (items : List Item) → map uncounted items ≡ map uncounted (records_of held)
      → FreshPlan held (planned_folders [] [] (paths_of items)) (planned_fetches [] [] (paths_of items))
  plan-of items same =
      let paths : mapped uncounted (paths_of items) ≡ mapped uncounted (mapped (record_of held.items) entries) =
      same-paths items (records_of held) same ∙ ap (λ (found : List (Path × Item)). mapped uncounted found) (paths-of-placed held sound) in
      let folders_are : folders tree ≡ planned_folders [] [] (paths_of items) =
      sym (folders-fresh (paths_of items) ∙ same-folders (paths_of items) (mapped (record_of held.items) entries) paths ∙ folders-held held.items entries) in
      let fetches_are : fetches_of (mapped (record_of held.items) entries) ≡ planned_fetches [] [] (paths_of items) =
      sym (fetches-fresh (paths_of items) ∙ same-fetches (paths_of items) (mapped (record_of held.items) entries) paths) in
      subst (λ (made : List Path). FreshPlan held made (planned_fetches [] [] (paths_of items))) folders_are
      (subst (λ (fetched : List Fetching). FreshPlan held (folders tree) fetched) fetches_are plan-held)

pub fresh_plan : (drive : List Step) (items : List Item) → map uncounted items ≡ map uncounted (records_of (held_by drive))
    → FreshPlan (held_by drive) (planned_folders [] [] (paths_of items)) (planned_fetches [] [] (paths_of items))
fresh_plan drive items same = plan-of (held_by drive) (sound-log drive) (file_sizes drive) items same
