-- A folder compares as the same with the items that were pulled of a drive exactly where its tree is the drive's, and what was
-- found compares so exactly where it is what a scan of the drive's tree shows.
use Rattle.std.proofs.Common.{◌≡◌, ℕ, true, List, ◌++◌, map, ap, sym, ◌∙◌}
use Rattle.gd_names.specs.Ordered.{in_order}
use Rattle.gd_item.specs.Records.{records_of}
use Rattle.gd_item.specs.Steps.{held_by, accepted_by}
use Rattle.gd_item.specs.Trees.{tree_of}
use Rattle.gd_item.specs.declared.item.Item.{Item}
use Rattle.gd_item.specs.declared.step.Step.{Step}
use Rattle.gd_laws.proofs.Logs.{sound-log}
use Rattle.gd_item.specs.Views.{uncounted}
use Rattle.gd_laws.specs.Placed.{placed_items}
use Rattle.od_mirror.specs.Pulled.{paths_of}
use Rattle.od_pages.proofs.Standing.{paths-of-placed, tree-of-placed}
use Rattle.od_tree.specs.Collisions.{contents, NoCollision}
use Rattle.od_tree.specs.Local.{local_tree}
use Rattle.od_tree.specs.declared.step.LocalStep.{LocalStep}
use Rattle.od_sync.specs.Comparing.{is_same, scanned}
use Rattle.od_sync.specs.declared.scanning.Node.{Node}
use Rattle.od_sync.proofs.Compared.{bytes_of, same-scanned, same-trees, same-entries}
use Rattle.od_tree.proofs.Contents.{folder-among, drive-among, apart-before}
use Rattle.od_sync.proofs.Uncounted.{same-uncounted}

pub same-as-drive : (local more : List LocalStep) (drive later : List Step) (items : List Item) → map uncounted items ≡ map uncounted (records_of (held_by drive))
    → NoCollision (local ++ more) (accepted_by (drive ++ later)) → is_same (scanned (local_tree local)) (paths_of items) ≡ true → local_tree local ≡ tree_of (held_by drive)
same-as-drive local more drive later items pulled apart is =
    same-trees (contents local (accepted_by drive)) (held_by drive).items (local_tree local) (in_order (placed_items (held_by drive)))
    (apart-before local more drive later apart) (folder-among local (accepted_by drive)) (drive-among local drive)
    (ap (λ remote. is_same (scanned (local_tree local)) remote) (sym (paths-of-placed (held_by drive) (sound-log drive)))
    ∙ sym (same-uncounted (scanned (local_tree local)) items (records_of (held_by drive)) pulled)
    ∙ is)
    ∙ sym (tree-of-placed (held_by drive))

pub found-as-drive : (drive : List Step) (items : List Item) (found : List (List (List ℕ) × Node)) → map uncounted items ≡ map uncounted (records_of (held_by drive))
    → is_same found (paths_of items) ≡ true → found ≡ scanned (tree_of (held_by drive))
found-as-drive drive items found pulled is =
    same-scanned (held_by drive).items found (in_order (placed_items (held_by drive)))
    (ap (λ remote. is_same found remote) (sym (paths-of-placed (held_by drive) (sound-log drive)))
    ∙ sym (same-uncounted found items (records_of (held_by drive)) pulled)
    ∙ is)
    ∙ ap scanned (sym (tree-of-placed (held_by drive)))

pub drive-as-found : (drive : List Step) (items : List Item) → map uncounted items ≡ map uncounted (records_of (held_by drive))
    → is_same (scanned (tree_of (held_by drive))) (paths_of items) ≡ true
drive-as-found drive items pulled =
    same-uncounted (scanned (tree_of (held_by drive))) items (records_of (held_by drive)) pulled
    ∙ ap (λ tree. is_same (scanned tree) (paths_of (records_of (held_by drive)))) (tree-of-placed (held_by drive))
    ∙ ap (λ remote. is_same (scanned (bytes_of (in_order (placed_items (held_by drive))))) remote) (paths-of-placed (held_by drive) (sound-log drive))
    ∙ same-entries (held_by drive).items (in_order (placed_items (held_by drive)))

pub drive-as-same : (local : List LocalStep) (drive : List Step) (items : List Item) → map uncounted items ≡ map uncounted (records_of (held_by drive))
    → local_tree local ≡ tree_of (held_by drive) → is_same (scanned (local_tree local)) (paths_of items) ≡ true
drive-as-same local drive items pulled same =
    ap (λ tree. is_same (scanned tree) (paths_of items)) same ∙ drive-as-found drive items pulled
