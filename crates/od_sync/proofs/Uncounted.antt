-- Items that differ in the numbers of children alone compare as the same with the same entries.
use Rattle.std.proofs.Common.{◌≡◌, ℕ, ◌&&◌, List, [], ◌∷◌, map, nat_eq, refl, ap, sym, ◌∙◌}
use Rattle.std.specs.Cmp.Lexicographic.{pointwise}
use Rattle.gd_names.proofs.Mapped.{mapped}
use Rattle.gd_item.specs.Views.{uncounted_kind, uncounted}
use Rattle.gd_item.specs.declared.item.Item.{Item}
use Rattle.gd_item.specs.declared.item.Kind.{Kind}
use Rattle.gd_item.specs.declared.item.Kind.TheVariants as kinds
use Rattle.od_mirror.specs.Pulled.{paths_of}
use Rattle.od_pages.proofs.Uncounted.{paths-uncounted}
use Rattle.od_sync.specs.Comparing.{is_same, is_same_entry, is_same_node}
use Rattle.od_sync.specs.declared.scanning.Node.{Node as Found}
use Rattle.od_sync.specs.declared.scanning.Node.TheVariants.{Folder, File}

same-kind : (found : Found) (kind : Kind) → is_same_node found (uncounted_kind kind) ≡ is_same_node found kind
same-kind Folder (kinds.Folder child_count) = refl
same-kind Folder (kinds.File digest) = refl
same-kind Folder kinds.Bare = refl
same-kind Folder kinds.Deleted = refl
same-kind (File digest) (kinds.Folder child_count) = refl
same-kind (File digest) (kinds.File other) = refl
same-kind (File digest) kinds.Bare = refl
same-kind (File digest) kinds.Deleted = refl

same-entries : (found : List (List (List ℕ) × Found)) (entries : List (List (List ℕ) × Item)) → is_same found (mapped uncounted entries) ≡ is_same found entries
same-entries [] [] = refl
same-entries [] (b ∷ entries) = refl
same-entries (a ∷ found) [] = refl
same-entries (a ∷ found) (b ∷ entries) =
    ap (λ same. pointwise (pointwise nat_eq) a.0 b.0 && same && is_same found (mapped uncounted entries)) (same-kind a.1 b.1.kind)
    ∙ ap (λ rest. is_same_entry a b && rest) (same-entries found entries)

pub same-uncounted : (found : List (List (List ℕ) × Found)) (items others : List Item) → map uncounted items ≡ map uncounted others
    → is_same found (paths_of items) ≡ is_same found (paths_of others)
same-uncounted found items others same =
    sym (same-entries found (paths_of items))
    ∙ ap (λ entries. is_same found entries) (sym (paths-uncounted items) ∙ ap paths_of same ∙ paths-uncounted others)
    ∙ same-entries found (paths_of others)
