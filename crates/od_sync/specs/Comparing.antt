-- When the local folder is what the drive shows: the same paths, with a folder or bytes of the same digest at each.
use Rattle.std.specs.Prelude.{ℕ, Bool, true, false, ◌&&◌, List, [], ◌∷◌, map, nat_eq, Option, Some, None}
use Rattle.std.specs.Cmp.Lexicographic.{pointwise}
use Rattle.gd_item.specs.Records.{digest_record}
use Rattle.gd_item.specs.declared.item.Item.{Item}
use Rattle.gd_item.specs.declared.item.Kind.{Kind}
use Rattle.gd_item.specs.declared.item.Kind.TheVariants as kind
use Rattle.gd_item.specs.declared.live.Version.{Version}
use Rattle.od_keeper.specs.Sound.{IsAccepted}
use Rattle.od_keeper.specs.declared.image.Agreed.TheVariants as agreed
use Rattle.od_sync.specs.declared.scanning.Node.{Node}
use Rattle.od_sync.specs.declared.scanning.Node.TheVariants.{Folder, File}

abbrev pub is_same_node : Node → Kind → Bool
is_same_node Folder (kind.Folder child_count) = true
is_same_node Folder (kind.File digest) = false
is_same_node Folder kind.Bare = false
is_same_node Folder kind.Deleted = false
is_same_node (File digest) (kind.Folder child_count) = false
is_same_node (File digest) (kind.File other) = pointwise nat_eq digest.0 other.0
is_same_node (File digest) kind.Bare = false
is_same_node (File digest) kind.Deleted = false

abbrev pub is_same_entry : List (List ℕ) × Node → List (List ℕ) × Item → Bool
is_same_entry a b = pointwise (pointwise nat_eq) a.0 b.0 && is_same_node a.1 b.1.kind

-- place by place, since both are in order of path
abbrev pub is_same : List (List (List ℕ) × Node) → List (List (List ℕ) × Item) → Bool
is_same [] [] = true
is_same [] (b ∷ remote) = false
is_same (a ∷ local) [] = false
is_same (a ∷ local) (b ∷ remote) = is_same_entry a b && is_same local remote

-- the entries of a tree as a scan shows them
abbrev pub node_of : Option (List ℕ) → Node
node_of None = Folder
node_of (Some bytes) = File (digest_record bytes)

abbrev pub scanned : List (List (List ℕ) × Option (List ℕ)) → List (List (List ℕ) × Node)
scanned tree = map (λ (entry : List (List ℕ) × Option (List ℕ)). (entry.0, node_of entry.1)) tree

-- what the drive shows is a folder, or the digest of bytes that it accepted
abbrev pub IsKindAccepted : List Version → Kind → Type 0
IsKindAccepted versions (kind.Folder child_count) = Unit {0}
IsKindAccepted versions (kind.File digest) = IsAccepted versions (agreed.File digest)
IsKindAccepted versions kind.Bare = Unit {0}
IsKindAccepted versions kind.Deleted = Unit {0}
