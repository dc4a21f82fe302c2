-- What the two sides of a merge are, read from what a scan and a pull found.
use Rattle.std.specs.Prelude.{List, map, Some, None}
use Rattle.gd_item.specs.declared.item.Item.{Item}
use Rattle.gd_item.specs.declared.item.Kind.{Kind}
use Rattle.gd_item.specs.declared.item.Kind.TheVariants as kind
use Rattle.od_merge.specs.Sides.{Path, Tree}
use Rattle.od_merge.specs.declared.content.Content.{Content}
use Rattle.od_merge.specs.declared.content.Content.TheVariants.{Folder, File}
use Rattle.od_reconcile.specs.declared.types.Node.{Node}
use Rattle.od_reconcile.specs.declared.types.Node.TheVariants as node

-- what a scan found, without sizes
abbrev pub node_content : Node → Content
node_content node.Folder = Folder
node_content (node.File size digest) = File digest

-- what a pull found; a deleted item stands in no view
abbrev pub kind_content : Kind → Content
kind_content (kind.Folder child_count) = Folder
kind_content (kind.File digest) = File (Some digest)
kind_content kind.Bare = File None
kind_content kind.Deleted = File None

abbrev pub local_tree : List (Path × Node) → Tree
local_tree local = map (λ (entry : Path × Node). (entry.0, node_content entry.1)) local

abbrev pub remote_tree : List (Path × Item) → Tree
remote_tree remote = map (λ (entry : Path × Item). (entry.0, kind_content entry.1.kind)) remote
