-- What a client knows of a drive from the pages of its feed: by number the last record of each item, without the
-- deleted ones. Pages that make no drive are told by the least number that does not fit.
use Rattle.std.specs.Prelude.{◌≡◌, ℕ, ◌<◌, Bool, true, false, not, ◌&&◌, ◌||◌, cond, List, [], ◌∷◌, map, filter, is_none, nat_eq, Option, Some, None}
use Rattle.std.specs.Cmp.Lexicographic.{pointwise}
use Rattle.std.specs.Ordering.{nat_cmp}
use Rattle.std.specs.BTreeMap.{insert_entry, is_at}
use Rattle.std.specs.Map.{values_of, lookup, remove_entry}
use Rattle.gd_names.specs.Ordered.{in_order}
use Rattle.gd_item.specs.Nodes.{Node, item_node, node_at, is_some_folder, path_of, has_twin}
use Rattle.gd_item.specs.Trees.{placed}
use Rattle.gd_item.specs.declared.item.Item.{Item}
use Rattle.gd_item.specs.declared.item.Kind.{Kind}
use Rattle.gd_item.specs.declared.item.Kind.TheVariants.{Folder, File, Bare, Deleted}
use Rattle.gd_item.specs.declared.item.Tag.{Tag}
use Rattle.gd_item.specs.declared.reply.Page.{Page}
use Rattle.gd_item.specs.declared.reply.PageLink.{PageLink}
use Rattle.gd_item.specs.declared.reply.PageLink.TheVariants as link
use Rattle.od_mirror.specs.declared.mirror.Taken.{Taken}
use Rattle.od_mirror.specs.declared.mirror.Taken.TheVariants.{More, Last}
use Rattle.od_mirror.specs.declared.view.MirrorView.{MirrorView}

-- what was pulled so far: the items by number, the token of the next request, and the token of the next
-- enumeration once the last page was taken
pub record Pulled : Type 0 where
  pub items : List (ℕ × Item)
  pub token : Option (List ℕ)
  pub last : Option (List ℕ)

-- a file whose record gives no digest has that of the item which stands at its number, where this is the same file
abbrev pub known_from : Kind → Kind
known_from (Folder child_count) = Bare
known_from (File digest) = File digest
known_from Bare = Bare
known_from Deleted = Bare

abbrev pub known_kind : Tag → Option Item → Kind
known_kind etag None = Bare
known_kind etag (Some item) = cond (pointwise nat_eq item.etag.0 etag.0) (known_from item.kind) Bare

abbrev pub known_item : List (ℕ × Item) → Item → Item
known_item items item = record item { kind = known_kind item.etag (lookup (is_at (nat_cmp item.id.0)) items) }

-- the items after one more record
abbrev pub with_kind : Kind → List (ℕ × Item) → ℕ → Item → List (ℕ × Item)
with_kind (Folder child_count) items number item = insert_entry nat_cmp items number item
with_kind (File digest) items number item = insert_entry nat_cmp items number item
with_kind Bare items number item = insert_entry nat_cmp items number (known_item items item)
with_kind Deleted items number item = remove_entry (is_at (nat_cmp number)) items

abbrev pub with_record : List (ℕ × Item) → Item → List (ℕ × Item)
with_record items item = with_kind item.kind items item.id.0 item

-- the items after these records, in their order
abbrev pub with_records : List (ℕ × Item) → List Item → List (ℕ × Item)
with_records items [] = items
with_records items (item ∷ records) = with_records (with_record items item) records

-- what is pulled when a pull begins with these items and this token
abbrev pub begun : List Item → Option (List ℕ) → Pulled
begun items token = record { items = with_records [] items; token = token; last = None }

-- what is pulled after one more page
abbrev pub after_link : List (ℕ × Item) → PageLink → Pulled
after_link items (link.Next token) = record { items = items; token = Some token; last = None }
after_link items (link.Delta token) = record { items = items; token = Some token; last = Some token }

abbrev pub after_page : Pulled → Page → Pulled
after_page pulled page = after_link (with_records pulled.items page.items) page.link

-- the items as nodes
abbrev pub nodes : List Item → List Node
nodes items = map item_node items

-- whether the root is there, and a folder
abbrev pub has_root : List Node → Bool
has_root all = is_some_folder (node_at 1 all)

-- whether a node that may be there has no path to the root, or an earlier sibling has its name but for case
abbrev pub is_misplaced : List Node → Option Node → Bool
is_misplaced all None = false
is_misplaced all (Some node) = not (has_root all) || is_none (path_of all node.number) || has_twin all node

-- whether the number does not fit: its item is misplaced, or it is the root's and there is no root
abbrev pub is_bad : List Node → ℕ → Bool
is_bad all number = is_misplaced all (node_at number all) || (nat_eq number 1 && not (has_root all))

-- the least number that does not fit
pub record IsLeastBad (all : List Node) (number : ℕ) : Type 0 where
  pub bad : is_bad all number ≡ true
  pub least : (less : ℕ) → less < number → is_bad all less ≡ false

-- every number fits
abbrev pub AllFit : List Node → Type 0
AllFit all = (number : ℕ) → is_bad all number ≡ false

-- a view is what was pulled, which fits
pub record IsView (pulled : Pulled) (view : MirrorView) : Type 0 where
  pub items : view.items ≡ values_of pulled.items
  pub token : Some view.token ≡ pulled.last
  pub fit : AllFit (nodes view.items)

-- the items but the root, each at its path, in order of path
abbrev pub paths_of : List Item → List (List (List ℕ) × Item)
paths_of items = in_order (placed (λ (item : Item). item.id.0) (nodes items) (filter (λ item. not (nat_eq item.id.0 1)) items))

-- whether more pages come after a page with this link
abbrev pub taken_of : PageLink → Taken
taken_of (link.Next token) = More
taken_of (link.Delta token) = Last
