-- What a plan says is to be done.
use Rattle.std.specs.Prelude.{ℕ, ◌≡◌, ◌&&◌, cond, List, ◌++◌, find, map, is_none, Option, Some, None, not}
use Rattle.std.specs.List.{filter_map}
use Rattle.std.specs.Option.{option_map}
use Rattle.gd_item.specs.declared.digest.Digest.{Digest}
use Rattle.gd_item.specs.declared.id.ItemId.{ItemId}
use Rattle.gd_item.specs.declared.item.Item.{Item}
use Rattle.gd_item.specs.declared.item.Kind.{Kind}
use Rattle.gd_item.specs.declared.item.Kind.TheVariants as kind
use Rattle.gd_item.specs.declared.item.Tag.{Tag}
use Rattle.od_keeper.specs.declared.image.BaseRow.{BaseRow}
use Rattle.od_merge.specs.Merging.{Limits, all_paths, is_going, renamed, renames, why_held}
use Rattle.od_merge.specs.Pairs.{drive_pairs, is_sent_now, local_pairs}
use Rattle.od_reconcile.specs.Moving.{is_moved_from, is_moved_to, pair_to}
use Rattle.od_merge.specs.Sides.{Path, Sides, at, digest_of, is_path, sides_of}
use Rattle.od_merge.specs.Steps.{deepest_first, is_fetched, needs_folder}
use Rattle.od_merge.specs.declared.content.Content.{Content}
use Rattle.od_merge.specs.declared.content.Content.TheVariants.{Folder, File}
use Rattle.od_synclist.specs.Rules.{passes_file}
use Rattle.od_reconcile.specs.Copying.{copy_path, renamed_entries}
use Rattle.od_reconcile.specs.Entries.{local_tree, remote_tree}
use Rattle.od_reconcile.specs.Holding.{held_list, limits_of}
use Rattle.od_reconcile.specs.declared.types.Down.{Down}
use Rattle.od_reconcile.specs.declared.types.Down.TheVariants as down
use Rattle.od_reconcile.specs.declared.types.Node.{Node}
use Rattle.od_reconcile.specs.declared.types.Plan.{Plan}
use Rattle.od_reconcile.specs.declared.types.Rename.{Rename}
use Rattle.od_reconcile.specs.declared.planning.Steps.{Steps}
use Rattle.od_reconcile.specs.declared.types.Up.{Up}
use Rattle.od_reconcile.specs.declared.types.Up.TheVariants as up

-- the drive's item at a path
abbrev pub item_at : List (Path × Item) → Path → Option Item
item_at items path = option_map (λ entry. entry.1) (find (λ entry. is_path path entry.0) items)

-- IN THE FOLDER

abbrev pub removal_of : Path → Option Content → Option Down
removal_of path None = None
removal_of path (Some Folder) = Some (down.RemoveFolder path)
removal_of path (Some (File None)) = None
removal_of path (Some (File (Some digest))) = Some (down.RemoveFile path digest)

abbrev pub removal_here : Sides → List (Path × Path) → Path → Option Down
removal_here m pairs path = cond (is_going m m.local path && not (is_moved_from pairs path)) (removal_of path (at m.local path)) None

abbrev pub folder_here : Sides → Path → Option Down
folder_here m path = cond (needs_folder m m.local path) (Some (down.MakeFolder path)) None

abbrev pub fetch_by : Path → Item → Kind → Option Digest → Option Down
fetch_by path item (kind.Folder child_count) over = None
fetch_by path item (kind.File digest) over = Some (down.Fetch path item.id digest item.size over)
fetch_by path item kind.Bare over = None
fetch_by path item kind.Deleted over = None

abbrev pub fetch_of : Path → Option Item → Option Digest → Option Down
fetch_of path None over = None
fetch_of path (Some item) over = fetch_by path item item.kind over

-- a fetch, or a move from where the folder has the bytes
abbrev pub move_of : Path → Path → Option Digest → Option Down
move_of from to None = None
move_of from to (Some digest) = Some (down.Move from to digest)

abbrev pub fetch_or_move : Sides → List (Path × Item) → Path → Option (Path × Path) → Option Down
fetch_or_move m items path None = fetch_of path (item_at items path) (digest_of (at m.local path))
fetch_or_move m items path (Some pair) = move_of pair.0 path (digest_of (at m.local pair.0))

abbrev pub fetch_here : Sides → List (Path × Item) → List (Path × Path) → Path → Option Down
fetch_here m items pairs path = cond (is_fetched m path) (fetch_or_move m items path (pair_to pairs path)) None

-- removals, the deepest first, then folders, then fetches and moves in order of their new paths; a move stands in place of its removal
-- and its fetch
abbrev pub down_list : Sides → List (Path × Item) → List Down
down_list m items = filter_map (removal_here m (local_pairs m)) (deepest_first (all_paths m)) ++ (filter_map (folder_here m) (all_paths m) ++ filter_map (fetch_here m items (local_pairs m)) (all_paths m))

-- ON THE DRIVE

abbrev pub delete_of : Path → Option Item → Option Up
delete_of path None = None
delete_of path (Some item) = Some (up.Remove path item.id item.etag)

abbrev pub removal_there : Sides → List (Path × Item) → List (Path × Path) → Path → Option Up
removal_there m items pairs path = cond (is_going m m.remote path && not (is_moved_from pairs path)) (delete_of path (item_at items path)) None

abbrev pub folder_there : Limits → Sides → Path → Option Up
folder_there limits m path = cond (needs_folder m m.remote path && is_none (why_held limits m path)) (Some (up.MakeFolder path)) None

-- what a file is sent over: the drive's file at the path, if there is one
abbrev pub over_by : Item → Kind → Option (ItemId × Tag)
over_by item (kind.Folder child_count) = None
over_by item (kind.File digest) = Some (item.id, item.etag)
over_by item kind.Bare = Some (item.id, item.etag)
over_by item kind.Deleted = None

abbrev pub over_of : Option Item → Option (ItemId × Tag)
over_of None = None
over_of (Some item) = over_by item item.kind

abbrev pub send_there : Limits → Sides → List (Path × Item) → List (Path × Path) → Path → Option Up
send_there limits m items pairs path = cond (is_sent_now limits m path && not (is_moved_to pairs path)) (Some (up.Send path (over_of (item_at items path)))) None

-- the moves of items, in order of their new paths
abbrev pub patch_of : Path × Path → Option Item → Option Up
patch_of pair None = None
patch_of pair (Some item) = Some (up.Move pair.0 pair.1 item.id item.etag)

abbrev pub patch_there : List (Path × Item) → Path × Path → Option Up
patch_there items pair = patch_of pair (item_at items pair.0)

-- removals, the deepest first, then folders, then moves, then what is sent; a move stands in place of its removal and what is sent
abbrev pub up_list : Limits → Sides → List (Path × Item) → List Up
up_list limits m items =
    filter_map (removal_there m items (drive_pairs limits m)) (deepest_first (all_paths m))
    ++ (filter_map (folder_there limits m) (all_paths m)
    ++ (filter_map (patch_there items) (drive_pairs limits m) ++ filter_map (send_there limits m items (drive_pairs limits m)) (all_paths m)))

-- the steps, and what is held
pub record HasSteps (limits : Limits) (m : Sides) (items : List (Path × Item)) (steps : Steps) : Type 0 where
  pub down : steps.down ≡ down_list m items
  pub up : steps.up ≡ up_list limits m items
  pub held : steps.held ≡ held_list limits m

-- THE PLAN

abbrev pub rename_of : Path × Path → Rename
rename_of pair = record { from = pair.0; to = pair.1 }

-- the sides at the beginning, and after the renames
abbrev pub begun : List ℕ → List BaseRow → List (Path × Node) → List (Path × Item) → Sides
begun rules rows local items = sides_of (passes_file rules) rows (local_tree local) (remote_tree items)

abbrev pub renamed_sides : List ℕ → List ℕ → List BaseRow → List (Path × Node) → List (Path × Item) → Sides
renamed_sides rules host rows local items = renamed (copy_path host (local_tree local)) (begun rules rows local items)

abbrev pub renames_made : List ℕ → List ℕ → List BaseRow → List (Path × Node) → List (Path × Item) → List (Path × Path)
renames_made rules host rows local items = renames (copy_path host (local_tree local)) (begun rules rows local items)

abbrev pub limits_then : List ℕ → List ℕ → List BaseRow → List (Path × Node) → List (Path × Item) → List Path → Limits
limits_then rules host rows local items quota = limits_of quota (renamed_entries (renames_made rules host rows local items) local)

-- what a plan does, given the renames, what the drive does not take, the sides after the renames and the drive's items
pub record IsPlanOf (made : List (Path × Path)) (limits : Limits) (m : Sides) (items : List (Path × Item)) (plan : Plan) : Type 0 where
  pub renames : plan.renames ≡ map rename_of made
  pub down : plan.down ≡ down_list m items
  pub up : plan.up ≡ up_list limits m items
  pub held : plan.held ≡ held_list limits m

-- the plan for what was agreed on, found in the folder and pulled from the drive
abbrev pub IsPlan : List ℕ → List ℕ → List BaseRow → List (Path × Node) → List (Path × Item) → List Path → Plan → Type 0
IsPlan rules host rows local items quota plan =
    IsPlanOf (renames_made rules host rows local items) (limits_then rules host rows local items quota) (renamed_sides rules host rows local items) items plan
