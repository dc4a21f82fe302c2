-- The entries of a folder, as they are listed.
use Rattle.std.specs.Prelude.{ℕ, ◌+◌, Bool, ◌&&◌, List, map, filter, length, nat_eq, is_none, Option, Some, None}
use Rattle.std.specs.Map.{values_of}
use Rattle.gd_names.specs.Ordered.{in_order}
use Rattle.gd_item.specs.Places.{last_name}
use Rattle.od_tree.specs.Local.{is_from}
use Rattle.od_tree.specs.declared.entry.Entry.{Entry}
use Rattle.od_tree.specs.declared.local.LocalFile.{LocalFile}
use Rattle.od_tree.specs.declared.local.Spot.{Spot}

-- whether a path is right below another one
abbrev pub is_right_below : List (List ℕ) → List (List ℕ) → Bool
is_right_below top path = is_from top path && nat_eq (length path) (length top + 1)

-- the size of a file, and 0 for a folder
abbrev pub size_in : Option LocalFile → ℕ
size_in None = 0
size_in (Some file) = length file.bytes

abbrev pub entry_of : Spot → Entry
entry_of spot = record { name = last_name spot.path; folder = is_none spot.file; size = size_in spot.file }

-- the entries of a folder, in order of path, which is their order of name
abbrev pub entries_in : List (List ℕ) → List Spot → List Entry
entries_in top spots =
    values_of (in_order (map (λ (spot : Spot). (spot.path, entry_of spot)) (filter (λ (spot : Spot). is_right_below top spot.path) spots)))
