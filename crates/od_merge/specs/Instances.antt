-- Cases of the merge.
use Rattle.std.specs.Prelude.{ℕ, ◌+◌, Bool, true, false, not, ◌&&◌, ◌||◌, cond, List, [], ◌∷◌, ◌++◌, length, map, filter, nat_eq, nat_lt, Option, Some, None}
use Rattle.std.specs.List.{list_any}
use Rattle.std.specs.Cmp.Lexicographic.{pointwise}
use Rattle.od_merge.specs.declared.content.Content.{Content}
use Rattle.od_merge.specs.declared.content.Content.TheVariants.{Folder, File}
use Rattle.od_merge.specs.declared.why.Why.{Why}
use Rattle.gd_item.specs.declared.digest.Digest.{Digest}
use Rattle.od_keeper.specs.declared.image.Agreed.{Agreed}
use Rattle.od_keeper.specs.declared.image.Agreed.TheVariants as agreed
use Rattle.od_keeper.specs.declared.image.BaseRow.{BaseRow}
use Rattle.od_merge.specs.Sides.{Path, Sides, Tree, is_path, is_from, paths_of, sides_of}
use Rattle.od_merge.specs.Pairs.{local_pairs, drive_pairs}
use Rattle.od_merge.specs.Merging.{Limits, renamed, renames, target, is_going, held, all_paths}

-- copy names: the last name with one of three numbers behind it
abbrev pub copy_path : Path → ℕ → Path
copy_path [] n = []
copy_path (name ∷ []) n = (name ++ n ∷ []) ∷ []
copy_path (name ∷ (next ∷ names)) n = name ∷ copy_path (next ∷ names) n

abbrev pub first_free : List Path → List Path → Option Path
first_free taken [] = None
first_free taken (path ∷ paths) = cond (list_any (is_path path) taken) (first_free taken paths) (Some path)

abbrev pub copy : List Path → Path → Option Path
copy taken path = first_free taken (copy_path path 1 ∷ copy_path path 2 ∷ [])

abbrev pub low : ℕ → ℕ
low c = cond (nat_lt 64 c && nat_lt c 91) (c + 32) c

abbrev pub same_low : Path → Path → Bool
same_low a b = pointwise (pointwise (λ x y. nat_eq (low x) (low y))) a b

-- names with a 0 are bad, and the file with a 9 in its path is too large
abbrev pub limits : Limits
limits = record { bad_name = list_any (list_any (nat_eq 0)); too_long = λ path. nat_lt 4 (length path); too_large = list_any (list_any (nat_eq 9)); quota = λ path. false; same_caseless = same_low }

abbrev pub all : Path → Bool → Bool
all path folder = true

abbrev pub numbered : ℕ → Digest
numbered n = record { 0 = n ∷ [] }

abbrev pub row : Path → Agreed → BaseRow
row path what = record { path = path; what = what; flight = None }

abbrev pub agreed_file : ℕ → Agreed
agreed_file n = agreed.File (numbered n)

abbrev pub known : ℕ → Content
known n = File (Some (numbered n))

-- all that the merge says, beside the paths
pub record Told : Type 0 where
  pub renames : List (Path × Path)
  pub target : List (Path × Option Content)
  pub gone_here : List Path
  pub gone_there : List Path
  pub held : List (Path × Why)

abbrev pub told_of : List (Path × Path) → Sides → Told
told_of moves m = record {
  renames = moves;
  target = map (λ path. (path, target m path)) (all_paths m);
  gone_here = filter (is_going m m.local) (paths_of m.local);
  gone_there = filter (is_going m m.remote) (paths_of m.remote);
  held = held limits m;
}

abbrev pub told : Sides → Told
told s = told_of (renames copy s) (renamed copy s)

abbrev pub a : List ℕ
a = 97 ∷ []

abbrev pub upper_a : List ℕ
upper_a = 65 ∷ []

abbrev pub b : List ℕ
b = 98 ∷ []

abbrev pub c : List ℕ
c = 99 ∷ []

abbrev pub d : List ℕ
d = 100 ∷ []

abbrev pub upper_d : List ℕ
upper_d = 68 ∷ []

abbrev pub e : List ℕ
e = 101 ∷ []

abbrev pub f : List ℕ
f = 102 ∷ []

abbrev pub x : List ℕ
x = 120 ∷ []

-- a user's change, the drive's change, and a removal on each side
abbrev pub plain : Told
plain = told (sides_of (all)
    (row (a ∷ []) (agreed_file 1) ∷ row (b ∷ []) (agreed_file 1) ∷ row (c ∷ []) (agreed_file 1) ∷ row (d ∷ []) (agreed_file 1) ∷ [])
    ((a ∷ [], known 2) ∷ (b ∷ [], known 1) ∷ (c ∷ [], known 1) ∷ (e ∷ [], known 5) ∷ [])
    ((a ∷ [], known 1) ∷ (b ∷ [], known 2) ∷ (d ∷ [], known 1) ∷ (f ∷ [], known 6) ∷ []))

abbrev pub edit_edit : Told
edit_edit = told (sides_of (all)
    (row (a ∷ []) (agreed_file 1) ∷ [])
    ((a ∷ [], known 2) ∷ [])
    ((a ∷ [], known 3) ∷ []))

abbrev pub folder_to_file : Told
folder_to_file = told (sides_of (all)
    (row (d ∷ []) agreed.Folder ∷ row (d ∷ f ∷ []) (agreed_file 1) ∷ [])
    ((d ∷ [], Folder) ∷ (d ∷ f ∷ [], known 2) ∷ [])
    ((d ∷ [], known 3) ∷ []))

-- only what is two folders below /a/b passes
abbrev pub in_a_b : Path → Bool → Bool
in_a_b path folder = is_from (a ∷ b ∷ []) path && nat_lt 2 (length path)

abbrev pub filtered : Told
filtered = told (sides_of (in_a_b)
    ([])
    ([])
    ((a ∷ [], Folder) ∷ (a ∷ b ∷ [], Folder) ∷ (a ∷ b ∷ c ∷ [], known 1) ∷ (a ∷ x ∷ [], known 2) ∷ []))

-- all but files named x
abbrev pub but_x : Path → Bool → Bool
but_x path folder = not (list_any (pointwise nat_eq x) path)

abbrev pub staying : Told
staying = told (sides_of (but_x)
    (row (d ∷ []) agreed.Folder ∷ row (d ∷ a ∷ []) (agreed_file 1) ∷ [])
    ([])
    ((d ∷ [], Folder) ∷ (d ∷ a ∷ [], known 1) ∷ (d ∷ x ∷ [], known 2) ∷ []))

-- only what is in /d and named a passes
abbrev pub a_in_d : Path → Bool → Bool
a_in_d path folder = is_path (d ∷ a ∷ []) path

abbrev pub not_empty : Told
not_empty = told (sides_of (a_in_d)
    (row (d ∷ []) agreed.Folder ∷ row (d ∷ a ∷ []) (agreed_file 1) ∷ [])
    ([])
    ((d ∷ [], Folder) ∷ (d ∷ a ∷ [], known 1) ∷ (d ∷ x ∷ [], known 2) ∷ []))

abbrev pub clash_new : Told
clash_new = told (sides_of (all)
    ([])
    ((upper_a ∷ [], known 2) ∷ ((99 ∷ 0 ∷ []) ∷ [], known 3) ∷ (e ∷ [], known 4) ∷ [])
    ((a ∷ [], known 1) ∷ []))

abbrev pub clash_old : Told
clash_old = told (sides_of (all)
    (row (a ∷ []) (agreed_file 1) ∷ [])
    ((upper_a ∷ [], known 3) ∷ (a ∷ [], known 2) ∷ [])
    ((a ∷ [], known 1) ∷ []))

abbrev pub clash_below : Told
clash_below = told (sides_of (all)
    (row (d ∷ []) agreed.Folder ∷ row (d ∷ f ∷ []) (agreed_file 1) ∷ [])
    ((upper_d ∷ [], Folder) ∷ (d ∷ [], Folder) ∷ (d ∷ f ∷ [], known 1) ∷ (d ∷ x ∷ [], known 2) ∷ [])
    ((d ∷ [], Folder) ∷ (d ∷ f ∷ [], known 1) ∷ []))

abbrev pub clash_skipped : Told
clash_skipped = told (sides_of (λ path folder. is_path (a ∷ []) path)
    ([])
    ((a ∷ [], known 1) ∷ [])
    ((upper_a ∷ [], known 2) ∷ []))

abbrev pub case_moved : Told
case_moved = told (sides_of (all)
    (row (a ∷ []) (agreed_file 1) ∷ [])
    ((upper_a ∷ [], known 1) ∷ [])
    ((a ∷ [], known 1) ∷ []))

abbrev pub file_to_folder : Told
file_to_folder = told (sides_of (all)
    (row (a ∷ []) (agreed_file 1) ∷ [])
    ((a ∷ [], Folder) ∷ (a ∷ x ∷ [], known 2) ∷ [])
    ((a ∷ [], known 1) ∷ []))

abbrev pub passes_later : Told
passes_later = told (sides_of (λ path folder. not folder || not (is_path (d ∷ []) path) && not (is_from (d ∷ []) path))
    ([])
    ((d ∷ [], Folder) ∷ (d ∷ x ∷ [], known 9) ∷ [])
    ((d ∷ [], known 1) ∷ []))

abbrev pub no_name_left : Told
no_name_left = told (sides_of (all)
    ([])
    ((d ∷ [], Folder) ∷ (d ∷ a ∷ [], known 2) ∷ (d ∷ (97 ∷ 1 ∷ []) ∷ [], known 3) ∷ (d ∷ (97 ∷ 2 ∷ []) ∷ [], known 4) ∷ [])
    ((d ∷ [], Folder) ∷ (d ∷ a ∷ [], known 1) ∷ []))

-- bytes that were on their way have come, and the user has changed them since
abbrev pub flown : Told
flown = told (sides_of (all)
    (record { path = a ∷ []; what = agreed_file 1; flight = Some (numbered 2) } ∷ [])
    ((a ∷ [], known 3) ∷ [])
    ((a ∷ [], known 2) ∷ []))

-- moves: on the drive, in the folder, to another case, and in a chain
abbrev pub moved_there : List (Path × Path)
moved_there = local_pairs (sides_of all (row (a ∷ []) (agreed_file 1) ∷ []) ((a ∷ [], known 1) ∷ []) ((d ∷ [], Folder) ∷ (d ∷ b ∷ [], known 1) ∷ []))

abbrev pub moved_here : List (Path × Path)
moved_here = drive_pairs limits (sides_of all (row (a ∷ []) (agreed_file 1) ∷ []) ((b ∷ [], known 1) ∷ []) ((a ∷ [], known 1) ∷ []))

abbrev pub moved_case : List (Path × Path)
moved_case = drive_pairs limits (sides_of all (row (a ∷ []) (agreed_file 1) ∷ []) ((upper_a ∷ [], known 1) ∷ []) ((a ∷ [], known 1) ∷ []))

abbrev pub upper_b : List ℕ
upper_b = 66 ∷ []

abbrev pub moved_chain : List (Path × Path)
moved_chain = drive_pairs limits (sides_of all (row (a ∷ []) (agreed_file 1) ∷ row (b ∷ []) (agreed_file 2) ∷ [])
    ((upper_b ∷ [], known 1) ∷ (c ∷ [], known 2) ∷ []) ((a ∷ [], known 1) ∷ (b ∷ [], known 2) ∷ []))

-- a folder with a file in it
abbrev pub with_file : Tree
with_file = (d ∷ [], Folder) ∷ (d ∷ f ∷ [], known 1) ∷ []
