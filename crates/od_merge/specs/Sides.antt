-- What the merge is given: what both sides agreed on, and the two trees, each a list of entries in order of path.
use Rattle.std.specs.Prelude.{ℕ, Bool, true, false, not, ◌&&◌, ◌||◌, cond, List, [], ◌∷◌, length, map, find, is_some, is_none, nat_eq, nat_lt, Option, Some, None}
use Rattle.std.specs.List.{list_any, starts_with}
use Rattle.std.specs.Option.{option_map}
use Rattle.std.specs.Cmp.Lexicographic.{pointwise}
use Rattle.od_merge.specs.declared.content.Content.{Content}
use Rattle.od_merge.specs.declared.content.Content.TheVariants as content
use Rattle.gd_item.specs.declared.digest.Digest.{Digest}
use Rattle.od_keeper.specs.declared.image.Agreed.{Agreed}
use Rattle.od_keeper.specs.declared.image.Agreed.TheVariants.{Nothing, Folder, File}
use Rattle.od_keeper.specs.declared.image.BaseRow.{BaseRow}

abbrev pub Path : Type 0
Path = List (List ℕ)

-- the entries in order of path
abbrev pub Tree : Type 0
Tree = List (Path × Content)

-- What the merge looks at: which paths pass the rules, what was agreed on at each path, both trees, and the conflicts that are
-- left where they are since no copy name was left for them.
pub record Sides : Type 0 where
  pub passes : Path → Bool → Bool
  pub base : Path → Option Content
  pub local : Tree
  pub remote : Tree
  pub left : List Path

-- whether two paths are one, and whether a path is that of the top or one below it, or only below it
abbrev pub is_path : Path → Path → Bool
is_path a b = pointwise (pointwise nat_eq) a b

abbrev pub is_from : Path → Path → Bool
is_from top path = starts_with (pointwise nat_eq) path top

abbrev pub is_below : Path → Path → Bool
is_below top path = nat_lt (length top) (length path) && is_from top path

-- what stands at a path
abbrev pub at : Tree → Path → Option Content
at tree path = option_map (λ entry. entry.1) (find (λ entry. is_path path entry.0) tree)

-- whether the same stands there: an unknown digest is like no other
abbrev pub same_digest : Option Digest → Option Digest → Bool
same_digest None other = false
same_digest (Some digest) None = false
same_digest (Some digest) (Some other) = pointwise nat_eq digest.0 other.0

abbrev pub same_content : Content → Content → Bool
same_content content.Folder content.Folder = true
same_content content.Folder (content.File other) = false
same_content (content.File digest) content.Folder = false
same_content (content.File digest) (content.File other) = same_digest digest other

abbrev pub same : Option Content → Option Content → Bool
same None None = true
same None (Some other) = false
same (Some node) None = false
same (Some node) (Some other) = same_content node other

-- whether a folder stands there, or a file
abbrev pub is_folder : Option Content → Bool
is_folder None = false
is_folder (Some content.Folder) = true
is_folder (Some (content.File digest)) = false

abbrev pub is_file : Option Content → Bool
is_file None = false
is_file (Some content.Folder) = false
is_file (Some (content.File digest)) = true

abbrev pub is_other_kind : Option Content → Option Content → Bool
is_other_kind a b = is_folder a && is_file b || is_file a && is_folder b

abbrev pub digest_of : Option Content → Option Digest
digest_of None = None
digest_of (Some content.Folder) = None
digest_of (Some (content.File digest)) = digest

-- whether what stands at a path of a tree is kept: it passes, or something below it does
abbrev pub entry_passes : (Path → Bool → Bool) → Path × Content → Bool
entry_passes passes entry = passes entry.0 (is_folder (Some entry.1))

abbrev pub is_kept_node : (Path → Bool → Bool) → Tree → Path → Option Content → Bool
is_kept_node passes tree path None = false
is_kept_node passes tree path (Some content.Folder) = list_any (λ (entry : Path × Content). is_from path entry.0 && entry_passes passes entry) tree
is_kept_node passes tree path (Some (content.File digest)) = passes path false

abbrev pub is_kept : (Path → Bool → Bool) → Tree → Path → Bool
is_kept passes tree path = is_kept_node passes tree path (at tree path)

-- whether what stands at a path of a tree is skipped
abbrev pub is_skipped : (Path → Bool → Bool) → Tree → Path → Bool
is_skipped passes tree path = is_some (at tree path) && not (is_kept passes tree path)

-- whether something is kept at a path on either side
abbrev pub is_kept_there : Sides → Path → Bool
is_kept_there s path = is_kept s.passes s.local path || is_kept s.passes s.remote path

-- the paths of a tree
abbrev pub paths_of : Tree → List Path
paths_of tree = map (λ (entry : Path × Content). entry.0) tree

-- The base: what both sides agree on at a path after a look at both. A flight is the digest of bytes that are on their way to the
-- drive; it is the agreement once the drive has them. Where both sides are the same at a kept path, they agree on that; and on
-- nothing where neither has anything and nothing is on its way. Any other row stays.
abbrev pub row_at : List BaseRow → Path → BaseRow
row_at [] path = record { path = path; what = Nothing; flight = None }
row_at (row ∷ rows) path = cond (is_path row.path path) row (row_at rows path)

abbrev pub agreed_content : Agreed → Option Content
agreed_content Nothing = None
agreed_content Folder = Some content.Folder
agreed_content (File digest) = Some (content.File (Some digest))

abbrev pub has_landed : Option Digest → Option Content → Bool
has_landed None there = false
has_landed (Some digest) there = same (Some (content.File (Some digest))) there

abbrev pub agreed_by : BaseRow → Bool → Option Content → Option Content → Option Content
agreed_by row kept here there =
    cond (has_landed row.flight there || kept && is_some here && same here there) there
    (cond (is_none row.flight && is_none here && is_none there) None (agreed_content row.what))

abbrev pub agreement : (Path → Bool → Bool) → List BaseRow → Tree → Tree → Path → Option Content
agreement passes rows local remote path =
    agreed_by (row_at rows path) (is_kept passes local path || is_kept passes remote path) (at local path) (at remote path)

-- the two sides at the beginning of a merge
abbrev pub sides_of : (Path → Bool → Bool) → List BaseRow → Tree → Tree → Sides
sides_of passes rows local remote = record { passes = passes; base = agreement passes rows local remote; local = local; remote = remote; left = [] }
