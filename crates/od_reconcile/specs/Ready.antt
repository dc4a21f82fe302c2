-- What a plan stands on: both sides and what was agreed on, made ready for look-ups.
use Rattle.std.specs.Prelude.{ℕ, ◌≡◌, Bool, false, not, ◌&&◌, List, [], Option, Some, None}
use Rattle.std.specs.List.{list_any}
use Rattle.std.specs.Map.{lookup}
use Rattle.std.specs.Ordering.{is_eq}
use Rattle.gd_item.specs.declared.digest.Digest.{Digest}
use Rattle.gd_names.specs.Ordered.{path_cmp}
use Rattle.od_keeper.specs.declared.image.Agreed.{Agreed}
use Rattle.od_keeper.specs.declared.image.BaseRow.{BaseRow}
use Rattle.od_merge.specs.Core.{is_in}
use Rattle.od_merge.specs.Sides.{Path, Sides, at, entry_passes, is_from, row_at, same, sides_of}
use Rattle.od_merge.specs.Merging.{is_changed, is_changed_or_skipped}
use Rattle.od_merge.specs.declared.content.Content.{Content}
use Rattle.od_merge.specs.declared.content.Content.TheVariants.{Folder, File}
use Rattle.od_synclist.specs.Rules.{passes_file}
use Rattle.od_reconcile.specs.declared.side.Side.{Side}
use Rattle.od_reconcile.specs.declared.both.Both.{Both}

-- a side is ready: its index has what stands at each path, and its set the paths from which on something passes
pub record IsReadySide (rules : List ℕ) (side : Side) : Type 0 where
  pub index : (path : Path) → at side.index.entries path ≡ at side.tree.now path
  pub kept : (path : Path) → is_in path side.kept.keys ≡ list_any (λ (entry : Path × Content). is_from path entry.0 && entry_passes (passes_file rules) entry) side.tree.now

-- whether an entry is kept, by what it is and by whether something from it on passes
abbrev pub kept_by : (Path → Bool → Bool) → Path → Bool → Option Content → Bool
kept_by passes path folder None = false
kept_by passes path folder (Some Folder) = folder
kept_by passes path folder (Some (File digest)) = passes path false

-- what was agreed on and what is on its way, by path
abbrev pub Mark : Type 0
Mark = Agreed × Option Digest

abbrev pub mark_or : Option Mark → BaseRow → Mark
mark_or None row = (row.what, row.flight)
mark_or (Some mark) row = mark

abbrev pub mark_at : List (Path × Mark) → Path → Option Mark
mark_at marks path = lookup (λ key. is_eq (path_cmp path key)) marks

-- the sides that a both is of
abbrev pub sides_found : Both → Sides
sides_found both = sides_of (passes_file both.rules.now) both.rows.now both.here.tree.now both.there.tree.now

pub record IsBothReady (both : Both) : Type 0 where
  pub here : IsReadySide both.rules.now both.here
  pub there : IsReadySide both.rules.now both.there
  pub marks : (path : Path) → mark_or (mark_at both.marks.entries path) (row_at [] path) ≡ mark_or None (row_at both.rows.now path)

-- whether an entry is a conflict, by what stands there on both sides
abbrev pub conflict_by : Option Content → Option Content → Bool → Bool → Bool → Bool
conflict_by (Some (File here)) (Some (File there)) files over_folder over_file = files
conflict_by (Some (File here)) (Some Folder) files over_folder over_file = over_folder
conflict_by (Some Folder) (Some (File there)) files over_folder over_file = over_file
conflict_by (Some Folder) (Some Folder) files over_folder over_file = false
conflict_by (Some content) None files over_folder over_file = false
conflict_by None there files over_folder over_file = false

-- a file that passes was changed on both sides, and differently
abbrev pub changed_twice : Sides → Path → Bool
changed_twice s path = s.passes path false && is_changed s path && not (same (at s.local path) (at s.remote path)) && not (same (at s.remote path) (s.base path))

-- a set of paths has those from which on the local side has something that is changed or skipped
abbrev pub HasEdited : Sides → List Path → Type 0
HasEdited s keys = (path : Path) → is_in path keys ≡ list_any (λ (entry : Path × Content). is_from path entry.0 && is_changed_or_skipped s entry.0) s.local
