-- What a look at both sides after the renames has ready.
use Rattle.std.specs.Prelude.{◌≡◌, Bool, true, false, not, ◌&&◌, ◌||◌, cond, List, filter, is_none, is_some, Option, Some, None}
use Rattle.std.specs.List.{list_any}
use Rattle.od_merge.specs.Core.{is_in}
use Rattle.od_merge.specs.Merging.{all_paths, both_paths, is_needed, is_unwanted, merged}
use Rattle.od_merge.specs.Sides.{Path, Tree, Sides, at, is_below, is_other_kind, is_skipped}
use Rattle.od_merge.specs.declared.content.Content.{Content}
use Rattle.od_merge.specs.declared.content.Content.TheVariants.{Folder, File}
use Rattle.od_synclist.specs.Rules.{passes_file}
use Rattle.od_reconcile.specs.Ready.{IsBothReady, IsReadySide, sides_found}
use Rattle.od_reconcile.specs.declared.look.Look.{Look}
use Rattle.od_reconcile.specs.declared.merge.Merge.{Merge}

-- the sides after the renames
abbrev pub merge_sides : Merge → Sides
merge_sides merge = record {
  passes = passes_file merge.both.now.rules.now;
  base = (sides_found merge.both.now).base;
  local = merge.here.now.tree.now;
  remote = merge.both.now.there.tree.now;
  left = merge.left.now;
}

pub record IsMerge (merge : Merge) : Type 0 where
  pub both : IsBothReady merge.both.now
  pub here : IsReadySide merge.both.now.rules.now merge.here.now

-- what is wanted at a path, by what is known of it
abbrev pub seen_by : Bool → Bool → Option Content → Option Content
seen_by other kept there = cond (other && not kept) None there

abbrev pub wanted_by : Bool → Bool → Bool → Option Content → Option Content → Option Content → Option Content
wanted_by left kept_here kept_there base here there = cond ((kept_here || kept_there) && not left)
    (merged base (seen_by (is_other_kind here there) kept_here here) (seen_by (is_other_kind here there) kept_there there)) None

-- a set has the folders above what is skipped on either side
abbrev pub HasSkipped : Sides → List Path → Type 0
HasSkipped s keys = (path : Path) → is_in path keys ≡ (list_any (λ (entry : Path × Content). is_below path entry.0 && is_skipped s.passes s.local entry.0) s.local
    || list_any (λ (entry : Path × Content). is_below path entry.0 && is_skipped s.passes s.remote entry.0) s.remote)

-- a look is ready: it has the paths of both sides, and the folders that there have to be
pub record IsReady (look : Look) : Type 0 where
  pub merge : IsMerge look.merge.now
  pub paths : look.paths.keys ≡ all_paths (merge_sides look.merge.now)
  pub needed : (path : Path) → (is_in path look.above.keys || is_in path look.staying.keys) ≡ is_needed (merge_sides look.merge.now) path

-- one of both sides
abbrev pub IsSide : Sides → Tree → Type 0
IsSide s side = (path : Path) → is_some (at side path) ≡ true → is_in path (both_paths s) ≡ true

-- what is on a side and is to stay there
abbrev pub is_staying_on : Sides → Tree → Path → Bool
is_staying_on s side path = is_some (at side path) && not (is_unwanted s side path)

-- a set has the folders above what is to stay on a side
pub record HasStuck (s : Sides) (side : Tree) (keys : List Path) : Type 0 where
  pub has : (path : Path) → is_in path keys ≡ list_any (λ other. is_below path other) (filter (is_staying_on s side) (all_paths s))

abbrev pub goes_by : Option Content → Bool → Bool → Bool
goes_by None unwanted stuck = false
goes_by (Some Folder) unwanted stuck = unwanted && not stuck
goes_by (Some (File digest)) unwanted stuck = unwanted

abbrev pub unwanted_by : Bool → Bool → Option Content → Option Content → Bool
unwanted_by kept left there target = kept && not left && (is_none target || is_other_kind there target)
