-- Which steps of a plan become moves: the candidates on both sides, and how a pair is read.
use Rattle.std.specs.Prelude.{◌≡◌, Bool, not, ◌&&◌, List, filter, find, Option}
use Rattle.std.specs.List.{list_any}
use Rattle.std.specs.Option.{option_map}
use Rattle.od_merge.specs.Core.{is_in}
use Rattle.od_merge.specs.Merging.{Limits, all_paths, is_going, target}
use Rattle.od_merge.specs.Pairs.{comes_there, is_sent_now}
use Rattle.od_merge.specs.Sides.{Path, Sides, at, is_file, is_path, same}
use Rattle.od_merge.specs.Steps.{is_fetched}
use Rattle.od_reconcile.specs.Holding.{stands_at}
use Rattle.od_reconcile.specs.declared.ends.Ends.{Ends}

-- in the folder: files that go, and paths to which a file is fetched where none stands
abbrev pub fits_here : Sides → Path → Path → Bool
fits_here s from to = same (at s.local from) (target s to)

abbrev pub is_source_here : Sides → Path → Bool
is_source_here s path = is_going s s.local path && is_file (at s.local path)

abbrev pub is_target_here : Sides → Path → Bool
is_target_here s path = is_fetched s path && not (is_file (at s.local path))

-- on the drive: files that go, and paths to which a file of a known digest is sent where none stands
abbrev pub is_source_there : Sides → Path → Bool
is_source_there s path = is_going s s.remote path && is_file (at s.remote path)

abbrev pub is_target_there : Limits → Sides → Path → Bool
is_target_there limits s path = is_sent_now limits s path && not (is_file (at s.remote path)) && same (target s path) (target s path)

-- the paths to which something comes on the drive
abbrev pub coming_paths : Limits → Sides → List Path
coming_paths limits s = filter (comes_there limits s) (all_paths s)

-- whether a pair takes from a path, or comes to it, and the pair that comes to it
abbrev pub is_moved_from : List (Path × Path) → Path → Bool
is_moved_from pairs path = list_any (λ (pair : Path × Path). is_path path pair.0) pairs

abbrev pub is_moved_to : List (Path × Path) → Path → Bool
is_moved_to pairs path = list_any (λ (pair : Path × Path). is_path path pair.1) pairs

abbrev pub pair_to : List (Path × Path) → Path → Option (Path × Path)
pair_to pairs path = find (λ (pair : Path × Path). is_path path pair.1) pairs

-- where the pair comes from that comes to a path
abbrev pub source_of : List (Path × Path) → Path → Option Path
source_of pairs path = option_map (λ (pair : Path × Path). pair.0) (pair_to pairs path)

-- both ends of pairs, for quick look-ups
pub record IsEnds (ends : Ends) : Type 0 where
  pub froms : (path : Path) → is_in path ends.froms.keys ≡ is_moved_from ends.pairs.now path
  pub tos : (path : Path) → stands_at ends.tos.entries path ≡ source_of ends.pairs.now path
