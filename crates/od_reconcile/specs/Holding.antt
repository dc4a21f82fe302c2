-- Which entries the drive does not take, and what a plan of held entries has ready.
use Rattle.std.specs.Prelude.{ℕ, ◌≡◌, Bool, false, not, ◌&&◌, ◌||◌, List, filter, map, is_some, nat_lt, Option, Some, None}
use Rattle.std.specs.List.{list_any, filter_map}
use Rattle.std.specs.Option.{option_map}
use Rattle.std.specs.Cmp.Lexicographic.{pointwise}
use Rattle.std.specs.Map.{lookup}
use Rattle.std.specs.Ordering.{is_eq, is_lt}
use Rattle.gd_names.specs.Caseless.{equal_caseless, lower_case}
use Rattle.gd_names.specs.Names.{name_fault}
use Rattle.gd_names.specs.Ordered.{path_cmp}
use Rattle.gd_names.specs.Paths.{is_fitting}
use Rattle.od_merge.specs.Core.{is_in}
use Rattle.od_merge.specs.Merging.{Limits, all_paths, is_going, target, why_held}
use Rattle.od_merge.specs.Sides.{Path, Sides, at, is_path}
use Rattle.od_reconcile.specs.Looks.{HasStuck, IsReady, merge_sides}
use Rattle.od_reconcile.specs.declared.holding.Limiter.{Limiter}
use Rattle.od_reconcile.specs.declared.types.Held.{Held}
use Rattle.od_reconcile.specs.declared.types.Node.{Node}
use Rattle.od_reconcile.specs.declared.types.Node.TheVariants.{Folder, File}

-- whether a file is larger than the drive takes
abbrev pub is_large : Node → Bool
is_large Folder = false
is_large (File size digest) = nat_lt 67108864 size

abbrev pub has_bad_name : Path → Bool
has_bad_name path = list_any (λ (name : List ℕ). is_some (name_fault name)) path

abbrev pub same_caseless_path : Path → Path → Bool
same_caseless_path a b = pointwise equal_caseless a b

-- what the drive does not take, given the paths for which it had no room and the local entries after the renames
abbrev pub limits_of : List Path → List (Path × Node) → Limits
limits_of quota entries = record {
  bad_name = has_bad_name;
  too_long = λ path. not (is_fitting path);
  too_large = λ path. list_any (λ (entry : Path × Node). is_path path entry.0 && is_large entry.1) entries;
  quota = λ path. is_in path quota;
  same_caseless = same_caseless_path;
}

-- whether another path bars one
abbrev pub bars : Sides → Path → Path → Bool
bars m path other = same_caseless_path other path && not (is_path other path)
    && (is_some (at m.remote other) && not (is_going m m.remote other) || is_some (target m other) && is_lt (path_cmp other path))

-- PATHS BY THEIR SPELLING BUT FOR CASE

abbrev pub lower_path : Path → Path
lower_path path = map lower_case path

abbrev pub stands_at : {X : Type 0} → List (Path × X) → Path → Option X
stands_at entries path = lookup (λ key. is_eq (path_cmp path key)) entries

-- one path of a spelling, and whether another path has it too
abbrev pub Spelt : Type 0
Spelt = Path × Bool

abbrev pub spelt_more : Option Spelt → Path → Spelt
spelt_more None path = (path, false)
spelt_more (Some spelt) path = (spelt.0, spelt.1 || not (is_path spelt.0 path))

-- whether a path other than this one has a spelling
abbrev pub has_other : Option Spelt → Path → Bool
has_other None path = false
has_other (Some spelt) path = spelt.1 || not (is_path spelt.0 path)

-- an index of paths by their spellings, which tells whether another path than one has the spelling of one
pub record IsSpelt (paths : List Path) (index : List (Path × Spelt)) : Type 0 where
  pub has : (from to : Path) → has_other (stands_at index (lower_path from)) to ≡ list_any (λ other. not (is_path other to) && same_caseless_path other from) paths

abbrev pub is_before : Option Path → Path → Bool
is_before None path = false
is_before (Some other) path = is_lt (path_cmp other path)

-- an index of the least paths of each spelling, which tells whether a smaller path has the spelling of one
pub record IsLeast (paths : List Path) (index : List (Path × Path)) : Type 0 where
  pub has : (path : Path) → is_before (stands_at index (lower_path path)) path ≡ list_any (λ other. same_caseless_path other path && is_lt (path_cmp other path)) paths

-- whether the drive keeps what it has at a path, and whether something is to stand there
abbrev pub stays_there : Sides → Path → Bool
stays_there m path = is_some (at m.remote path) && not (is_going m m.remote path)

abbrev pub has_target : Sides → Path → Bool
has_target m path = is_some (target m path)

abbrev pub limiter_sides : Limiter → Sides
limiter_sides limiter = merge_sides limiter.look.now.merge.now

abbrev pub limiter_limits : Limiter → Limits
limiter_limits limiter = limits_of limiter.quota.now limiter.entries.now

pub record IsLimiter (limiter : Limiter) : Type 0 where
  pub ready : IsReady limiter.look.now
  pub stuck : HasStuck (limiter_sides limiter) (limiter_sides limiter).remote limiter.stuck.keys
  pub full : (path : Path) → is_in path limiter.full.keys ≡ is_in path limiter.quota.now
  pub large : (path : Path) → is_in path limiter.large.keys ≡ list_any (λ (entry : Path × Node). is_path path entry.0 && is_large entry.1) limiter.entries.now
  pub staying : IsSpelt (filter (stays_there (limiter_sides limiter)) (all_paths (limiter_sides limiter))) limiter.staying.entries
  pub least : IsLeast (filter (has_target (limiter_sides limiter)) (all_paths (limiter_sides limiter))) limiter.least.entries

abbrev pub held_of : Limits → Sides → Path → Option Held
held_of limits m path = option_map (λ why. record { path = path; why = why }) (why_held limits m path)

-- the held entries, in order of path
abbrev pub held_list : Limits → Sides → List Held
held_list limits m = filter_map (held_of limits m) (all_paths m)
