-- The sources of moves in queues: by the digest of their bytes, and those apart that may go to one path alone.
use Rattle.std.specs.Prelude.{ℕ, ◌≡◌, Bool, false, true, not, ◌&&◌, ◌||◌, cond, List, [], ◌∷◌, drop, filter, Option, Some, None}
use Rattle.std.specs.Cmp.Lexicographic.{slice_cmp}
use Rattle.std.specs.List.Sorted.{IsStrictlySortedBy}
use Rattle.std.specs.Map.{lookup}
use Rattle.std.specs.Option.{option_cmp}
use Rattle.std.specs.Ordering.{is_eq, is_lt, nat_cmp, ordering_then}
use Rattle.std.specs.declared.cmp.Ordering.{Ordering}
use Rattle.gd_item.specs.declared.digest.Digest.{Digest}
use Rattle.gd_names.specs.Ordered.{path_cmp}
use Rattle.od_merge.specs.Merging.{all_paths, is_going}
use Rattle.od_merge.specs.Pairs.{and_pair, folder_of, source_for}
use Rattle.od_merge.specs.Sides.{Path, Sides, at, digest_of}
use Rattle.od_reconcile.specs.Holding.{Spelt, lower_path, stands_at}
use Rattle.od_reconcile.specs.Moving.{is_moved_from, is_source_here, is_source_there}

-- where a source waits: the digest of its bytes, and the only path to which it may go, if there is just one
abbrev pub Slot : Type 0
Slot = List ℕ × Option Path

abbrev pub slot_cmp : Slot → Slot → Ordering
slot_cmp a b = ordering_then (slice_cmp nat_cmp a.0 b.0) (option_cmp path_cmp a.1 b.1)

abbrev pub is_slot : Slot → Option Slot → Bool
is_slot slot None = false
is_slot slot (Some other) = is_eq (slot_cmp slot other)

-- a file's slot, by its digest and by what comes under its spelling: nothing, one path, or more
abbrev pub slot_by : Option Digest → Option Spelt → Option Slot
slot_by None spelt = None
slot_by (Some digest) None = Some (digest.0, None)
slot_by (Some digest) (Some spelt) = cond spelt.1 None (Some (digest.0, Some spelt.0))

abbrev pub slot_here : Sides → Path → Option Slot
slot_here m path = slot_by (digest_of (at m.local path)) None

abbrev pub slot_there : Sides → List (Path × Spelt) → Path → Option Slot
slot_there m coming path = cond (is_going m m.remote (folder_of path)) None (slot_by (digest_of (m.base path)) (stands_at coming (lower_path path)))

-- whether what waits at a slot may go to a path for bytes of a digest
abbrev pub serves : Option Digest → Path → Option Slot → Bool
serves None to slot = false
serves (Some digest) to slot = is_slot (digest.0, None) slot || is_slot (digest.0, Some to) slot

-- the paths that wait at a slot
abbrev pub queued : Option (List Path) → List Path
queued None = []
queued (Some paths) = paths

abbrev pub queue_at : List (Slot × List Path) → Slot → List Path
queue_at queues slot = queued (lookup (λ key. is_eq (slot_cmp slot key)) queues)

abbrev pub front_of : List Path → Option Path
front_of [] = None
front_of (path ∷ paths) = Some path

-- whether the first of two is there and comes before the second
abbrev pub comes_first : Option Path → Option Path → Bool
comes_first None other = false
comes_first (Some path) None = true
comes_first (Some path) (Some other) = is_lt (path_cmp path other)

-- the sources on both sides
abbrev pub all_sources_here : Sides → List Path
all_sources_here m = filter (is_source_here m) (all_paths m)

abbrev pub all_sources_there : Sides → List Path
all_sources_there m = filter (is_source_there m) (all_paths m)

-- each source that no pair has waits at its slot, in order
pub record IsQueued (slots : Path → Option Slot) (sources : List Path) (pairs : List (Path × Path)) (queues : List (Slot × List Path)) : Type 0 where
  pub has : (slot : Slot) → queue_at queues slot ≡ filter (λ path. is_slot slot (slots path) && not (is_moved_from pairs path)) sources

-- the first source that serves is taken
pub record IsTaken (slots : Path → Option Slot) (sources : List Path) (pairs : List (Path × Path)) (digest : Option Digest) (to : Path) (taken : Option Path) (queues : List (Slot × List Path)) : Type 0 where
  pub first : taken ≡ source_for (λ path other. serves digest other (slots path)) sources pairs to
  pub left : IsQueued slots sources (and_pair taken to pairs) queues

-- what waits in front at a slot is taken
pub record PopsAt (slot : Slot) (old new : List (Slot × List Path)) (taken : Option Path) : Type 0 where
  pub first : taken ≡ front_of (queue_at old slot)
  pub rest : (other : Slot) → queue_at new other ≡ cond (is_eq (slot_cmp slot other)) (drop 1 (queue_at old other)) (queue_at old other)

-- of two slots the one at whose front the first path waits
abbrev pub first_slot : Slot → Slot → List (Slot × List Path) → Slot
first_slot own any queues = cond (comes_first (front_of (queue_at queues own)) (front_of (queue_at queues any))) own any

-- the first source that serves is taken, whatever sources these are, if they are in order
pub record TakesSource (digest : Option Digest) (to : Path) (old new : List (Slot × List Path)) (taken : Option Path) : Type 0 where
  pub takes : (slots : Path → Option Slot) (sources : List Path) (pairs : List (Path × Path)) → IsStrictlySortedBy path_cmp sources → IsQueued slots sources pairs old → IsTaken slots sources pairs digest to taken new

-- and a pair is made of it
pub record AddsPair (digest : Option Digest) (to : Path) (before after : List (Path × Path)) (old new : List (Slot × List Path)) : Type 0 where
  pub adds : (slots : Path → Option Slot) (sources : List Path) → IsStrictlySortedBy path_cmp sources → IsQueued slots sources before old
      → (after ≡ and_pair (source_for (λ path other. serves digest other (slots path)) sources before to) to before) × IsQueued slots sources after new
