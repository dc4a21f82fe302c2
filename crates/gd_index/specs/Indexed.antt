-- Items in three maps: by number, each beside the digest of its bytes; the numbers by folder and name in lower case;
-- the numbers by change number.
use Rattle.std.specs.Prelude.{◌≡◌, ℕ, Bool, false, ◌&&◌, cond, List, [], ◌∷◌, map, find, nat_eq, Option, Some, None}
use Rattle.std.specs.List.{AllByRecursion}
use Rattle.std.specs.List.Sorted.{IsStrictlySortedBy}
use Rattle.std.specs.declared.ops.Bound.{Bound}
use Rattle.std.specs.declared.ops.Bound.TheVariants.{Included, Excluded}
use Rattle.std.specs.Map.{lookup, keys_of}
use Rattle.std.specs.Option.{option_map}
use Rattle.std.specs.Ordering.{nat_cmp, ordering_then, is_eq}
use Rattle.std.specs.declared.cmp.Ordering.{Ordering}
use Rattle.std.specs.BTreeMap.{is_at}
use Rattle.std.specs.Cmp.Lexicographic.{slice_cmp, pointwise}
use Rattle.gd_names.specs.Caseless.{lower_case}
use Rattle.gd_item.specs.Inventory.{with_place, with_bytes}
use Rattle.gd_item.specs.Records.{digest_record}
use Rattle.gd_item.specs.declared.digest.Digest.{Digest}
use Rattle.gd_item.specs.declared.live.LiveItem.{LiveItem}
use Rattle.gd_index.specs.declared.row.Row.{Row}

-- what stands at a key
abbrev pub at : {K X : Type 0} → (K → K → Ordering) → List (K × X) → K → Option X
at cmp entries key = lookup (is_at (cmp key)) entries

-- a folder and a name in lower case, and the order of two such
abbrev pub spot_of : LiveItem → ℕ × List ℕ
spot_of item = (item.parent, lower_case item.name)

abbrev pub spot_cmp : ℕ × List ℕ → ℕ × List ℕ → Ordering
spot_cmp a b = ordering_then (nat_cmp a.0 b.0) (slice_cmp nat_cmp a.1 b.1)

-- the digest of a file's bytes; a folder has none
abbrev pub digest_in : Option (List ℕ) → Option Digest
digest_in None = None
digest_in (Some bytes) = Some (digest_record bytes)

abbrev pub digest_of_live : Option LiveItem → Option Digest
digest_of_live None = None
digest_of_live (Some item) = digest_in item.bytes

-- the items of rows
abbrev pub items_in : List (ℕ × Row) → List LiveItem
items_in rows = map (λ (e : ℕ × Row). e.1.item) rows

-- a row stands at its item's number, beside the item's spot and the digest of its bytes
pub record IsRow (entry : ℕ × Row) : Type 0 where
  pub number : entry.1.item.number ≡ entry.0
  pub spot : entry.1.spot ≡ spot_of entry.1.item
  pub digest : entry.1.digest ≡ digest_in entry.1.item.bytes

-- an index has the number of each item at the item's key, and nothing else
pub record Indexes {K : Type 0} (key : LiveItem → K) (rows : ℕ → Option Row) (index : K → Option ℕ) : Type 0 where
  pub listed : (number : ℕ) (row : Row) → rows number ≡ Some row → index (key row.item) ≡ Some number
  pub sound : (k : K) (number : ℕ) → index k ≡ Some number → option_map (λ (row : Row). key row.item) (rows number) ≡ Some k

-- the three maps belong together
pub record IsIndexed (rows : List (ℕ × Row)) (names : List ((ℕ × List ℕ) × ℕ)) (changes : List (ℕ × ℕ)) : Type 0 where
  pub lined : AllByRecursion IsRow rows
  pub rises : IsStrictlySortedBy nat_cmp (keys_of rows)
  pub by_name : Indexes spot_of (at nat_cmp rows) (at spot_cmp names)
  pub by_change : Indexes (λ (item : LiveItem). item.change) (at nat_cmp rows) (at nat_cmp changes)

-- the number at a spot
abbrev pub is_at_spot : ℕ × List ℕ → LiveItem → Bool
is_at_spot spot item = nat_eq item.parent spot.0 && pointwise nat_eq (lower_case item.name) spot.1

abbrev pub number_at_spot : ℕ × List ℕ → List LiveItem → Option ℕ
number_at_spot spot items = option_map (λ (item : LiveItem). item.number) (find (is_at_spot spot) items)

-- what a row becomes with its item at another place, and with other bytes
abbrev pub placed_row : ℕ → ℕ → List ℕ → Row → Row
placed_row change parent name row = record row { item = with_place change parent name row.item; spot = (parent, lower_case name) }

abbrev pub filled_row : ℕ → List ℕ → Row → Row
filled_row change bytes row = record row { item = with_bytes change bytes row.item; digest = Some (digest_record bytes) }

-- the rows, of which the one with this number is changed
abbrev pub rewritten : ℕ → (Row → Row) → List (ℕ × Row) → List (ℕ × Row)
rewritten number change [] = []
rewritten number change (e ∷ rows) = cond (is_at (nat_cmp number) e.0) ((e.0, change e.1) ∷ rows) (e ∷ rewritten number change rows)

-- a map in which this stands at the key, and elsewhere what stood there
pub record Puts {K X : Type 0} (cmp : K → K → Ordering) (key : K) (value : Option X) (old new : List (K × X)) : Type 0 where
  pub here : at cmp new key ≡ value
  pub each : (k : K) → at cmp new k ≡ cond (is_at (cmp key) k) value (at cmp old k)

-- a map that gives the same at each key
pub record Same {K X : Type 0} (cmp : K → K → Ordering) (old new : List (K × X)) : Type 0 where
  pub each : (k : K) → at cmp new k ≡ at cmp old k

-- a map in which a number goes from one key to another
pub record Moves {K : Type 0} (cmp : K → K → Ordering) (number : ℕ) (from to : K) (old new : List (K × ℕ)) : Type 0 where
  pub here : at cmp new to ≡ Some number
  pub kept : (k : K) → is_eq (cmp to k) ≡ false → is_eq (cmp from k) ≡ false → at cmp new k ≡ at cmp old k
  pub left : is_eq (cmp to from) ≡ false → at cmp new from ≡ None

-- the items that stand at these numbers
abbrev pub item_and : Option Row → List LiveItem → List LiveItem
item_and None items = items
item_and (Some row) items = row.item ∷ items

abbrev pub items_at : List (ℕ × Row) → List ℕ → List LiveItem
items_at rows [] = []
items_at rows (number ∷ numbers) = item_and (at nat_cmp rows number) (items_at rows numbers)

-- where the names of a folder begin that come after another one, and how far entries are those of one folder
abbrev pub children_start : ℕ → Option (List ℕ) → Bound (ℕ × List ℕ)
children_start parent None = Included (parent, [])
children_start parent (Some name) = Excluded (parent, lower_case name)

abbrev pub while_in : ℕ → List ((ℕ × List ℕ) × ℕ) → List ((ℕ × List ℕ) × ℕ)
while_in parent [] = []
while_in parent (e ∷ entries) = cond (nat_eq e.0.0 parent) (e ∷ while_in parent entries) []
