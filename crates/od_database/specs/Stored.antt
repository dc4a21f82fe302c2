-- What the tables of a database say together: at most one image.
use Rattle.std.specs.Prelude.{◌≡◌, ℕ, Bool, true, false, ◌&&◌, List, [], ◌∷◌, codes, nat_eq, Option, Some, None}
use Rattle.std.specs.Cmp.Lexicographic.{pointwise}
use Rattle.std.specs.List.Sorted.{IsPermutation}
use Rattle.std.specs.Option.{option_map}
use Rattle.std.specs.declared.cmp.Ordering.{Ordering}
use Rattle.std.specs.declared.cmp.Ordering.TheVariants.{Less, Equal, Greater}
use Rattle.gd_item.specs.declared.digest.Digest.{Digest}
use Rattle.od_keeper.specs.Images.{by_id, by_path}
use Rattle.od_keeper.specs.declared.image.BaseRow.{BaseRow}
use Rattle.od_keeper.specs.declared.image.Image.{Image}
use Rattle.od_database.specs.Agreements.{base_of}
use Rattle.od_database.specs.Entries.{item_of}
use Rattle.od_database.specs.Numbers.{digest_of_text}
use Rattle.od_database.specs.Writes.{collected}
use Rattle.od_database.specs.declared.tables.Tables.{Tables}

-- whether the version is the one that this crate writes
abbrev pub is_current : Option (List ℕ) → Bool
is_current None = false
is_current (Some text) = pointwise nat_eq text (codes "2")

abbrev pub is_less : Ordering → Bool
is_less Less = true
is_less Equal = false
is_less Greater = false

-- whether each is less than the next
abbrev pub ascends_from : {X : Type 0} → (X → X → Ordering) → X → List X → Bool
ascends_from compare x [] = true
ascends_from compare x (y ∷ xs) = is_less (compare x y) && ascends_from compare y xs

abbrev pub ascends : {X : Type 0} → (X → X → Ordering) → List X → Bool
ascends compare [] = true
ascends compare (x ∷ xs) = ascends_from compare x xs

-- the digest of the rules, where it is there
abbrev pub rules_of : Option (List ℕ) → Option (Option Digest)
rules_of None = Some None
rules_of (Some text) = option_map Some (digest_of_text text)

-- the image that tables of this version hold
pub record IsImageOf (tables : Tables) (image : Image) : Type 0 where
  pub version : is_current tables.version ≡ true
  pub token : image.token ≡ tables.token
  pub rules : rules_of tables.rules ≡ Some image.rules
  pub items : collected item_of tables.entries ≡ Some image.items
  pub items_ascend : ascends by_id image.items ≡ true
  pub read : List BaseRow
  pub rows_read : collected base_of tables.rows ≡ Some read
  pub rows : IsPermutation read image.rows
  pub rows_ascend : ascends by_path image.rows ≡ true
