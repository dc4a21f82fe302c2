-- How many children each folder has, in a map from the folder's number.
use Rattle.std.specs.Prelude.{◌≡◌, ℕ, ◌+◌, ◌-◌, cond, List, nat_eq, Option, Some, None}
use Rattle.std.specs.Ordering.{nat_cmp}
use Rattle.gd_item.specs.Records.{child_count}
use Rattle.gd_item.specs.declared.live.LiveItem.{LiveItem}
use Rattle.gd_index.specs.declared.row.Row.{Row}
use Rattle.gd_index.specs.Indexed.{IsIndexed, at, items_in}

-- the count of a folder, which is 0 where none is kept
abbrev pub count_or_none : Option ℕ → ℕ
count_or_none None = 0
count_or_none (Some count) = count

abbrev pub count_at : List (ℕ × ℕ) → ℕ → ℕ
count_at counts folder = count_or_none (at nat_cmp counts folder)

-- the counts are those of the items whose parent is the folder
pub record IsCounted (counts : List (ℕ × ℕ)) (items : List LiveItem) : Type 0 where
  pub each : (folder : ℕ) → count_at counts folder ≡ child_count folder items

-- counts in which a folder has one more than it had, and the others have theirs; and one in which it has one less
pub record CountsMore (folder : ℕ) (old new : List (ℕ × ℕ)) : Type 0 where
  pub each : (other : ℕ) → count_at new other ≡ count_at old other + cond (nat_eq folder other) 1 0

pub record CountsLess (folder : ℕ) (old new : List (ℕ × ℕ)) : Type 0 where
  pub each : (other : ℕ) → count_at new other ≡ count_at old other - cond (nat_eq folder other) 1 0

-- the four maps belong together
pub record IsWhole (rows : List (ℕ × Row)) (names : List ((ℕ × List ℕ) × ℕ)) (changes : List (ℕ × ℕ)) (counts : List (ℕ × ℕ)) : Type 0 where
  pub maps : IsIndexed rows names changes
  pub counted : IsCounted counts (items_in rows)
