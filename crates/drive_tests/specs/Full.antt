-- Drives at their limits.
use Rattle.std.specs.Prelude.{ℕ, ◌-◌, ◌^◌, List, [], ◌∷◌, ◌++◌, replicate, codes, None, Some}
use Rattle.gd_item.specs.Inventory.{Inventory, new_drive}
use Rattle.gd_item.specs.declared.live.LiveItem.{LiveItem}

-- a file in a folder of this number
abbrev pub file_in : ℕ → LiveItem
file_in parent = record { number = 3; parent = parent; name = codes "f"; bytes = Some []; change = 2; content = 2 }

-- a drive of the last change number, with a folder and a file in it
abbrev pub last_number : Inventory
last_number = record new_drive {
  number = 2 ^ 64 - 1;
  next = 4;
  items = record { number = 2; parent = 1; name = codes "d"; bytes = None; change = 2; content = 0 } ∷ file_in 2 ∷ [];
}

-- a drive with 99,999 items and the root
abbrev pub many_items : Inventory
many_items = record new_drive { items = replicate 99999 (file_in 2) }

-- a drive that keeps as many bytes as it may
abbrev pub many_bytes : Inventory
many_bytes = record last_number { number = 3; kept = 536870912 }
