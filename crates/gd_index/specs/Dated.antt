-- Items in order of their change numbers.
use Rattle.std.specs.Prelude.{ℕ, List, [], ◌∷◌, filter, nat_lt}
use Rattle.std.specs.Ordering.{nat_cmp}
use Rattle.std.specs.BTreeMap.{insert_entry}
use Rattle.std.specs.Map.{values_of}
use Rattle.gd_item.specs.declared.live.LiveItem.{LiveItem}

-- items in order of change, those of the second list put among those of the first
abbrev pub in_date_order_from : List (ℕ × LiveItem) → List LiveItem → List (ℕ × LiveItem)
in_date_order_from placed [] = placed
in_date_order_from placed (item ∷ items) = in_date_order_from (insert_entry nat_cmp placed item.change item) items

-- the living items that changed past a position
abbrev pub changed_past : ℕ → List LiveItem → List LiveItem
changed_past position items = values_of (in_date_order_from [] (filter (λ item. nat_lt position item.change) items))
