-- Numbers and ids in texts.
use Rattle.std.specs.Prelude.{ℕ, ◌-◌, ◌^◌, not, ◌&&◌, cond, List, length, take, codes, nat_eq, nat_lt, Option, Some, None, option_map}
use Rattle.std.specs.List.{ends_with}
use Rattle.std.specs.Str.{all_ascii_digits}
use Rattle.std.specs.Str.Parse.{digits_value}
use Rattle.gd_item.specs.Ids.{id_text, id_of_text, item_id}
use Rattle.gd_item.specs.declared.id.ItemId.{ItemId}

-- the number below 2 ^ 64 that digits spell; zeros may come first
unfoldable pub number_of_text : List ℕ → Option ℕ
number_of_text text =
    cond (not (nat_eq (length text) 0) && all_ascii_digits text && nat_lt (digits_value 10 text) (2 ^ 64)) (Some (digits_value 10 text)) None

-- the number of the byte that is expected next, which a `-` follows
unfoldable pub expected_of_text : List ℕ → Option ℕ
expected_of_text text = cond (ends_with nat_eq text (codes "-")) (number_of_text (take (length text - 1) text)) None

unfoldable pub item_id_of : List ℕ → Option ItemId
item_id_of text = option_map item_id (id_of_text text)

unfoldable pub id_written : ItemId → List ℕ
id_written id = id_text id.0
