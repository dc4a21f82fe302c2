-- The text of an item's number: `01GD` and its sixteen hexadecimal digits in upper case. Number 0 is no item.
use Rattle.std.specs.Prelude.{ℕ, zero, suc, ◌+◌, ◌-◌, ◌*◌, ◌/◌, ◌%◌, Bool, true, not, ◌&&◌, ◌||◌, cond, List, [], ◌∷◌, ◌++◌, length, drop, codes, nat_eq, nat_lt, Option, Some, None}
use Rattle.std.specs.List.{list_all, starts_with}
use Rattle.std.specs.Fmt.{digit_glyph}
use Rattle.gd_names.specs.Escapes.{is_between}
use Rattle.gd_item.specs.declared.id.ItemId.{ItemId}

-- the last digits of a number, as many as are asked for, in base 16
abbrev pub hex_digits : ℕ → ℕ → List ℕ
hex_digits zero n = []
hex_digits (suc k) n = hex_digits k (n / 16) ++ digit_glyph true (n % 16) ∷ []

-- the text of a number
abbrev pub id_text : ℕ → List ℕ
id_text n = codes "01GD" ++ hex_digits 16 n

-- whether a byte is a hexadecimal digit in upper case
abbrev pub is_upper_hex : ℕ → Bool
is_upper_hex b = is_between 48 57 b || is_between 65 70 b

-- the value of such a digit
abbrev pub hex_value : ℕ → ℕ
hex_value b = cond (nat_lt b 58) (b - 48) (b - 55)

-- the number that such digits spell, after those that spell `high`
abbrev pub hex_number_from : ℕ → List ℕ → ℕ
hex_number_from high [] = high
hex_number_from high (b ∷ digits) = hex_number_from (16 * high + hex_value b) digits

-- the number that a text spells, if it is that of an item
abbrev pub id_of_text : List ℕ → Option ℕ
id_of_text text =
    let number = hex_number_from 0 (drop 4 text) in
    cond (nat_eq (length text) 20 && starts_with nat_eq text (codes "01GD") && list_all is_upper_hex (drop 4 text) && not (nat_eq number 0))
    (Some number) None

-- the id of a number
abbrev pub item_id : ℕ → ItemId
item_id n = record { 0 = n }
