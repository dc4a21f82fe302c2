-- The name of a client: 1 to 63 letters, digits and dashes.
use Rattle.std.specs.Prelude.{ℕ, Bool, ◌&&◌, ◌||◌, not, List, length, nat_eq, nat_le}
use Rattle.std.specs.List.{list_all}
use Rattle.gd_json.specs.Bases.{is_letter_or_digit}

abbrev pub is_host_byte : ℕ → Bool
is_host_byte b = is_letter_or_digit b || nat_eq b 45

abbrev pub is_host : List ℕ → Bool
is_host text = not (nat_eq (length text) 0) && nat_le (length text) 63 && list_all is_host_byte text
