-- Where links begin: `http://`, a host of letters, digits, dots and dashes, a colon and a port in decimal.
use Rattle.std.specs.Prelude.{ℕ, Bool, true, false, ◌&&◌, ◌||◌, cond, List, [], ◌∷◌, drop, codes, nat_eq, nat_le, slice_index}
use Rattle.std.specs.List.{starts_with}
use Rattle.std.specs.Str.{all_ascii_digits}
use Rattle.std.specs.Str.Parse.{digits_value}
use Rattle.gd_names.specs.Escapes.{is_between}

abbrev pub is_letter_or_digit : ℕ → Bool
is_letter_or_digit b = is_between 48 57 b || is_between 65 90 b || is_between 97 122 b

abbrev pub is_host_byte : ℕ → Bool
is_host_byte b = is_letter_or_digit b || nat_eq b 45 || nat_eq b 46

-- whether the text is a number from 1 to 65535 without leading zeros
unfoldable pub is_port : List ℕ → Bool
is_port text = is_between 49 57 (slice_index text 0) && all_ascii_digits text && nat_le (digits_value 10 text) 65535

-- whether the text is more of a host, of which some bytes were read or none, and then a colon and a port
unfoldable pub is_authority : Bool → List ℕ → Bool
is_authority some [] = false
is_authority some (b ∷ text) = cond (nat_eq b 58) (some && is_port text) (is_host_byte b && is_authority true text)

unfoldable pub is_base : List ℕ → Bool
is_base text = starts_with nat_eq text (codes "http://") && is_authority false (drop 7 text)
