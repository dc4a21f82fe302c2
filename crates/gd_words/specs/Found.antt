-- The numbers that are read of what `clap` finds.
use Rattle.std.specs.Prelude.{ℕ, Bool, ◌&&◌, ◌^◌, if◌then◌else◌, List, length, nat_lt, option_and_then, Option, Some, None}
use Rattle.std.specs.Char.{digit_value}
use Rattle.std.specs.List.{list_all}
use Rattle.std.specs.Str.Parse.{digits_value, without_leading_plus}
use Rattle.clap.specs.Words.{Row, Text, one_of}

-- decimal digits of a number below 2^width
abbrev pub is_number : ℕ → Text → Bool
is_number width digits = nat_lt 0 (length digits) && list_all (λ d. nat_lt (digit_value d) 10) digits && nat_lt (digits_value 10 digits) (2 ^ width)

-- the number below 2^width that the text writes in decimal, where a `+` may stand first
abbrev pub number_of : ℕ → Text → Option ℕ
number_of width text = if is_number width (without_leading_plus text) then Some (digits_value 10 (without_leading_plus text)) else None

-- the number that was found for an option
abbrev pub number_in : ℕ → Text → List Row → Option ℕ
number_in width id rows = option_and_then (number_of width) (one_of id rows)
