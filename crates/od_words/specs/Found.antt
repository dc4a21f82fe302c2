-- What `clap` finds at words, and what is read of it.
use Rattle.std.specs.Prelude.{ℕ, Bool, false, ◌&&◌, ◌^◌, if◌then◌else◌, List, [], ◌∷◌, length, codes, nat_lt, option_and_then, Option, Some, None}
use Rattle.std.specs.Char.{digit_value}
use Rattle.std.specs.List.{list_all}
use Rattle.std.specs.Option.{option_map_or}
use Rattle.std.specs.Str.{bytes_eq}
use Rattle.std.specs.Str.Parse.{digits_value, without_leading_plus}
use Rattle.clap.specs.Words.{App, Kinds, Row, Text, fault_of, first_of, matches_of, one_of}

abbrev pub unless_refused : Kinds → List Row → Option (List Row)
unless_refused [] rows = Some rows
unless_refused (kind ∷ kinds) rows = None

-- what is found for each option, unless the words are refused; the first word names the command
abbrev pub found_in : App → List Text → Option (List Row)
found_in app words = unless_refused (fault_of app words) (matches_of app words)

abbrev pub is_small : Text → Bool
is_small digits = nat_lt 0 (length digits) && list_all (λ d. nat_lt (digit_value d) 10) digits && nat_lt (digits_value 10 digits) (2 ^ 32)

-- the number below 2^32 that the text writes in decimal, where a `+` may stand first
abbrev pub number_of : Text → Option ℕ
number_of text = if is_small (without_leading_plus text) then Some (digits_value 10 (without_leading_plus text)) else None

-- the number that was found for an option
abbrev pub number_in : Text → List Row → Option ℕ
number_in id rows = option_and_then number_of (one_of id rows)

-- whether a flag was found
abbrev pub flag_in : Text → List Row → Bool
flag_in id rows = option_map_or (λ text. bytes_eq text (codes "true")) (first_of id rows) false
