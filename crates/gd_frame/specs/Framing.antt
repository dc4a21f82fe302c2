-- How long the body is that a head announces (RFC 9112, section 6), by the names and values of its fields.
use Rattle.std.specs.Prelude.{ℕ, zero, suc, ◌+◌, ◌-◌, ◌*◌, ◌^◌, Bool, ◌&&◌, List, [], ◌∷◌, map, nat_eq, nat_le, nat_lt, ◌≤◌, ⊤, count_by, codes, Option, Some, None, Result, Ok, Err, if◌then◌else◌}
use Rattle.std.specs.List.{list_any}
use Rattle.std.specs.Option.{option_and_then}
use Rattle.std.specs.Char.{to_ascii_lowercase}
use Rattle.std.specs.Cmp.Lexicographic.{pointwise}
use Rattle.gd_frame.specs.declared.message.MessageCause.{MessageCause}
use Rattle.gd_frame.specs.declared.message.MessageCause.TheVariants.{Head, Coding, Framing, Body, Meaning}

abbrev pub equal_caseless : List ℕ → List ℕ → Bool
equal_caseless a b = pointwise nat_eq (map to_ascii_lowercase a) (map to_ascii_lowercase b)

abbrev pub is_digit : ℕ → Bool
is_digit b = nat_le 48 b && nat_le b 57

-- the number that decimal digits spell, after those that spell high
abbrev pub number_after : ℕ → List ℕ → Option ℕ
number_after high [] = Some high
number_after high (b ∷ digits) = if is_digit b then number_after (10 * high + (b - 48)) digits else None

-- the number that one decimal digit or more spell
abbrev pub decimal_of : List ℕ → Option ℕ
decimal_of [] = None
decimal_of (b ∷ digits) = number_after 0 (b ∷ digits)

abbrev pub if_64_bits : ℕ → Option ℕ
if_64_bits n = if nat_lt n (2 ^ 64) then Some n else None

-- the same, below 2^64
abbrev pub number_of : List ℕ → Option ℕ
number_of text = option_and_then if_64_bits (decimal_of text)

-- a field's name and value
abbrev pub is_length : List ℕ × List ℕ → Bool
is_length field = equal_caseless field.0 (codes "content-length")

abbrev pub is_coding : List ℕ × List ℕ → Bool
is_coding field = equal_caseless field.0 (codes "transfer-encoding")

abbrev pub has_coding : List (List ℕ × List ℕ) → Bool
has_coding fields = list_any is_coding fields

-- the number in the first Content-Length
abbrev pub the_length : List (List ℕ × List ℕ) → Option ℕ
the_length [] = None
the_length (field ∷ fields) = if is_length field then number_of field.1 else the_length fields

abbrev pub if_allowed : Option ℕ → Result ℕ MessageCause
if_allowed None = Err Framing
if_allowed (Some n) = if nat_le n 67108864 then Ok n else Err Body

-- by how often Content-Length comes, what its absence means, and the number in it
abbrev pub by_count : ℕ → Result ℕ MessageCause → Option ℕ → Result ℕ MessageCause
by_count zero absent n = absent
by_count (suc zero) absent n = if_allowed n
by_count (suc (suc k)) absent n = Err Framing

-- the first cause in the order Coding, Framing, Body, or the length of the body
abbrev pub framing : Result ℕ MessageCause → List (List ℕ × List ℕ) → Result ℕ MessageCause
framing absent fields = if has_coding fields then Err Coding else by_count (count_by is_length fields) absent (the_length fields)

-- without Content-Length a reply has no body where it is a 204, and is refused else
abbrev pub reply_without_length : ℕ → Result ℕ MessageCause
reply_without_length status = if nat_eq status 204 then Ok 0 else Err Framing

-- a length within the limit, or a cause of framing
abbrev pub IsAnnounced : Result ℕ MessageCause → Type 0
IsAnnounced (Ok n) = n ≤ 67108864
IsAnnounced (Err Head) = ⊥
IsAnnounced (Err Coding) = ⊤
IsAnnounced (Err Framing) = ⊤
IsAnnounced (Err Body) = ⊤
IsAnnounced (Err Meaning) = ⊥
