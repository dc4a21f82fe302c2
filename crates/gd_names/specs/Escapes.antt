-- The escapes of a path segment in a URL (RFC 3986): the unreserved characters stand for themselves, and every
-- other byte is written as `%` and two hexadecimal digits, in upper case.
use Rattle.std.specs.Prelude.{◌≡◌, ℕ, ◌+◌, ◌*◌, ◌/◌, ◌%◌, ◌<◌, Bool, true, not, ◌&&◌, ◌||◌, if◌then◌else◌, List, [], ◌∷◌, length, nat_eq, nat_le, Option, Some, None, All}
use Rattle.std.specs.Char.{digit_value, is_digit}
use Rattle.std.specs.Fmt.{digit_glyph}
use Rattle.std.specs.List.{list_any, flat_map}
use Rattle.std.specs.Option.{option_map}
use Rattle.std.specs.Str.{is_utf8}

-- whether a byte lies between two others
abbrev pub is_between : ℕ → ℕ → ℕ → Bool
is_between low high b = nat_le low b && nat_le b high

-- whether a byte is written as itself: a letter, a digit, or one of `-._~`
abbrev pub is_unreserved : ℕ → Bool
is_unreserved b =
    is_between 65 90 b || is_between 97 122 b || is_between 48 57 b || nat_eq b 45 || nat_eq b 46 || nat_eq b 95
    || nat_eq b 126

-- a byte as it is written
abbrev pub escaped_byte : ℕ → List ℕ
escaped_byte b =
    if is_unreserved b then b ∷ [] else 37 ∷ digit_glyph true (b / 16 % 16) ∷ digit_glyph true (b % 16) ∷ []

-- a name as it is written
abbrev pub escaped : List ℕ → List ℕ
escaped name = flat_map escaped_byte name

-- a byte before more of a name
abbrev pub before_rest : ℕ → Option (List ℕ) → Option (List ℕ)
before_rest b rest = option_map (λ name. b ∷ name) rest

-- the bytes that a text of escapes stands for, if each `%` has two hexadecimal digits after it
abbrev pub decoded : List ℕ → Option (List ℕ)
decoded [] = Some []
decoded (b ∷ []) = if nat_eq b 37 then None else Some (b ∷ [])
decoded (b ∷ c ∷ []) = if nat_eq b 37 then None else before_rest b (decoded (c ∷ []))
decoded (b ∷ high ∷ low ∷ rest) =
    if nat_eq b 37
    then (if is_digit high 16 && is_digit low 16 then before_rest (16 * digit_value high + digit_value low) (decoded rest) else None)
    else before_rest b (decoded (high ∷ low ∷ rest))

-- whether the bytes may be a name in a path: UTF-8 with no `/` and no byte 0
abbrev pub is_segment_name : List ℕ → Bool
is_segment_name name = is_utf8 name && not (list_any (λ b. nat_eq b 47 || nat_eq b 0) name)

-- the name, if it may be one
abbrev pub kept_name : Option (List ℕ) → Option (List ℕ)
kept_name None = None
kept_name (Some name) = if is_segment_name name then Some name else None

-- the name that a segment stands for, if it stands for one
abbrev pub unescaped : List ℕ → Option (List ℕ)
unescaped [] = None
unescaped (b ∷ segment) = kept_name (decoded (b ∷ segment))

-- a name that a segment can stand for: bytes, at least one, that may be a name in a path
pub record IsSegmentName (name : List ℕ) : Type 0 where
  pub bytes : All (λ b. b < 256) name
  pub some : 0 < length name
  pub kept : is_segment_name name ≡ true
