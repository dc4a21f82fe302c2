-- Where in a head bytes end, told byte by byte.
use Rattle.std.specs.Prelude.{◌≡◌, ℕ, Bool, true, false, ◌==◌, nat_le, List, [], ◌∷◌, if◌then◌else◌}
use Rattle.std.specs.Int.{is_in_range}
use Rattle.std.specs.Char.{is_ascii_digit}
use Rattle.httparse.specs.Grammar.{is_token_byte, is_uri_byte, is_value_byte}
use Rattle.gd_frame.specs.declared.message.Kind.{Kind}
use Rattle.gd_frame.specs.declared.message.Kind.TheVariants.{Request, Reply}
use Rattle.gd_frame.specs.declared.spot.Spot.{Spot}
use Rattle.gd_frame.specs.declared.spot.Spot.TheVariants as spot

-- ---- where the next byte stands

abbrev pub line_after : ℕ → Spot → Spot
line_after b other = if b == 10 then spot.Line else (if b == 13 then spot.Return else other)

abbrev pub first_after : Kind → ℕ → Spot
first_after Request b = if is_token_byte b then spot.Method else spot.Unknown
first_after Reply b = if b == 72 then spot.Version1 else spot.Unknown

-- behind the version
abbrev pub behind_version : Kind → Spot
behind_version Request = spot.LineEnd
behind_version Reply = spot.Status

-- by the first byte of a character (RFC 3629, section 4)
abbrev pub target_after : ℕ → Spot
target_after b =
    if nat_le b 127 then spot.Target
    else (if is_in_range 194 223 b then spot.TargetOne
    else (if b == 224 then spot.TargetE0
    else (if is_in_range 225 236 b then spot.TargetTwo
    else (if b == 237 then spot.TargetEd
    else (if is_in_range 238 239 b then spot.TargetTwo
    else (if b == 240 then spot.TargetF0
    else (if is_in_range 241 243 b then spot.TargetThree
    else (if b == 244 then spot.TargetF4
    else spot.TargetBroken))))))))

-- by a later byte of a character, which has to be one of these
abbrev pub character_after : ℕ → ℕ → Spot → ℕ → Spot
character_after low high next b = if is_uri_byte b then (if is_in_range low high b then next else spot.TargetBroken) else spot.Unknown

abbrev pub spot_after : Kind → Spot → ℕ → Spot
spot_after kind spot.Empty b = if b == 10 then spot.Empty else (if b == 13 then spot.EmptyReturn else first_after kind b)
spot_after kind spot.EmptyReturn b = if b == 10 then spot.Empty else spot.Unknown
spot_after kind spot.Method b = if is_token_byte b then spot.Method else (if b == 32 then spot.TargetStart else spot.Unknown)
spot_after kind spot.TargetStart b = if is_uri_byte b then target_after b else spot.Unknown
spot_after kind spot.Target b = if is_uri_byte b then target_after b else (if b == 32 then spot.Version0 else spot.Unknown)
spot_after kind spot.TargetOne b = character_after 128 191 spot.Target b
spot_after kind spot.TargetTwo b = character_after 128 191 spot.TargetOne b
spot_after kind spot.TargetThree b = character_after 128 191 spot.TargetTwo b
spot_after kind spot.TargetE0 b = character_after 160 191 spot.TargetOne b
spot_after kind spot.TargetEd b = character_after 128 159 spot.TargetOne b
spot_after kind spot.TargetF0 b = character_after 144 191 spot.TargetTwo b
spot_after kind spot.TargetF4 b = character_after 128 143 spot.TargetTwo b
spot_after kind spot.TargetBroken b = if is_uri_byte b then spot.TargetBroken else spot.Unknown
spot_after kind spot.Version0 b = if b == 72 then spot.Version1 else spot.Unknown
spot_after kind spot.Version1 b = if b == 84 then spot.Version2 else spot.Unknown
spot_after kind spot.Version2 b = if b == 84 then spot.Version3 else spot.Unknown
spot_after kind spot.Version3 b = if b == 80 then spot.Version4 else spot.Unknown
spot_after kind spot.Version4 b = if b == 47 then spot.Version5 else spot.Unknown
spot_after kind spot.Version5 b = if b == 49 then spot.Version6 else spot.Unknown
spot_after kind spot.Version6 b = if b == 46 then spot.Version7 else spot.Unknown
spot_after kind spot.Version7 b = if b == 48 then behind_version kind else (if b == 49 then behind_version kind else spot.Unknown)
spot_after kind spot.Status b = if b == 32 then spot.Code0 else spot.Unknown
spot_after kind spot.Code0 b = if is_ascii_digit b then spot.Code1 else spot.Unknown
spot_after kind spot.Code1 b = if is_ascii_digit b then spot.Code2 else spot.Unknown
spot_after kind spot.Code2 b = if is_ascii_digit b then spot.Code3 else spot.Unknown
spot_after kind spot.Code3 b = if b == 32 then spot.Value else line_after b spot.Unknown
spot_after kind spot.LineEnd b = line_after b spot.Unknown
spot_after kind spot.Return b = if b == 10 then spot.Line else spot.Unknown
spot_after kind spot.Line b = if is_token_byte b then spot.Name else (if b == 13 then spot.EndReturn else spot.Unknown)
spot_after kind spot.Name b = if is_token_byte b then spot.Name else (if b == 58 then spot.Value else spot.Unknown)
spot_after kind spot.Value b = if is_value_byte b then spot.Value else line_after b spot.Unknown
spot_after kind spot.EndReturn b = spot.Unknown
spot_after kind spot.Unknown b = spot.Unknown

abbrev pub is_request : Kind → Bool
is_request Request = true
is_request Reply = false

-- whether the head is open there; a reply has no target
abbrev pub is_known : Kind → Spot → Bool
is_known kind spot.Unknown = false
is_known kind spot.TargetBroken = is_request kind
is_known kind at = true

-- where the last of some bytes stands
abbrev pub spot_of : Kind → Spot → List ℕ → Spot
spot_of kind at [] = at
spot_of kind at (b ∷ bytes) = spot_of kind (spot_after kind at b) bytes

-- the bytes end at this spot of a head
abbrev pub EndsAtSpot : Kind → Spot → List ℕ → Type 0
EndsAtSpot kind at bytes = spot_of kind spot.Empty bytes ≡ at
