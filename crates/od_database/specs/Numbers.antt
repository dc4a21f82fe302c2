-- Numbers and digests in a database. An INTEGER has 64 bits, one of them for the sign.
use Rattle.std.specs.Prelude.{ℕ, ◌^◌, ℤ, pos, negsuc, List, length, if◌then◌else◌, nat_eq, nat_lt, Option, Some, None}
use Rattle.std.specs.Option.{option_map}
use Rattle.std.specs.Result.{result_ok}
use Rattle.hex.specs.Hex.{decode_sized, encode_lower}
use Rattle.gd_item.specs.declared.digest.Digest.{Digest}

-- a number as an INTEGER, if it fits
abbrev pub integer_of : ℕ → Option ℤ
integer_of n = if nat_lt n (2 ^ 63) then Some (pos n) else None

-- the number that an INTEGER is, if it has no sign
abbrev pub natural_of : ℤ → Option ℕ
natural_of (pos n) = Some n
natural_of (negsuc n) = None

-- a digest as a BLOB, and the digest that a BLOB is: one of 32 bytes
abbrev pub digest_blob : Digest → List ℕ
digest_blob digest = digest.0

abbrev pub digest_from : List ℕ → Option Digest
digest_from blob = if nat_eq (length blob) 32 then Some (record { 0 = blob }) else None

-- a digest as a TEXT, 64 hexadecimal digits
abbrev pub digest_text : Digest → List ℕ
digest_text digest = encode_lower digest.0

unfoldable pub digest_of_text : List ℕ → Option Digest
digest_of_text text = option_map (λ bytes. record { 0 = bytes }) (result_ok (decode_sized text 32))
