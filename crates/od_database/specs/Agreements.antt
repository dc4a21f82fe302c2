-- An agreement as a row of the table `base`, and back. The kind is 0 for nothing, 1 for a folder and 2 for a file.
use Rattle.std.specs.Prelude.{◌≡◌, ℕ, ℤ, pos, negsuc, Bool, false, List, length, if◌then◌else◌, nat_eq, Option, Some, None}
use Rattle.std.specs.Cmp.Lexicographic.{pointwise}
use Rattle.std.specs.Option.{option_map}
use Rattle.gd_names.specs.Paths.{path_text, path_of_text}
use Rattle.gd_item.specs.declared.digest.Digest.{Digest}
use Rattle.od_keeper.specs.declared.image.Agreed.{Agreed}
use Rattle.od_keeper.specs.declared.image.Agreed.TheVariants.{Nothing, Folder, File}
use Rattle.od_keeper.specs.declared.image.BaseRow.{BaseRow}
use Rattle.od_database.specs.Numbers.{digest_blob, digest_from}
use Rattle.od_database.specs.declared.agreement.AgreementRow.{AgreementRow}

abbrev pub agreed_code : Agreed → ℕ
agreed_code Nothing = 0
agreed_code Folder = 1
agreed_code (File digest) = 2

abbrev pub agreed_blob : Agreed → Option (List ℕ)
agreed_blob Nothing = None
agreed_blob Folder = None
agreed_blob (File digest) = Some (digest_blob digest)

-- the row of an agreement
abbrev pub agreement_row : BaseRow → AgreementRow
agreement_row base = record {
  path = path_text base.path;
  kind = pos (agreed_code base.what);
  digest = agreed_blob base.what;
  flight = option_map digest_blob base.flight;
}

-- whether the text of a path is read back as that path: no name with a `/` in it, and no empty one, is
abbrev pub is_same_path : List (List ℕ) → Option (List (List ℕ)) → Bool
is_same_path path None = false
is_same_path path (Some read) = pointwise (pointwise nat_eq) read path

abbrev pub is_spelled : List (List ℕ) → Bool
is_spelled path = is_same_path path (path_of_text (path_text path))

-- the text of a path that is read back from it
abbrev pub spelled : List (List ℕ) → Option (List ℕ)
spelled path = if is_spelled path then Some (path_text path) else None

-- the row of an agreement, if its path is read back from it
abbrev pub agreement_of : BaseRow → Option AgreementRow
agreement_of base = if is_spelled base.path then Some (agreement_row base) else None

-- what was agreed on: a digest stands in a row of kind 2 and in no other
abbrev pub agreed_file : Option (List ℕ) → Option Agreed
agreed_file None = None
agreed_file (Some blob) = option_map File (digest_from blob)

abbrev pub agreed_without : ℕ → Option Agreed
agreed_without code = if nat_eq code 0 then Some Nothing else (if nat_eq code 1 then Some Folder else None)

abbrev pub if_no_digest : Option (List ℕ) → Option Agreed → Option Agreed
if_no_digest None agreed = agreed
if_no_digest (Some blob) agreed = None

abbrev pub agreed_of : ℤ → Option (List ℕ) → Option Agreed
agreed_of (negsuc code) blob = None
agreed_of (pos code) blob = if nat_eq code 2 then agreed_file blob else if_no_digest blob (agreed_without code)

-- the digest of what is on its way
abbrev pub flight_of : Option (List ℕ) → Option (Option Digest)
flight_of None = Some None
flight_of (Some blob) = option_map Some (digest_from blob)

-- the agreement of a row, if it is one
abbrev pub base_with : Option Agreed → Option (Option Digest) → Option (List (List ℕ)) → Option BaseRow
base_with (Some what) (Some flight) (Some path) = Some (record { path = path; what = what; flight = flight })
base_with (Some what) (Some flight) None = None
base_with (Some what) None path = None
base_with None flight path = None

abbrev pub base_of : AgreementRow → Option BaseRow
base_of row = base_with (agreed_of row.kind row.digest) (flight_of row.flight) (path_of_text row.path)

-- a digest has 32 bytes, as the code's type says
abbrev pub AgreedHasDigest : Agreed → Type 0
AgreedHasDigest Nothing = Unit
AgreedHasDigest Folder = Unit
AgreedHasDigest (File digest) = length digest.0 ≡ 32

abbrev pub FlightHasDigest : Option Digest → Type 0
FlightHasDigest None = Unit
FlightHasDigest (Some digest) = length digest.0 ≡ 32
