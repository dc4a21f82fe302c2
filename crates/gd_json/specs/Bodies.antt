-- A body is a text in UTF-8 that `serde_json` reads into a value, of which `at` reads the members.
use Rattle.std.specs.Prelude.{◌≡◌, ℕ, Bool, true, false, List, [], ◌∷◌, codes, Option, Some, None, Result, Ok, Err}
use Rattle.std.specs.Str.{is_utf8}
use Rattle.serde_json.specs.Data.{Data}
use Rattle.serde_json.specs.Read.{read}
use Rattle.gd_json.specs.declared.fault.JsonFault.{JsonFault}
use Rattle.gd_json.specs.declared.fault.JsonFault.TheVariants.{NotJson}

abbrev pub value_at : {A : Type 0} → (Data → Result A JsonFault) → Option Data → Result A JsonFault
value_at at None = Err NotJson
value_at at (Some d) = at d

abbrev pub text_at : {A : Type 0} → (Data → Result A JsonFault) → Bool → List ℕ → Result A JsonFault
text_at at false bytes = Err NotJson
text_at at true bytes = value_at at (read bytes)

-- what the bytes are as a body: its value, or the first fault
abbrev pub body : {A : Type 0} → (Data → Result A JsonFault) → List ℕ → Result A JsonFault
body at bytes = text_at at (is_utf8 bytes) bytes

-- the bytes are a body with this value
abbrev pub JsonBody : {A : Type 0} → (Data → Result A JsonFault) → A → List ℕ → Type 0
JsonBody at value bytes = body at bytes ≡ Ok value

-- no bytes stand for an empty object
abbrev pub or_empty : List ℕ → List ℕ
or_empty [] = codes "{}"
or_empty (b ∷ bytes) = b ∷ bytes
