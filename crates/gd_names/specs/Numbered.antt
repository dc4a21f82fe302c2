-- Names made from another name by a number before its extension. The extension of a file begins at its last dot
-- that is not its first byte; a folder has none.
use Rattle.std.specs.Prelude.{◌≡◌, ℕ, ◌-◌, ◌^◌, ◌<◌, ◌≤◌, Bool, true, false, if◌then◌else◌, List, [], ◌∷◌, ◌++◌, length, take, codes, nat_eq, slice_index_or, Option, Some, None, unwrap_or}
use Rattle.std.specs.Fmt.{decimal}
use Rattle.gd_names.specs.Caseless.{equal_caseless}

-- what follows the last dot, with the dot, if there is one; `found` is that of the later bytes
abbrev pub dot_before : ℕ → List ℕ → Option (List ℕ) → Option (List ℕ)
dot_before b bytes None = if nat_eq b 46 then Some (b ∷ bytes) else None
dot_before b bytes (Some found) = Some found

abbrev pub from_last_dot : List ℕ → Option (List ℕ)
from_last_dot [] = None
from_last_dot (b ∷ bytes) = dot_before b bytes (from_last_dot bytes)

-- the extension of a file
abbrev pub file_extension : List ℕ → List ℕ
file_extension [] = []
file_extension (b ∷ bytes) = unwrap_or (from_last_dot bytes) []

-- the extension of an item
abbrev pub extension : List ℕ → Bool → List ℕ
extension name folder = if folder then [] else file_extension name

-- what stands before the extension
abbrev pub stem : List ℕ → Bool → List ℕ
stem name folder = take (length name - length (extension name folder)) name

-- the name with a blank and a number before its extension
abbrev pub numbered : List ℕ → Bool → ℕ → List ℕ
numbered name folder n = stem name folder ++ codes " " ++ decimal n ++ extension name folder

-- the text is a number from 1 between the two ends, but for case
pub record IsNumberBetween (text front end : List ℕ) (number : ℕ) : Type 0 where
  pub from_one : 1 ≤ number
  pub fits : number < 2 ^ 32
  pub is : equal_caseless text (front ++ decimal number ++ end) ≡ true

-- the number is the least from 1 at which the list is false
pub record IsLeastFree (marked : List Bool) (number : ℕ) : Type 0 where
  pub from_one : 1 ≤ number
  pub within : number < length marked
  pub free : slice_index_or marked number false ≡ false
  pub least : (n : ℕ) → 1 ≤ n → n < number → slice_index_or marked n false ≡ true
