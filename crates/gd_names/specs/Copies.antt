-- The names of conflict copies: `{stem}-{host}-safeBackup-{NNNN}{ext}`, with four digits from 0001 to 9999.
use Rattle.std.specs.Prelude.{◌≡◌, ℕ, ◌+◌, ◌/◌, ◌%◌, ◌<◌, ◌≤◌, Bool, true, false, List, [], ◌∷◌, ◌++◌, length, codes}
use Rattle.std.specs.List.{list_any}
use Rattle.gd_names.specs.Caseless.{equal_caseless}
use Rattle.gd_names.specs.Numbered.{stem, extension}

-- the digit of a number below ten
abbrev pub digit : ℕ → ℕ
digit n = 48 + n % 10

-- the last four digits of a number
abbrev pub four_digits : ℕ → List ℕ
four_digits n = digit (n / 1000) ∷ digit (n / 100) ∷ digit (n / 10) ∷ digit n ∷ []

-- the copy of this number
abbrev pub copy_of : List ℕ → Bool → List ℕ → ℕ → List ℕ
copy_of name folder host n = stem name folder ++ codes "-" ++ host ++ codes "-safeBackup-" ++ four_digits n ++ extension name folder

-- whether a name is one of the taken ones, but for case
abbrev pub is_among : List (List ℕ) → List ℕ → Bool
is_among taken name = list_any (λ other. equal_caseless other name) taken

-- the copy has the least number that no taken name has, and is at most 255 bytes long
pub record IsLeastCopy (name : List ℕ) (folder : Bool) (host : List ℕ) (taken : List (List ℕ)) (copy : List ℕ) : Type 0 where
  pub number : ℕ
  pub from_one : 1 ≤ number
  pub to_9999 : number ≤ 9999
  pub is : copy ≡ copy_of name folder host number
  pub within : length copy ≤ 255
  pub free : is_among taken copy ≡ false
  pub least : (n : ℕ) → 1 ≤ n → n < number → is_among taken (copy_of name folder host n) ≡ true

-- every copy is taken
abbrev pub AllTaken : List ℕ → Bool → List ℕ → List (List ℕ) → Type 0
AllTaken name folder host taken = (n : ℕ) → 1 ≤ n → n ≤ 9999 → is_among taken (copy_of name folder host n) ≡ true
