-- The held files, as they are listed, and what holds of them in every log.
use Rattle.std.specs.Prelude.{ℕ, ◌<◌, List, [], ◌∷◌, map, length, Option}
use Rattle.std.specs.List.{AllByRecursion}
use Rattle.std.specs.Option.{option_map}
use Rattle.od_tree.specs.declared.aside.Aside.{Aside}
use Rattle.od_tree.specs.declared.local.HeldFile.{HeldFile}

abbrev pub aside_of : HeldFile → Aside
aside_of file = record { number = file.number; from = file.from }

abbrev pub asides_of : List HeldFile → List Aside
asides_of held = map aside_of held

-- each with its bytes
abbrev pub files_of : List HeldFile → List (Aside × List ℕ)
files_of held = map (λ (file : HeldFile). (aside_of file, file.file.bytes)) held

-- the bytes of a held file, where there is one
abbrev pub bytes_held : Option HeldFile → Option (List ℕ)
bytes_held held = option_map (λ (file : HeldFile). file.file.bytes) held

-- none is said to come from the root
abbrev pub NotFromRoot : List Aside → Type 0
NotFromRoot asides = AllByRecursion (λ (aside : Aside). 0 < length aside.from) asides

-- each has a number of its own, below those of the files behind it
abbrev pub ByNumber : List HeldFile → Type 0
ByNumber [] = Unit {0}
ByNumber (file ∷ held) = AllByRecursion (λ (other : HeldFile). file.number < other.number) held × ByNumber held
