-- The names that an item may have: this drive's own rules, close to those of OneDrive for names of files.
use Rattle.std.specs.Prelude.{ℕ, Bool, ◌||◌, List, [], ◌∷◌, length, codes, nat_eq, nat_lt, Option}
use Rattle.std.specs.List.{list_any, starts_with, ends_with}
use Rattle.std.specs.Cmp.Lexicographic.{pointwise}
use Rattle.gd_names.specs.Causes.{first_cause}
use Rattle.gd_names.specs.Caseless.{lower_case, equal_caseless}
use Rattle.gd_names.specs.declared.name.NameFault.{NameFault}
use Rattle.gd_names.specs.declared.name.NameFault.TheVariants.{Empty, TooLong, BadByte, Edge, Reserved}

-- whether no name may hold the byte: a control character, or one of `" * : < > ? / \` and the vertical bar
abbrev pub is_bad_byte : ℕ → Bool
is_bad_byte b = nat_lt b 32 || nat_eq b 127 || list_any (nat_eq b) (codes "\"*:<>?/\\|")

-- whether the name is that of a folder itself or of its parent
abbrev pub is_dots : List ℕ → Bool
is_dots name = pointwise nat_eq name (codes ".") || pointwise nat_eq name (codes "..")

-- whether the name begins or ends with a space
abbrev pub has_space_at_edge : List ℕ → Bool
has_space_at_edge name = starts_with nat_eq name (codes " ") || ends_with nat_eq name (codes " ")

-- the names that are reserved, in lower case
abbrev pub reserved_names : List (List ℕ)
reserved_names =
    codes ".lock" ∷ codes "con" ∷ codes "prn" ∷ codes "aux" ∷ codes "nul" ∷ codes "com0" ∷ codes "com1" ∷ codes "com2"
    ∷ codes "com3" ∷ codes "com4" ∷ codes "com5" ∷ codes "com6" ∷ codes "com7" ∷ codes "com8" ∷ codes "com9"
    ∷ codes "lpt0" ∷ codes "lpt1" ∷ codes "lpt2" ∷ codes "lpt3" ∷ codes "lpt4" ∷ codes "lpt5" ∷ codes "lpt6"
    ∷ codes "lpt7" ∷ codes "lpt8" ∷ codes "lpt9" ∷ codes "desktop.ini" ∷ []

-- whether the part stands somewhere in the text
abbrev pub holds_part : List ℕ → List ℕ → Bool
holds_part part [] = starts_with nat_eq [] part
holds_part part (b ∷ bytes) = starts_with nat_eq (b ∷ bytes) part || holds_part part bytes

-- whether the name is reserved: one of the list, one that begins with `~$`, or one that holds `_vti_`
abbrev pub is_reserved : List ℕ → Bool
is_reserved name =
    list_any (equal_caseless name) reserved_names || starts_with nat_eq name (codes "~$")
    || holds_part (codes "_vti_") (lower_case name)

-- why the text is no name of an item, if it is none
abbrev pub name_fault : List ℕ → Option NameFault
name_fault name = first_cause (
    (nat_eq (length name) 0, Empty)
    ∷ (nat_lt 255 (length name), TooLong)
    ∷ (list_any is_bad_byte name || is_dots name, BadByte)
    ∷ (has_space_at_edge name, Edge)
    ∷ (is_reserved name, Reserved)
    ∷ [])
