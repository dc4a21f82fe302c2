-- A path is the list of the names from the root down. Its text is `/` for the root, and else each name after a
-- `/`, with its escapes.
use Rattle.std.specs.Prelude.{ℕ, ◌+◌, Bool, ◌||◌, if◌then◌else◌, List, [], ◌∷◌, ◌++◌, count_by, sum_by, nat_eq, nat_lt, nat_le, Option, Some, None}
use Rattle.std.specs.List.{flat_map}
use Rattle.gd_names.specs.Escapes.{escaped, unescaped}

-- whether a byte begins a character of a text in UTF-8
abbrev pub begins_character : ℕ → Bool
begins_character b = nat_lt b 128 || nat_lt 191 b

-- how many characters a text has
abbrev pub characters : List ℕ → ℕ
characters text = count_by begins_character text

-- the length of a path: of each name 1 and its characters
abbrev pub path_length : List (List ℕ) → ℕ
path_length path = sum_by (λ name. 1 + characters name) path

-- whether an item may stand at the path: its length is at most 400
abbrev pub is_fitting : List (List ℕ) → Bool
is_fitting path = nat_le (path_length path) 400

-- each name after a `/`
abbrev pub segments_text : List (List ℕ) → List ℕ
segments_text path = flat_map (λ name. 47 ∷ escaped name) path

-- the text of a path
abbrev pub path_text : List (List ℕ) → List ℕ
path_text [] = 47 ∷ []
path_text (name ∷ path) = segments_text (name ∷ path)

-- the parts of a text between its `/`, the first of which begins with what was read already
abbrev pub parts_from : List ℕ → List ℕ → List (List ℕ)
parts_from current [] = current ∷ []
parts_from current (b ∷ text) = if nat_eq b 47 then current ∷ parts_from [] text else parts_from (current ++ b ∷ []) text

-- a name before the others of a path, if all stand for names
abbrev pub with_name : Option (List ℕ) → Option (List (List ℕ)) → Option (List (List ℕ))
with_name None path = None
with_name (Some name) None = None
with_name (Some name) (Some path) = Some (name ∷ path)

-- the names of segments, if each stands for one
abbrev pub names_of : List (List ℕ) → Option (List (List ℕ))
names_of [] = Some []
names_of (segment ∷ segments) = with_name (unescaped segment) (names_of segments)

-- the path of what follows the first `/`
abbrev pub path_after_slash : List ℕ → Option (List (List ℕ))
path_after_slash [] = Some []
path_after_slash (b ∷ text) = names_of (parts_from [] (b ∷ text))

-- the path that a text spells, if it spells one
abbrev pub path_of_text : List ℕ → Option (List (List ℕ))
path_of_text [] = None
path_of_text (b ∷ text) = if nat_eq b 47 then path_after_slash text else None
