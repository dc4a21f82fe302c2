-- A path as the folder above its last name, and that name.
use Rattle.std.specs.Prelude.{ℕ, List, [], ◌∷◌, Option}
use Rattle.gd_item.specs.Inventory.{Inventory}
use Rattle.gd_item.specs.Nodes.{number_at}
use Rattle.gd_item.specs.Trees.{nodes_of}

-- all names of a path but the last, and the last one
abbrev pub names_above : List (List ℕ) → List (List ℕ)
names_above [] = []
names_above (name ∷ []) = []
names_above (name ∷ next ∷ path) = name ∷ names_above (next ∷ path)

abbrev pub last_name : List (List ℕ) → List ℕ
last_name [] = []
last_name (name ∷ []) = name
last_name (name ∷ next ∷ path) = last_name (next ∷ path)

-- the folder above the last name
abbrev pub folder_above : Inventory → List (List ℕ) → Option ℕ
folder_above held path = number_at (names_above path) (nodes_of held)
