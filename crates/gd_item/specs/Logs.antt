-- Some short logs.
use Rattle.std.specs.Prelude.{List, [], ◌∷◌, codes}
use Rattle.gd_item.specs.Inventory.{Effect, MadeFolder, PutNew, PutOver, Removed}

-- a folder `d`, a file `a` in it, and new bytes of the file
abbrev pub file_log : List Effect
file_log = MadeFolder 1 (codes "d") ∷ PutNew 2 (codes "a") (codes "1") ∷ PutOver 3 (codes "2") ∷ []

-- a file `a` in the root
abbrev pub taken_log : List Effect
taken_log = PutNew 1 (codes "a") (codes "1") ∷ []

-- a folder `d` and an empty file `f` in it, which are both removed
abbrev pub removed_log : List Effect
removed_log = MadeFolder 1 (codes "d") ∷ PutNew 2 (codes "f") [] ∷ Removed 3 ∷ Removed 2 ∷ []
