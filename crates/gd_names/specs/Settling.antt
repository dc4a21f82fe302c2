-- How a wanted name is settled among the siblings that it would have, for each `conflictBehavior` of Microsoft
-- Graph: `fail`, `replace` (a file by a file) and `rename` (the least number that makes the name free).
use Rattle.std.specs.Prelude.{ℕ, ◌+◌, Bool, not, ◌&&◌, cond, List, [], ◌∷◌, length, nat_le, Option, Some, None}
use Rattle.std.specs.List.{list_any, find}
use Rattle.gd_names.specs.Caseless.{equal_caseless}
use Rattle.gd_names.specs.Numbered.{numbered}
use Rattle.gd_names.specs.declared.conflict.Conflict.{Conflict}
use Rattle.gd_names.specs.declared.conflict.Conflict.TheVariants.{Fail, Replace, Rename}
use Rattle.gd_names.specs.declared.conflict.Sibling.{Sibling}
use Rattle.gd_names.specs.declared.conflict.Settle.{Settle}
use Rattle.gd_names.specs.declared.conflict.Settle.TheVariants.{Free, Over, Refuse}

-- the first sibling that has the name already, but for case
abbrev pub sibling_named : List ℕ → List Sibling → Option Sibling
sibling_named name siblings = find (λ sibling. equal_caseless sibling.name name) siblings

-- whether a sibling has the name already, but for case
abbrev pub is_taken : List Sibling → List ℕ → Bool
is_taken siblings name = list_any (λ sibling. equal_caseless sibling.name name) siblings

-- the least number from n that makes the name free, among as many as the first list has items and one more
abbrev pub least_number : List Sibling → List Sibling → List ℕ → Bool → ℕ → ℕ
least_number [] siblings name folder n = n
least_number (_ ∷ more) siblings name folder n =
    cond (is_taken siblings (numbered name folder n)) (least_number more siblings name folder (n + 1)) n

-- the name, where it is at most 255 bytes long
abbrev pub free_within : List ℕ → Settle
free_within name = cond (nat_le (length name) 255) (Free name) Refuse

-- how a name is settled that this sibling has
abbrev pub settled_at : Option Sibling → Conflict → List Sibling → List ℕ → Bool → Settle
settled_at None behaviour siblings name folder = Free name
settled_at (Some other) Fail siblings name folder = Refuse
settled_at (Some other) Replace siblings name folder = cond (not folder && not other.folder) (Over other.id) Refuse
settled_at (Some other) Rename siblings name folder =
    free_within (numbered name folder (least_number siblings siblings name folder 1))

-- how a name is settled
abbrev pub settled : Conflict → List Sibling → List ℕ → Bool → Settle
settled behaviour siblings name folder = settled_at (sibling_named name siblings) behaviour siblings name folder
