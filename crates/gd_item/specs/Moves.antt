-- Why a drive refuses to move or to remove an item, and what it does where it does not refuse. An item is moved to a
-- new folder, a new name or both. With a folder all that is below it is removed, the deepest first.
use Rattle.std.specs.Prelude.{ℕ, zero, suc, ◌+◌, ◌-◌, ◌^◌, Bool, false, not, ◌&&◌, ◌||◌, List, [], ◌∷◌, ◌++◌, length, map, filter, is_some, nat_eq, nat_lt, Option, Some, None, unwrap_or}
use Rattle.std.specs.List.{list_any}
use Rattle.gd_names.specs.Causes.{first_cause}
use Rattle.gd_names.specs.Caseless.{equal_caseless}
use Rattle.gd_names.specs.Names.{name_fault}
use Rattle.gd_item.specs.Inventory.{Inventory, live_at, Effect, Moved, Removed, after}
use Rattle.gd_item.specs.Nodes.{Node, is_folder, node_at, path_of}
use Rattle.gd_item.specs.Refusals.{is_there, is_too_long, is_over_quota, is_met}
use Rattle.gd_item.specs.Trees.{nodes_of}
use Rattle.gd_item.specs.declared.condition.Condition.{Condition}
use Rattle.gd_item.specs.declared.fault.StoreFault.{StoreFault}
use Rattle.gd_item.specs.declared.fault.StoreFault.TheVariants.{NotFound, NotFolder, Root, BadName, Modified, IntoItself, NameTaken, PathTooLong, Quota}
use Rattle.gd_item.specs.declared.live.LiveItem.{LiveItem}

-- whether a node that may be there stands in a folder of which the test holds
abbrev pub is_parent_such : (ℕ → Bool) → Option ℕ → Bool
is_parent_such test None = false
is_parent_such test (Some parent) = test parent

abbrev pub is_node_such : (ℕ → Bool) → Option Node → Bool
is_node_such test None = false
is_node_such test (Some node) = is_parent_such test node.parent

-- whether a number is that of the top or stands below it, over at most so many folders
abbrev pub is_in_within : ℕ → List Node → ℕ → ℕ → Bool
is_in_within zero nodes top number = nat_eq number top
is_in_within (suc steps) nodes top number = nat_eq number top || is_node_such (is_in_within steps nodes top) (node_at number nodes)

-- whether a number is that of the top or stands below it
abbrev pub is_in : List Node → ℕ → ℕ → Bool
is_in nodes top number = is_in_within (length nodes) nodes top number

-- the folder and the name of an item that may be there
abbrev pub parent_of : Option LiveItem → ℕ
parent_of None = 0
parent_of (Some item) = item.parent

abbrev pub name_of : Option LiveItem → List ℕ
name_of None = []
name_of (Some item) = item.name

-- the folder and the name that an item gets which is moved so
abbrev pub new_parent : Inventory → ℕ → Option ℕ → ℕ
new_parent held number parent = unwrap_or parent (parent_of (live_at number held.items))

abbrev pub new_name : Inventory → ℕ → Option (List ℕ) → List ℕ
new_name held number name = unwrap_or name (name_of (live_at number held.items))

-- whether a name is given that no item may have
abbrev pub is_bad_name : Option (List ℕ) → Bool
is_bad_name None = false
is_bad_name (Some name) = is_some (name_fault name)

-- whether another item of a folder has the name already, but for case
abbrev pub is_taken_by_other : ℕ → ℕ → List ℕ → List LiveItem → Bool
is_taken_by_other number parent name items =
    list_any (λ item. nat_eq item.parent parent && not (nat_eq item.number number) && equal_caseless item.name name) items

-- whether the path of the top, or one below it, is longer than any item's may be
abbrev pub is_any_too_long : Inventory → ℕ → Bool
is_any_too_long held top =
    list_any (λ item. is_in (nodes_of held) top item.number && is_too_long (path_of (nodes_of held) item.number)) held.items

-- why an item is not moved
abbrev pub patch_refusal : Inventory → ℕ → Option (List ℕ) → Option ℕ → Condition → Option StoreFault
patch_refusal held number name parent condition =
    let to = new_parent held number parent in
    let named = new_name held number name in
    first_cause (
    (not (is_there number (nodes_of held)), NotFound)
    ∷ (nat_eq number 1, Root)
    ∷ (is_bad_name name, BadName)
    ∷ (not (is_there to (nodes_of held)), NotFound)
    ∷ (not (is_folder to (nodes_of held)), NotFolder)
    ∷ (not (is_met condition (live_at number held.items)), Modified)
    ∷ (is_in (nodes_of held) number to, IntoItself)
    ∷ (is_taken_by_other number to named held.items, NameTaken)
    ∷ (is_any_too_long (after held (Moved number to named)) number, PathTooLong)
    ∷ (is_over_quota held 0 0, Quota)
    ∷ [])

-- what moving it does
abbrev pub patch_effect : Inventory → ℕ → Option (List ℕ) → Option ℕ → Effect
patch_effect held number name parent = Moved number (new_parent held number parent) (new_name held number name)

-- how many names a path has, if there is one
abbrev pub depth_of_path : Option (List (List ℕ)) → ℕ
depth_of_path None = 0
depth_of_path (Some path) = length path

-- the numbers whose depth is below a bound, the deepest first and those of one depth as they stand
abbrev pub deepest_first : ℕ → (ℕ → ℕ) → List ℕ → List ℕ
deepest_first zero depth numbers = []
deepest_first (suc bound) depth numbers = filter (λ number. nat_eq (depth number) bound) numbers ++ deepest_first bound depth numbers

-- the numbers of an item and of all below it, in the order in which they are removed
abbrev pub removal_order : Inventory → ℕ → List ℕ
removal_order held number =
    deepest_first (length held.items + 1) (λ n. depth_of_path (path_of (nodes_of held) n))
    (filter (λ n. is_in (nodes_of held) number n) (map (λ (item : LiveItem). item.number) held.items))

-- why an item is not removed; each removal raises the drive's change number, which is at most 2 ^ 64 - 1
abbrev pub remove_refusal : Inventory → ℕ → Condition → Option StoreFault
remove_refusal held number condition =
    first_cause (
    (not (is_there number (nodes_of held)), NotFound)
    ∷ (nat_eq number 1, Root)
    ∷ (not (is_met condition (live_at number held.items)), Modified)
    ∷ (nat_lt (2 ^ 64 - 1) (held.number + length (removal_order held number)), Quota)
    ∷ [])

-- what removing it does
abbrev pub remove_effects : Inventory → ℕ → List Effect
remove_effects held number = map Removed (removal_order held number)
