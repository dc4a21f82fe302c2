-- What holds of each thing holds of each that stands at a path, and of each item of a drive its bytes are those of an
-- accepted version.
use Rattle.std.proofs.Common.{ℕ, List, [], ◌∷◌, Option, Some, None}
use Rattle.std.specs.List.{AllByRecursion}
use Rattle.gd_names.specs.Ordered.{in_order}
use Rattle.gd_item.specs.Nodes.{Node, path_of}
use Rattle.gd_item.specs.Steps.{state_of, held_by, accepted_by}
use Rattle.gd_item.specs.Trees.{at_path, placed}
use Rattle.gd_item.specs.declared.step.Step.{Step}
use Rattle.gd_names.proofs.Each.{each}
use Rattle.gd_names.proofs.Ordered.{all-in-order-from}
use Rattle.gd_item.proofs.LogsVersions.{IsKnown, known-inventory}

module _ {X : Type 0} (Q : X → Type 0) where
  abbrev pub Each : List (List (List ℕ) × X) → Type 0
  Each entries = AllByRecursion (λ (entry : List (List ℕ) × X). Q entry.1) entries

  each-at : (path : Option (List (List ℕ))) (x : X) (entries : List (List (List ℕ) × X)) → Q x → Each entries → Each (at_path path x entries)
  each-at None x entries here all = all
  each-at (Some path) x entries here all = (here, all)

  each-placed : (number : X → ℕ) (all : List Node) (xs : List X) → AllByRecursion Q xs → Each (placed number all xs)
  each-placed number all [] each = tt
  each-placed number all (x ∷ xs) each = each-at (path_of all (number x)) x (placed number all xs) each.0 (each-placed number all xs each.1)

  pub each-in-order : (number : X → ℕ) (all : List Node) (xs : List X) → AllByRecursion Q xs → Each (in_order (placed number all xs))
  each-in-order number all xs each =
      all-in-order-from (λ (entry : List (List ℕ) × X). Q entry.1) [] (placed number all xs) tt (each-placed number all xs each)

pub items-known : (drive : List Step) → AllByRecursion (IsKnown (accepted_by drive)) (held_by drive).items
items-known drive = each (IsKnown (accepted_by drive)) (held_by drive).items (known-inventory (state_of drive).effects).living
