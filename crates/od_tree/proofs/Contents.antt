-- The bytes in a folder's tree and in a drive's are among the contents of the two logs.
use Rattle.std.proofs.Common.{◌≡◌, ℕ, List, [], ◌∷◌, ◌++◌, map, Option, Some, None, refl, ap, sym, subst, ◌∙◌, arith}
use Rattle.std.proofs.lemmas.List.{get_or-map, length-map}
use Rattle.std.proofs.lemmas.List.Elements.{Contains-append_right}
use Rattle.std.specs.List.{AllByRecursion, Contains, flat_map}
use Rattle.gd_names.specs.Ordered.{in_order}
use Rattle.gd_item.specs.Steps.{held_by, accepted_by}
use Rattle.gd_item.specs.Trees.{nodes_of}
use Rattle.gd_item.specs.declared.live.LiveItem.{LiveItem}
use Rattle.gd_item.specs.declared.live.Version.{Version}
use Rattle.gd_item.specs.declared.step.Step.{Step}
use Rattle.gd_names.proofs.Each.{each-so}
use Rattle.gd_names.proofs.Ordered.{all-in-order-from}
use Rattle.gd_item.proofs.LogsGrow.{accepted-log}
use Rattle.gd_item.proofs.LogsVersions.{IsKnown}
use Rattle.gd_laws.proofs.Placing.{Each, each-in-order, items-known}
use Rattle.gd_laws.specs.Placed.{placed_items}
use Rattle.od_tree.specs.Collisions.{placed_by, contents, NoCollision}
use Rattle.od_tree.specs.Local.{bytes_in, local_of, local_tree}
use Rattle.od_tree.specs.Loss.{writes}
use Rattle.od_tree.specs.Shape.{IsOneOf}
use Rattle.od_tree.specs.declared.local.LocalFile.{LocalFile}
use Rattle.od_tree.specs.declared.local.Spot.{Spot}
use Rattle.od_tree.specs.declared.step.LocalStep.{LocalStep}
use Rattle.od_tree.proofs.Contained.{contents_known, more_contents}

-- the bytes, if there are any, are among these
abbrev pub IsAmong : List (List ℕ) → Option (List ℕ) → Type 0
IsAmong known None = Unit {0}
IsAmong known (Some bytes) = Contains known bytes

-- ---- in the folder
file-among : (known : List (List ℕ)) (file : Option LocalFile) → IsOneOf known file → IsAmong known (bytes_in file)
file-among known None there = tt
file-among known (Some file) there = there

spots-among : (known : List (List ℕ)) (spots : List Spot) → AllByRecursion (λ (spot : Spot). IsOneOf known spot.file) spots
    → Each (IsAmong known) (map (λ (spot : Spot). (spot.path, bytes_in spot.file)) spots)
spots-among known [] all = tt
spots-among known (spot ∷ spots) all = (file-among known spot.file all.0, spots-among known spots all.1)

pub folder-among : (log : List LocalStep) (versions : List Version) → Each (IsAmong (contents log versions)) (local_tree log)
folder-among log versions =
    all-in-order-from (λ (entry : List (List ℕ) × Option (List ℕ)). IsAmong (contents log versions) entry.1) []
    (map (λ (spot : Spot). (spot.path, bytes_in spot.file)) (local_of log).spots) tt
    (spots-among (contents log versions) (local_of log).spots (contents_known log versions))

-- ---- in the drive
pub contains-mapped : {X Y : Type 0} (f : X → Y) (xs : List X) (x : X) → Contains xs x → Contains (map f xs) (f x)
contains-mapped f xs x there =
    (there.0, omega (arith, there.1, length-map xs f), get_or-map f xs there.0 x (f x) there.1 ∙ ap f there.2)

pub version-among : (log : List LocalStep) (versions : List Version) (version : Version) → Contains versions version → Contains (contents log versions) version.bytes
version-among log versions version there =
    Contains-append_right (map (λ (write : ℕ × List ℕ). write.1) (writes log) ++ flat_map placed_by log) (map (λ (version : Version). version.bytes) versions) version.bytes
    (contains-mapped (λ (version : Version). version.bytes) versions version there)

item-among : (log : List LocalStep) (versions : List Version) (item : LiveItem) (bytes : Option (List ℕ)) → item.bytes ≡ bytes → IsKnown versions item
    → IsAmong (contents log versions) bytes
item-among log versions item None is known = tt
item-among log versions item (Some bytes) is known =
    version-among log versions (record { item = item.number; content = item.content; bytes = bytes }) (known bytes is)

pub drive-among : (log : List LocalStep) (drive : List Step)
    → Each (λ (item : LiveItem). IsAmong (contents log (accepted_by drive)) item.bytes) (in_order (placed_items (held_by drive)))
drive-among log drive =
    each-in-order (λ (item : LiveItem). IsAmong (contents log (accepted_by drive)) item.bytes) (λ (item : LiveItem). item.number)
    (nodes_of (held_by drive)) (held_by drive).items
    (each-so (IsKnown (accepted_by drive)) (λ (item : LiveItem). IsAmong (contents log (accepted_by drive)) item.bytes)
    (λ item known. item-among log (accepted_by drive) item item.bytes refl known) (held_by drive).items (items-known drive))

-- ---- of longer logs
more-known : (log more : List LocalStep) (drive later : List Step) (bytes : List ℕ) → Contains (contents log (accepted_by drive)) bytes
    → Contains (contents (log ++ more) (accepted_by (drive ++ later))) bytes
more-known log more drive later bytes there =
    subst (λ (versions : List Version). Contains (contents (log ++ more) versions) bytes) (sym (accepted-log drive later).1)
    (more_contents log more (accepted_by drive) (accepted-log drive later).0 bytes there)

pub apart-before : (log more : List LocalStep) (drive later : List Step) → NoCollision (log ++ more) (accepted_by (drive ++ later)) → NoCollision log (accepted_by drive)
apart-before log more drive later apart a b ours theirs digest =
    apart a b (more-known log more drive later a ours) (more-known log more drive later b theirs) digest
