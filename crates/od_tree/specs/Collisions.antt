-- No two unlike contents have one digest, of those that the user wrote, that the client placed and that the drive
-- accepted.
use Rattle.std.specs.Prelude.{◌≡◌, ℕ, List, [], ◌∷◌, ◌++◌, map}
use Rattle.std.specs.List.{Contains, flat_map}
use Rattle.sha2.specs.Sha256.{sha256}
use Rattle.gd_item.specs.declared.live.Version.{Version}
use Rattle.od_tree.specs.Loss.{writes}
use Rattle.od_tree.specs.declared.step.LocalStep.{LocalStep}
use Rattle.od_tree.specs.declared.step.LocalStep.TheVariants.{User, Op}
use Rattle.od_tree.specs.declared.step.TreeOp.TheVariants as op

-- the content of a file that a step placed
abbrev pub placed_by : LocalStep → List (List ℕ)
placed_by (User edit) = []
placed_by (Op (op.Place at bytes)) = bytes ∷ []
placed_by (Op call) = []

-- these contents
abbrev pub contents : List LocalStep → List Version → List (List ℕ)
contents log versions =
    map (λ (write : ℕ × List ℕ). write.1) (writes log) ++ flat_map placed_by log ++ map (λ (version : Version). version.bytes) versions

-- those of one digest are the same
abbrev pub NoCollision : List LocalStep → List Version → Type 0
NoCollision log versions =
    (a b : List ℕ) → Contains (contents log versions) a → Contains (contents log versions) b → sha256 a ≡ sha256 b → a ≡ b
