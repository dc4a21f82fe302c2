-- When both sides were found the same.
use Rattle.std.specs.Prelude.{◌≡◌, ℕ, List, Option, Some}
use Rattle.gd_item.specs.Steps.{held_by}
use Rattle.gd_item.specs.Trees.{tree_of}
use Rattle.gd_item.specs.declared.step.Step.{Step}
use Rattle.od_synclist.specs.Kept.{kept}
use Rattle.od_synclist.specs.declared.rule.Rule.{Rule}
use Rattle.od_tree.specs.Local.{local_tree}
use Rattle.od_tree.specs.declared.step.LocalStep.{LocalStep}
use Rattle.od_run.specs.Knowing.{Known}
use Rattle.od_run.specs.Moments.{last_asked}
use Rattle.od_run.specs.Worlds.{World}

-- the kept tree of a folder, and that of a drive
abbrev pub kept_here : List Rule → List LocalStep → List (List (List ℕ) × Option (List ℕ))
kept_here rules local = kept rules (local_tree local)

abbrev pub kept_there : List Rule → List Step → List (List (List ℕ) × Option (List ℕ))
kept_there rules drive = kept rules (tree_of (held_by drive))

-- what was pulled last and what was scanned last are equal on kept paths, and the client only looked since
pub record IsSettled (rules : List Rule) (k : Known) : Type 0 where
  pub drive : List Step
  pub drive_is : k.feed.pulled ≡ Some drive
  pub local : List LocalStep
  pub local_is : k.here.scanned ≡ Some local
  pub same : kept_here rules local ≡ kept_there rules drive

-- the kept trees are equal: that of the folder now, and that of the drive where it was asked last
abbrev pub AreEqual : List Rule → World → Type 0
AreEqual rules w = kept_here rules w.local ≡ kept_there rules (last_asked w.drive)
