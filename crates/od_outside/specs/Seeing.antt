-- What proofs see of an outside: a drive, a folder and a keeper as one.
use Rattle.std.specs.Prelude.{ℕ, ◌≤◌, Option, Some, None, List}
use Rattle.gd_item.specs.declared.step.Step.{Step}
use Rattle.od_keeper.specs.declared.image.Image.{Image}
use Rattle.od_remote.specs.Counting.{AreSame, AskCounts, Later, Reading}
use Rattle.od_run.specs.Worlds.{World}
use Rattle.od_tree.specs.declared.step.LocalStep.{LocalStep}

-- what is counted of the drive, and how often the folder and the keeper failed
pub record Counts : Type 0 where
  pub link : AskCounts
  pub tree : ℕ
  pub keeper : ℕ

pub record NotFewer (before now : Counts) : Type 0 where
  pub link : Later before.link now.link
  pub tree : before.tree ≤ now.tree
  pub keeper : before.keeper ≤ now.keeper

-- its world, where all three are told; what is counted; how bytes are read as replies; and how it goes on
pub record Seen (S : Type 0) : Type 1 where
  pub world : S → Option World
  pub counts : S → Counts
  pub reads : S → Reading
  pub goes : S → S → Type 0

pub record AreLaws {S : Type 0} (o : Seen S) : Type 0 where
  pub goes_refl : (x : S) → o.goes x x
  pub goes_trans : (x y z : S) → o.goes x y → o.goes y z → o.goes x z
  pub goes_later : (x y : S) → o.goes x y → NotFewer (o.counts x) (o.counts y)
  pub goes_reads : (x y : S) → o.goes x y → AreSame (o.reads x) (o.reads y)

-- the world of three logs, where all are told
abbrev pub world_of : Option (List Step) → Option (List LocalStep) → Option (List Image) → Option World
world_of (Some drive) (Some local) (Some images) = Some (record { drive = drive; local = local; images = images })
world_of None local images = None
world_of (Some drive) None images = None
world_of (Some drive) (Some local) None = None
