-- What the objects of a run stand for.
use Rattle.std.specs.Prelude.{◌≡◌, ℕ, Bool, true, List, ◌++◌, Some}
use Rattle.od_keeper.specs.Keeping.{last_image}
use Rattle.od_keeper.specs.Memory as keeper
use Rattle.od_keeper.specs.declared.memory.MemoryKeeper.{MemoryKeeper}
use Rattle.od_sync.specs.Syncs.{HasServable}
use Rattle.od_tree.specs.Memory as tree
use Rattle.od_tree.specs.declared.memory.MemoryTree.{MemoryTree}
use Rattle.od_cli.specs.Runs.{Run, Goes}
use Rattle.od_cli.specs.Worlds.{WorldValue, page_size}
use Rattle.od_cli.specs.declared.line.Line.{Line}

-- the drive, the folder and the keeper of a run: they tell its logs and images, no one disturbs them, and none has failed. As long
-- as this client can follow the drive, the token of the last image is served, and pages are those of a new drive
pub record StandsFor (world : WorldValue) (folder : MemoryTree) (kept : MemoryKeeper) (counted : ℕ) (followed : Bool) (run : Run) : Type 0 where
  pub drive : world.log ≡ run.drive
  pub size : world.size ≡ run.size
  pub followed_is : followed ≡ run.followed
  pub local : tree.log_of folder ≡ Some run.local
  pub images : keeper.images_of kept ≡ Some run.images
  pub counted_is : counted ≡ run.counted
  pub alone : tree.is_undisturbed folder ≡ true
  pub steady : keeper.is_undisturbed kept ≡ true
  pub no_link_faults : world.faults ≡ 0
  pub no_tree_faults : tree.faults_of folder ≡ 0
  pub no_keeper_faults : keeper.faults_of kept ≡ 0
  pub pages : run.followed ≡ true → run.size ≡ page_size
  pub servable : run.followed ≡ true → HasServable (last_image run.images) run.drive

-- the objects stand for a run that a line leads to, and its text was printed
pub record PlaysTo (world : WorldValue) (folder : MemoryTree) (kept : MemoryKeeper) (counted : ℕ) (followed : Bool) (run : Run) (line : Line) (printed_before printed_after : List ℕ) : Type 0 where
  pub next : Run
  pub text : List ℕ
  pub stands : StandsFor world folder kept counted followed next
  pub goes : Goes run line next text
  pub printed : printed_after ≡ printed_before ++ text
