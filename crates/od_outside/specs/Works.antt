-- Calls of the folder and of the keeper in the world.
use Rattle.std.specs.Prelude.{◌≡◌, ℕ, Option, Some, None, Result, Ok, Err}
use Rattle.od_keeper.specs.Images.{applied}
use Rattle.od_keeper.specs.Keeping.{HasKeeperCause, last_image}
use Rattle.od_keeper.specs.declared.fault.KeeperFault.{KeeperFault}
use Rattle.od_keeper.specs.declared.image.Change.{Change}
use Rattle.od_keeper.specs.declared.image.Image.{Image}
use Rattle.od_outside.specs.Seeing.{Counts}
use Rattle.od_remote.specs.Counting.{Reading}
use Rattle.od_run.specs.Worlds.{World, Event, Worked, Kept}
use Rattle.od_tree.specs.Calls.{HasTreeCause}
use Rattle.od_tree.specs.Local.{Local, local_of, op_refusal}
use Rattle.od_tree.specs.declared.fault.TreeFault.{TreeFault}
use Rattle.od_tree.specs.declared.fault.TreeFault.TheVariants.{Taken, Missing, NotEmpty, Failed, Memory}
use Rattle.od_tree.specs.declared.step.LocalStep.TheVariants.{Op}
use Rattle.od_tree.specs.declared.step.TreeOp.{TreeOp}

-- an operation that is not refused is done
pub record IsWorked (call : TreeOp) (local : Local) (event : Event) : Type 0 where
  pub event_is : event ≡ Worked (Op call)
  pub allowed : op_refusal local call ≡ None

-- an operation, by cases on its result: it is done, and its value is that of the folder right before it; or it is refused there
-- and not done; or it failed, and may be done
abbrev pub DoesWorkBy : {T : Type 0} → TreeOp → (Local → T → Type 0) → Result T TreeFault → World → Option Event → Type 0
DoesWorkBy {T} call Value (Ok x) w None = ⊥
DoesWorkBy {T} call Value (Ok x) w (Some event) = IsWorked call (local_of w.local) event × Value (local_of w.local) x
DoesWorkBy {T} call Value (Err Taken) w None = op_refusal (local_of w.local) call ≡ Some Taken
DoesWorkBy {T} call Value (Err Taken) w (Some event) = ⊥
DoesWorkBy {T} call Value (Err Missing) w None = op_refusal (local_of w.local) call ≡ Some Missing
DoesWorkBy {T} call Value (Err Missing) w (Some event) = ⊥
DoesWorkBy {T} call Value (Err NotEmpty) w None = op_refusal (local_of w.local) call ≡ Some NotEmpty
DoesWorkBy {T} call Value (Err NotEmpty) w (Some event) = ⊥
DoesWorkBy {T} call Value (Err Failed) w None = Unit {0}
DoesWorkBy {T} call Value (Err Failed) w (Some event) = IsWorked call (local_of w.local) event
DoesWorkBy {T} call Value (Err Memory) w None = Unit {0}
DoesWorkBy {T} call Value (Err Memory) w (Some event) = ⊥

pub record DoesWork {T : Type 0} (call : TreeOp) (Value : Local → T → Type 0) (result : Result T TreeFault) (w : World) (own : Option Event) : Type 0 where
  pub is : DoesWorkBy call Value result w own

-- no value is said
abbrev pub IsDone : Local → Unit {0} → Type 0
IsDone local done = Unit {0}

-- a load changes nothing, and gives the image that was committed last
abbrev pub DoesLoadBy : Result Image KeeperFault → World → Option Event → Type 0
DoesLoadBy (Ok image) w None = image ≡ last_image w.images
DoesLoadBy (Ok image) w (Some event) = ⊥
DoesLoadBy (Err fault) w None = Unit {0}
DoesLoadBy (Err fault) w (Some event) = ⊥

pub record DoesLoad (result : Result Image KeeperFault) (w : World) (own : Option Event) : Type 0 where
  pub is : DoesLoadBy result w own

-- a commit changes the last image, whole or not at all
abbrev pub DoesCommitBy : Change → Result (Unit {0}) KeeperFault → World → Option Event → Type 0
DoesCommitBy change (Ok done) w None = ⊥
DoesCommitBy change (Ok done) w (Some event) = event ≡ Kept (applied change (last_image w.images))
DoesCommitBy change (Err fault) w None = Unit {0}
DoesCommitBy change (Err fault) w (Some event) = ⊥

pub record DoesCommit (change : Change) (result : Result (Unit {0}) KeeperFault) (w : World) (own : Option Event) : Type 0 where
  pub is : DoesCommitBy change result w own

-- what is counted then
abbrev pub WorkCause : {T : Type 0} → TreeOp → Result T TreeFault → Reading → Counts → Counts → Type 0
WorkCause {T} call result reads before now = HasTreeCause call before.tree now.tree result

abbrev pub KeepCause : {T : Type 0} → Result T KeeperFault → Reading → Counts → Counts → Type 0
KeepCause {T} result reads before now = HasKeeperCause before.keeper now.keeper result
