-- What a pull says of a drive whose log is told: the view is that of the drive at the request for changes.
use Rattle.std.specs.Prelude.{◌≡◌, ℕ, ◌-◌, ◌≤◌, true, List, ◌++◌, Option, Some, Result, OnOk, IsErrOf}
use Rattle.std.specs.Map.{values_of}
use Rattle.gd_names.specs.Streams.{Rose}
use Rattle.gd_item.specs.declared.id.ItemId.{ItemId}
use Rattle.gd_item.specs.declared.item.Item.{Item}
use Rattle.gd_item.specs.declared.reply.Page.{Page}
use Rattle.gd_item.specs.declared.request.Request.TheVariants.{Delta}
use Rattle.gd_item.specs.declared.step.Step.{Step}
use Rattle.od_mirror.specs.Pulled.{begun, after_page, nodes, IsView, IsLeastBad}
use Rattle.od_mirror.specs.declared.view.MirrorView.{MirrorView}
use Rattle.od_transfer.specs.Asking.{RoseBy, is_last_link}
use Rattle.od_sync.specs.Deltas.{PageHeard, EndsUnserved}
use Rattle.od_sync.specs.declared.pulling.PullStop.{PullStop}
use Rattle.od_sync.specs.declared.pulling.PullStop.TheVariants.{LinkFault, Unserved, BadPages}

-- a last page that was heard, after sends without one
pub record LastPage (token : Option (List ℕ)) (old : List Step) (after : Option (List Step)) : Type 0 where
  pub page : Page
  pub heard : PageHeard 2 (Delta token) old after page
  pub last_page : is_last_link page.link ≡ true

-- a pull over items and their token
pub record PullsView (items : List Item) (token : Option (List ℕ)) (old : List Step) (after : Option (List Step)) (view : MirrorView) : Type 0 where
  pub last : LastPage token old after
  pub view_is : IsView (after_page (begun items token) last.page) view

pub record Pulls (items : List Item) (token : Option (List ℕ)) (before after : Option (List Step)) (view : MirrorView) : Type 0 where
  pub told : (old : List Step) → before ≡ Some old → PullsView items token old after view

-- a pull that ended in the least item that does not fit
pub record PullsBad (items : List Item) (token : Option (List ℕ)) (old : List Step) (after : Option (List Step)) (number : ℕ) : Type 0 where
  pub last : LastPage token old after
  pub bad : IsLeastBad (nodes (values_of (after_page (begun items token) last.page).items)) number

pub record StopsBad (items : List Item) (token : Option (List ℕ)) (before after : Option (List Step)) (number : ℕ) : Type 0 where
  pub told : (old : List Step) → before ≡ Some old → PullsBad items token old after number

-- a pull that ended because the drive lacks memory
pub record StopsUnserved (token : Option (List ℕ)) (before after : Option (List Step)) : Type 0 where
  pub told : (old : List Step) → before ≡ Some old → EndsUnserved (Delta token) old after

-- the counts never fall, and each end has its cause
pub record HasPullCause (faults_before faults_now answers_before answers_now row_now : ℕ) {T : Type 0} (result : Result T PullStop) : Type 0 where
  pub faults_later : faults_before ≤ faults_now
  pub answers_later : answers_before ≤ answers_now
  pub answered : OnOk result (Rose answers_before answers_now)
  pub failed : IsErrOf result LinkFault → RoseBy 3 faults_before faults_now
  pub in_row : IsErrOf result LinkFault → 3 ≤ row_now
  pub bad : (id : ItemId) → IsErrOf result (BadPages id) → Rose answers_before answers_now
  pub unserved : IsErrOf result Unserved → Rose answers_before answers_now
  pub together : IsErrOf result Unserved → (replies : ℕ) × (replies ≤ 3) × RoseBy replies answers_before answers_now × RoseBy (3 - replies) faults_before faults_now

-- the drive's log when it was asked for the page
abbrev pub seen : {token : Option (List ℕ)} {after : Option (List Step)} → (old : List Step) → LastPage token old after → List Step
seen old last = old ++ last.heard.part
