-- What a pull says: of what is known then, of the events, and of what is counted.
use Rattle.std.specs.Prelude.{◌≡◌, ◌⊎◌, ℕ, ◌-◌, ◌<◌, ◌≤◌, Bool, true, false, ◌||◌, cond, List, [], ◌∷◌, Option, Some, Result, Ok, Err}
use Rattle.gd_names.specs.Streams.{Rose}
use Rattle.gd_item.specs.Answers.{answer_of}
use Rattle.gd_item.specs.Records.{records_of}
use Rattle.gd_item.specs.Steps.{held_by, state_of}
use Rattle.gd_item.specs.Views.{AreItemsOf}
use Rattle.gd_item.specs.declared.item.Item.{Item}
use Rattle.gd_item.specs.declared.reply.Reply.{Reply}
use Rattle.gd_item.specs.declared.reply.Reply.TheVariants as reply
use Rattle.gd_item.specs.declared.reply.Resync.TheVariants.{ApplyDifferences, UploadDifferences}
use Rattle.gd_item.specs.declared.request.Request.{Request}
use Rattle.gd_item.specs.declared.request.Request.TheVariants.{Delta}
use Rattle.gd_item.specs.declared.step.Step.{Step}
use Rattle.gd_item.specs.declared.step.Step.TheVariants.{Ask}
use Rattle.gd_item.specs.declared.step.Who.TheVariants.{Own}
use Rattle.od_keeper.specs.Images.{empty_image}
use Rattle.od_mirror.specs.declared.view.MirrorView.{MirrorView}
use Rattle.od_outside.specs.Seeing.{Counts}
use Rattle.od_remote.specs.Counting.{AskCounts, Misread, Reading, RoseBy}
use Rattle.od_run.specs.Knowing.{Known, learned, nothing_there}
use Rattle.od_run.specs.Worlds.{World, Event, Asked, Worked, Kept, happens}
use Rattle.od_pull.specs.declared.stop.PullStop.{PullStop}
use Rattle.od_pull.specs.declared.stop.PullStop.TheVariants as stop

-- a pull begins with the items and the token of the last image, and with that token the client asks next
pub record BeginsPull (items : List Item) (token : Option (List ℕ)) (k : Known) : Type 0 where
  pub items_are : items ≡ k.image.items
  pub token_is : token ≡ k.image.token
  pub asks : k.feed.token ≡ token

-- ---- what is known then
-- the view has the items of the drive as it was asked last, and its token is the one with which the client asks next
pub record IsPulledView (view : MirrorView) (next : Known) : Type 0 where
  pub drive : List Step
  pub drive_is : next.feed.pulled ≡ Some drive
  pub token_is : next.feed.token ≡ Some view.token
  pub items : AreItemsOf (state_of drive).plain view.items (records_of (held_by drive))
  pub there : next.there ≡ nothing_there

-- what is known of the folder stays, and the image stays or is emptied
pub record Keeps (k next : Known) : Type 0 where
  pub here : next.here ≡ k.here
  pub image : (next.image ≡ k.image) ⊎ (next.image ≡ empty_image)

-- a drive that is told never answers with other bytes, with a refusal, or with pages that make no drive
abbrev pub PulledBy : Result MirrorView PullStop → Known → Known → Type 0
PulledBy (Ok view) k next = IsPulledView view next × Keeps k next
PulledBy (Err stop.LinkFault) k next = Keeps k next
PulledBy (Err stop.Unserved) k next = Keeps k next
PulledBy (Err (stop.BadReply bytes)) k next = ⊥
PulledBy (Err (stop.Refused status code)) k next = ⊥
PulledBy (Err (stop.BadPages id)) k next = ⊥
PulledBy (Err stop.Endless) k next = Keeps k next
PulledBy (Err stop.KeeperFault) k next = Keeps k next
PulledBy (Err stop.Memory) k next = Keeps k next

-- ---- the image
-- whether a reply says that the client send what it has, and begin anew
abbrev pub is_to_send : Reply → Bool
is_to_send (reply.Gone ApplyDifferences) = false
is_to_send (reply.Gone UploadDifferences) = true
is_to_send other = false

-- whether the drive so answered a request of this client for changes, and was heard
abbrev pub says_to_send : List Step → ℕ → Step → Bool
says_to_send drive size (Ask Own (Delta token) true true) = is_to_send (answer_of drive size (Delta token))
says_to_send drive size step = false

abbrev pub told_in : World → Event → Bool
told_in w (Asked size step) = says_to_send w.drive size step
told_in w (Worked step) = false
told_in w (Kept image) = false

abbrev pub told_to_send : World → List Event → Bool
told_to_send w [] = false
told_to_send w (event ∷ events) = told_in w event || told_to_send (happens w event) events

-- the image is emptied where the drive so answered, and only there
pub record EmptiesImage (w : World) (k : Known) (more : List Event) : Type 0 where
  pub image : (learned w k more).image ≡ cond (told_to_send w more) empty_image k.image

abbrev pub BaseBy : Result MirrorView PullStop → World → Known → List Event → Type 0
BaseBy (Ok view) w k more = EmptiesImage w k more
BaseBy (Err stop.LinkFault) w k more = EmptiesImage w k more
BaseBy (Err stop.Unserved) w k more = EmptiesImage w k more
BaseBy (Err (stop.BadReply bytes)) w k more = Unit {0}
BaseBy (Err (stop.Refused status code)) w k more = Unit {0}
BaseBy (Err (stop.BadPages id)) w k more = Unit {0}
BaseBy (Err stop.Endless) w k more = EmptiesImage w k more
BaseBy (Err stop.KeeperFault) w k more = Unit {0}
BaseBy (Err stop.Memory) w k more = Unit {0}

-- ---- what is counted
-- three sends had no reply, and none came since
pub record AreLost (before now : AskCounts) : Type 0 where
  pub faults : RoseBy 3 before.faults now.faults
  pub in_row : 3 ≤ now.in_row

-- some of three sends had a reply, and the others had none
pub record AreUnserved (before now : AskCounts) : Type 0 where
  pub replies : ℕ
  pub some : 0 < replies
  pub few : replies ≤ 3
  pub answers : RoseBy replies before.answers now.answers
  pub faults : RoseBy (3 - replies) before.faults now.faults

-- bytes came that are no reply of a request's kind
pub record CameBad (bytes : List ℕ) (reads : Reading) (now : AskCounts) : Type 0 where
  pub request : Request
  pub before : AskCounts
  pub came : Misread reads request bytes before now

abbrev pub StopCause : PullStop → Reading → Counts → Counts → Type 0
StopCause stop.LinkFault reads before now = AreLost before.link now.link
StopCause stop.Unserved reads before now = AreUnserved before.link now.link
StopCause (stop.BadReply bytes) reads before now = CameBad bytes reads now.link
StopCause (stop.Refused status code) reads before now = RoseBy 1 before.link.answers now.link.answers
StopCause (stop.BadPages id) reads before now = RoseBy 1 before.link.answers now.link.answers
StopCause stop.Endless reads before now = RoseBy 4096 before.link.answers now.link.answers
StopCause stop.KeeperFault reads before now = Rose before.keeper now.keeper
StopCause stop.Memory reads before now = Unit {0}

abbrev pub PullCause : {T : Type 0} → Result T PullStop → Reading → Counts → Counts → Type 0
PullCause {T} (Ok value) reads before now = RoseBy 1 before.link.answers now.link.answers
PullCause {T} (Err stop) reads before now = StopCause stop reads before now
