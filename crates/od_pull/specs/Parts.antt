-- The parts of a pull: one answer, one part of a mirror, and all of them.
use Rattle.std.specs.Prelude.{◌≡◌, ℕ, ◌≤◌, true, false, List, [], ◌∷◌, ◌++◌, Option, Some, None, Result, Ok, Err}
use Rattle.gd_item.specs.Answers.{answer_of}
use Rattle.gd_item.specs.Views.{ItemsAre}
use Rattle.gd_item.specs.declared.reply.Page.{Page}
use Rattle.gd_item.specs.declared.reply.Reply.{Reply}
use Rattle.gd_item.specs.declared.reply.Resync.{Resync}
use Rattle.gd_item.specs.declared.reply.Resync.TheVariants.{ApplyDifferences, UploadDifferences}
use Rattle.gd_item.specs.declared.request.Request.TheVariants.{Delta}
use Rattle.gd_item.specs.declared.step.Step.{Step}
use Rattle.gd_item.specs.declared.step.Step.TheVariants.{Ask}
use Rattle.gd_item.specs.declared.step.Who.TheVariants.{Own}
use Rattle.od_keeper.specs.Images.{empty_image}
use Rattle.od_keeper.specs.declared.fault.KeeperFault.{KeeperFault}
use Rattle.od_keeper.specs.declared.image.Image.{Image}
use Rattle.od_mirror.specs.Pulled.{Pulled, after_page}
use Rattle.od_mirror.specs.declared.mirror.Taken.{Taken}
use Rattle.od_mirror.specs.declared.mirror.Taken.TheVariants.{Last}
use Rattle.od_mirror.specs.declared.view.MirrorView.{MirrorView}
use Rattle.od_pages.specs.Pulls.{IsLastPage, IsPull, IsTokenNow}
use Rattle.od_run.specs.Knowing.{Known, learned, nothing_there, pulled_by, token_after}
use Rattle.od_run.specs.Worlds.{World, Event, now}
use Rattle.od_pull.specs.Pulls.{EmptiesImage, Keeps, is_to_send, told_to_send}
use Rattle.od_pull.specs.declared.stop.PullStop.{PullStop}
use Rattle.od_pull.specs.declared.stop.PullStop.TheVariants as stop

-- the client asks next with this token
pub record AsksNext (token : Option (List ℕ)) (k : Known) : Type 0 where
  pub asks : k.feed.token ≡ token

-- ---- where a part stops
-- what is known then
abbrev pub StoppedBy : PullStop → Known → Known → Type 0
StoppedBy (stop.BadReply bytes) k next = ⊥
StoppedBy stop k next = Keeps k next

-- and of the events: a drive that is told gives pages that make a drive, to a mirror of its items
abbrev pub StopFact : Pulled → PullStop → World → Known → List Event → Type 0
StopFact mirror stop.LinkFault w k more = EmptiesImage w k more
StopFact mirror stop.Unserved w k more = EmptiesImage w k more
StopFact mirror (stop.BadReply bytes) w k more = Unit {0}
StopFact mirror (stop.Refused status code) w k more = IsPull w.drive mirror → ⊥
StopFact mirror (stop.BadPages id) w k more = IsPull w.drive mirror → ⊥
StopFact mirror stop.Endless w k more = EmptiesImage w k more
StopFact mirror stop.KeeperFault w k more = Unit {0}
StopFact mirror stop.Memory w k more = Unit {0}

-- ---- one answer
-- the token of the answer is the next one, and nothing else is known of the drive but by it
pub record HasAnswer (token : Option (List ℕ)) (reply : Reply) (k next : Known) : Type 0 where
  pub begun : next.feed.begun ≡ true
  pub token_is : next.feed.token ≡ token_after token reply
  pub there : next.there ≡ nothing_there
  pub here : next.here ≡ k.here
  pub image : next.image ≡ k.image

abbrev pub AnsweredBy : Option (List ℕ) → Result Reply PullStop → Known → Known → Type 0
AnsweredBy token (Ok reply) k next = HasAnswer token reply k next
AnsweredBy token (Err stop) k next = StoppedBy stop k next

-- the drive's log where it was asked, at the end of the events, and up to where the mirror stays its pull
pub record IsAnswer (mirror : Pulled) (reply : Reply) (w : World) (k : Known) (more : List Event) : Type 0 where
  pub before : List Step
  pub drive : List Step
  pub drive_is : drive ≡ w.drive ++ before
  pub size : ℕ
  pub least : 1 ≤ size
  pub most : size ≤ 200
  pub reply_is : reply ≡ answer_of drive size (Delta mirror.token)
  pub grown : (now w more).drive ≡ drive ++ Ask Own (Delta mirror.token) true true ∷ []
  pub pull : IsPull w.drive mirror → IsPull drive mirror
  pub pulled : (learned w k more).feed.pulled ≡ pulled_by drive reply
  pub told : told_to_send w more ≡ is_to_send reply

abbrev pub IsAnswerBy : Pulled → Result Reply PullStop → World → Known → List Event → Type 0
IsAnswerBy mirror (Ok reply) w k more = IsAnswer mirror reply w k more
IsAnswerBy mirror (Err stop) w k more = StopFact mirror stop w k more

-- ---- beginning anew
pub record HasBegunAnew (k : Known) : Type 0 where
  pub begun : k.feed.begun ≡ true
  pub token_is : k.feed.token ≡ None

abbrev pub image_then : Resync → Image → Image
image_then ApplyDifferences image = image
image_then UploadDifferences image = empty_image

pub record HasImageThen (resync : Resync) (k next : Known) : Type 0 where
  pub image : next.image ≡ image_then resync k.image
  pub feed : next.feed ≡ k.feed
  pub there : next.there ≡ k.there
  pub here : next.here ≡ k.here

abbrev pub BeganBy : Resync → Result (Unit {0}) KeeperFault → Known → Known → Type 0
BeganBy resync (Ok done) k next = HasImageThen resync k next
BeganBy resync (Err fault) k next = next ≡ k

-- a pull goes on over the events, and the drive does not say in them that the client send what it has
pub record IsQuiet (w : World) (k : Known) (more : List Event) : Type 0 where
  pub pull : (mirror : Pulled) → IsPull w.drive mirror → IsPull (now w more).drive mirror
  pub told : told_to_send w more ≡ false

-- ---- one part of the mirror
pub record IsUnderway (mirror : Pulled) (k next : Known) : Type 0 where
  pub token_is : next.feed.token ≡ mirror.token
  pub keeps : Keeps k next

pub record Underway (before mirror : Pulled) (w : World) (k : Known) (more : List Event) : Type 0 where
  pub pull : IsPull w.drive before → IsPull (now w more).drive mirror
  pub image : EmptiesImage w k more

-- the last page was taken, of the drive as it was asked last
pub record HasEnded (mirror : Pulled) (w : World) (next : Known) : Type 0 where
  pub part : List Step
  pub drive : List Step
  pub grown : drive ≡ w.drive ++ part
  pub drive_is : next.feed.pulled ≡ Some drive
  pub before : Pulled
  pub pull : IsPull drive before
  pub page : Page
  pub last : IsLastPage drive before.token page
  pub mirror_is : mirror ≡ after_page before page

pub record IsTaken (mirror : Pulled) (k next : Known) : Type 0 where
  pub underway : IsUnderway mirror k next
  pub there : next.there ≡ nothing_there

abbrev pub TakesBy : {T : Type 0} → Pulled → Result T PullStop → Known → Known → Type 0
TakesBy {T} mirror (Ok value) k next = IsTaken mirror k next
TakesBy {T} mirror (Err stop) k next = StoppedBy stop k next

pub record Took (before mirror : Pulled) (taken : Taken) (w : World) (k : Known) (more : List Event) : Type 0 where
  pub underway : Underway before mirror w k more
  pub last : taken ≡ Last → IsPull w.drive before → HasEnded mirror w (learned w k more)

abbrev pub TookOne : Pulled → Pulled → Result Taken PullStop → World → Known → List Event → Type 0
TookOne before mirror (Ok taken) w k more = Took before mirror taken w k more
TookOne before mirror (Err stop) w k more = StopFact before stop w k more

-- ---- all of them
abbrev pub TookAll : Pulled → Pulled → Result (Unit {0}) PullStop → World → Known → List Event → Type 0
TookAll before mirror (Ok done) w k more = Took before mirror Last w k more
TookAll before mirror (Err stop) w k more = StopFact before stop w k more

-- ---- and what they make
-- the items are those of the drive as it was asked last
pub record IsViewNow (view : MirrorView) (w : World) (next : Known) : Type 0 where
  pub part : List Step
  pub drive : List Step
  pub grown : drive ≡ w.drive ++ part
  pub drive_is : next.feed.pulled ≡ Some drive
  pub token_is : next.feed.token ≡ Some view.token
  pub sound : ItemsAre view.items drive (Some view.token)
  pub now_is : IsTokenNow drive view.token

pub record KeepsView (k next : Known) : Type 0 where
  pub keeps : Keeps k next
  pub there : next.there ≡ nothing_there

abbrev pub ViewsBy : Result MirrorView PullStop → Known → Known → Type 0
ViewsBy (Ok view) k next = KeepsView k next
ViewsBy (Err stop) k next = StoppedBy stop k next

pub record ViewsNow (mirror : Pulled) (view : MirrorView) (w : World) (k : Known) (more : List Event) : Type 0 where
  pub view_is : IsPull w.drive mirror → IsViewNow view w (learned w k more)
  pub image : EmptiesImage w k more

abbrev pub ViewFact : Pulled → Result MirrorView PullStop → World → Known → List Event → Type 0
ViewFact mirror (Ok view) w k more = ViewsNow mirror view w k more
ViewFact mirror (Err stop) w k more = StopFact mirror stop w k more
