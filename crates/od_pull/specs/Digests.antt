-- What a client learns of files whose digest the drive does not give.
use Rattle.std.specs.Prelude.{◌≡◌, ℕ, ◌≤◌, ◌<◌, Bool, List, ◌++◌, map, [], ◌∷◌, Option, Some, None, Result, Ok, Err}
use Rattle.std.specs.List.{AllByRecursion}
use Rattle.gd_item.specs.Answers.{answer_served}
use Rattle.gd_item.specs.Steps.{number_of, state_of}
use Rattle.gd_item.specs.Tags.{etag_text, tag_of}
use Rattle.gd_item.specs.Written.{IsWritten}
use Rattle.gd_item.specs.declared.digest.Digest.{Digest}
use Rattle.gd_item.specs.declared.id.ItemId.{ItemId}
use Rattle.gd_item.specs.declared.item.Item.{Item}
use Rattle.gd_item.specs.declared.item.Tag.{Tag}
use Rattle.gd_item.specs.declared.reply.Reply.{Reply}
use Rattle.gd_item.specs.declared.request.Request.{Request}
use Rattle.gd_item.specs.declared.request.Request.TheVariants.{Content, Download}
use Rattle.gd_item.specs.declared.step.Step.{Step}
use Rattle.od_mirror.specs.Digests.{learned}
use Rattle.od_pages.specs.Pulls.{IsDigestThere}
use Rattle.od_run.specs.Knowing.{Known}
use Rattle.od_run.specs.Worlds.{World, Event, now}
use Rattle.od_outside.specs.Seeing.{Counts}
use Rattle.od_remote.specs.Counting.{Reading}
use Rattle.od_pull.specs.Parts.{IsQuiet}
use Rattle.od_pull.specs.Pulls.{StopCause}
use Rattle.od_pull.specs.declared.learning.Learned.{Learned}
use Rattle.od_pull.specs.declared.stop.PullStop.{PullStop}
use Rattle.od_pull.specs.declared.stop.PullStop.TheVariants as stop

-- ---- a request that only looks
abbrev pub IsLook : Request → Type 0
IsLook (Content at) = Unit {0}
IsLook (Download id version) = Unit {0}
IsLook request = ⊥

abbrev pub HasForm : Request → Known → Type 0
HasForm request k = IsWritten request

-- nothing more is known then, and it stops for want of a reply or of memory alone
abbrev pub StopsStill : PullStop → Known → Known → Type 0
StopsStill stop.LinkFault k next = next ≡ k
StopsStill stop.Memory k next = next ≡ k
StopsStill stop k next = ⊥

abbrev pub StillBy : {T : Type 0} → Result T PullStop → Known → Known → Type 0
StillBy {T} (Ok value) k next = next ≡ k
StillBy {T} (Err stop) k next = StopsStill stop k next

abbrev pub StillCause : {T : Type 0} → Result T PullStop → Reading → Counts → Counts → Type 0
StillCause {T} (Ok value) reads before now = Unit {0}
StillCause {T} (Err stop) reads before now = StopCause stop reads before now

-- the drive's log grows, and a pull goes on over the events
pub record IsStill (w : World) (k : Known) (more : List Event) : Type 0 where
  pub quiet : IsQuiet w k more
  pub part : List Step
  pub grown : (now w more).drive ≡ w.drive ++ part

-- the reply is the drive's at a moment in them
pub record IsReplyTo (request : Request) (reply : Reply) (w : World) (k : Known) (more : List Event) : Type 0 where
  pub still : IsStill w k more
  pub before : List Step
  pub after : List Step
  pub size : ℕ
  pub served : Bool
  pub reply_is : reply ≡ answer_served served (state_of (w.drive ++ before)) size request
  pub grown : (now w more).drive ≡ (w.drive ++ before) ++ after

abbrev pub IsReplyBy : Request → Result Reply PullStop → World → Known → List Event → Type 0
IsReplyBy request (Ok reply) w k more = IsReplyTo request reply w k more
IsReplyBy request (Err stop) w k more = IsStill w k more

-- ---- a digest
-- the eTag is one of a change that a drive had made
pub record IsEarly (first : List Step) (etag : Tag) : Type 0 where
  pub change : ℕ
  pub done : change ≤ number_of first
  pub is : etag ≡ tag_of (etag_text change)

abbrev pub HasNumber : ItemId → Known → Type 0
HasNumber id k = 0 < id.0

-- of each later drive a file that still has the eTag has the digest
abbrev pub IsRightFrom : List Step → ItemId → Tag → Digest → Type 0
IsRightFrom drive id etag digest = (later : List Step) → IsDigestThere (drive ++ later) id etag digest

pub record IsLearned (id : ItemId) (digest : Digest) (w : World) (k : Known) (more : List Event) : Type 0 where
  pub still : IsStill w k more
  pub right : (first part : List Step) (etag : Tag) → w.drive ≡ first ++ part → IsEarly first etag → IsRightFrom (now w more).drive id etag digest

abbrev pub IsLearnedBy : ItemId → Result (Option Digest) PullStop → World → Known → List Event → Type 0
IsLearnedBy id (Ok None) w k more = IsStill w k more
IsLearnedBy id (Ok (Some digest)) w k more = IsLearned id digest w k more
IsLearnedBy id (Err stop) w k more = IsStill w k more

-- ---- of many files
abbrev pub HaveNumbers : List (ItemId × Tag) → Known → Type 0
HaveNumbers bare k = AllByRecursion (λ (file : ItemId × Tag). 0 < file.0.0) bare

abbrev pub IsRight : List Step → Learned → Type 0
IsRight drive one = IsRightFrom drive one.id one.etag one.digest

pub record AreLearned (bare : List (ItemId × Tag)) (learned : List Learned) (w : World) (k : Known) (more : List Event) : Type 0 where
  pub still : IsStill w k more
  pub right : (first part : List Step) → w.drive ≡ first ++ part → AllByRecursion (λ (file : ItemId × Tag). IsEarly first file.1) bare → AllByRecursion (IsRight (now w more).drive) learned

abbrev pub AreLearnedBy : List (ItemId × Tag) → Result (List Learned) PullStop → World → Known → List Event → Type 0
AreLearnedBy bare (Ok all) w k more = AreLearned bare all w k more
AreLearnedBy bare (Err stop) w k more = IsStill w k more

-- the items, one learned digest after the other
abbrev pub with_learned : List Learned → List Item → List Item
with_learned [] items = items
with_learned (one ∷ more) items = with_learned more (map (learned one.id one.etag one.digest) items)
