-- Why a job ended as it did, where the drive's log is told: requests of the job were heard, and their replies say so.
use Rattle.std.specs.Prelude.{◌≡◌, ◌⊎◌, ℕ, true, false, List, ◌∷◌, ◌++◌, Option, Some, Bool, Result, IfOk}
use Rattle.std.specs.List.{AllZip, Contains}
use Rattle.gd_item.specs.Records.{digest_record}
use Rattle.gd_item.specs.declared.digest.Digest.{Digest}
use Rattle.gd_item.specs.declared.fault.ErrorCode.{ErrorCode}
use Rattle.gd_item.specs.declared.id.ItemId.{ItemId}
use Rattle.gd_item.specs.declared.reply.Reply.{Reply}
use Rattle.gd_item.specs.declared.reply.Reply.TheVariants as reply
use Rattle.gd_item.specs.declared.request.Address.TheVariants.{Id}
use Rattle.gd_item.specs.declared.request.Request.{Request}
use Rattle.gd_item.specs.declared.request.Request.TheVariants.{Content, Download}
use Rattle.gd_item.specs.declared.step.Step.{Step}
use Rattle.gd_item.specs.declared.step.Step.TheVariants.{Ask}
use Rattle.gd_item.specs.declared.step.Who.TheVariants.{Own}
use Rattle.od_transfer.specs.Asking.{OwnAre, IsSentAs, Answers}
use Rattle.od_transfer.specs.Fits.{is_digest}
use Rattle.od_transfer.specs.declared.job.Job.{Job}
use Rattle.od_transfer.specs.declared.job.Job.TheVariants.{Fetch}
use Rattle.od_transfer.specs.declared.job.Outcome.{Outcome}
use Rattle.od_transfer.specs.declared.job.Outcome.TheVariants.{Fetched, Changed, Refused, Lost}

-- a request of this client, among the steps that came after a log, that was answered so and heard
pub record WasHeard (request : Request) (old part : List Step) (reply : Reply) : Type 0 where
  pub before : List Step
  pub rest : List Step
  pub sent : Request
  pub served : Bool
  pub split : part ≡ before ++ Ask Own sent served true ∷ rest
  pub answers : Answers request sent served (old ++ before) reply

-- the drive said where the bytes are to be had, and gave them
pub record Brought (id : ItemId) (old part : List Step) (bytes : List ℕ) : Type 0 where
  pub found : ItemId
  pub version : ℕ
  pub said : WasHeard (Content (Id id)) old part (reply.Found found version)
  pub gave : WasHeard (Download found version) old part (reply.Content bytes)

-- the drive refused to say where the bytes are to be had, or to give them
pub record DeniedThen (id : ItemId) (old part : List Step) (status : ℕ) (code : ErrorCode) : Type 0 where
  pub found : ItemId
  pub version : ℕ
  pub said : WasHeard (Content (Id id)) old part (reply.Found found version)
  pub refused : WasHeard (Download found version) old part (reply.Refused status code)

pub record Denied (id : ItemId) (old part : List Step) (code : ErrorCode) : Type 0 where
  pub status : ℕ
  pub denied : WasHeard (Content (Id id)) old part (reply.Refused status code) ⊎ DeniedThen id old part status code

-- other bytes than those of the digest came
pub record BroughtOthers (id : ItemId) (digest : Digest) (old part : List Step) : Type 0 where
  pub bytes : List ℕ
  pub brought : Brought id old part bytes
  pub others : is_digest (digest_record bytes) digest ≡ false

abbrev pub IsFetchExplained : List Step → List Step → ItemId → Digest → Outcome → Type 0
IsFetchExplained old part id digest (Fetched bytes) = Brought id old part bytes
IsFetchExplained old part id digest Changed = BroughtOthers id digest old part
IsFetchExplained old part id digest (Refused code) = Denied id old part code
IsFetchExplained old part id digest Lost = Unit {0}

abbrev pub IsExplained : List Step → List Step → Job → Outcome → Type 0
IsExplained old part (Fetch id digest size) outcome = IsFetchExplained old part id digest outcome

-- the requests that a job asks: where the bytes of its item are to be had, and then for those of a version that a heard reply
-- named
pub record IsDownload (id : ItemId) (old part : List Step) (sent : Request) : Type 0 where
  pub found : ItemId
  pub version : ℕ
  pub named : WasHeard (Content (Id id)) old part (reply.Found found version)
  pub sent_as : IsSentAs (Download found version) sent

abbrev pub IsOfFetch : ItemId → List Step → List Step → Request → Bool → Bool → Type 0
IsOfFetch id old part sent served heard = IsSentAs (Content (Id id)) sent ⊎ IsDownload id old part sent

abbrev pub IsOfJob : Job → List Step → List Step → Request → Bool → Bool → Type 0
IsOfJob (Fetch id digest size) old part sent served heard = IsOfFetch id old part sent served heard

pub record IsOfJobs (jobs : List Job) (old part : List Step) (sent : Request) (served heard : Bool) : Type 0 where
  pub job : Job
  pub there : Contains jobs job
  pub asks : IsOfJob job old part sent served heard

-- one request, sent once or again
abbrev pub IsSendOf : Request → List Step → List Step → Request → Bool → Bool → Type 0
IsSendOf request old part sent served heard = IsSentAs request sent

-- the log grows by requests of this client that are such, and of what it grows by this holds
pub record GrownSo (Such : List Step → List Step → Request → Bool → Bool → Type 0) (Holds : List Step → List Step → Type 0) (old : List Step) (after : Option (List Step)) : Type 0 where
  pub part : List Step
  pub such : OwnAre (Such old part) part
  pub grown : after ≡ Some (old ++ part)
  pub holds : Holds old part

pub record GrowsSo (Such : List Step → List Step → Request → Bool → Bool → Type 0) (Holds : List Step → List Step → Type 0) (before after : Option (List Step)) : Type 0 where
  pub told : (old : List Step) → before ≡ Some old → GrownSo Such Holds old after

-- the log grows by requests that the jobs ask, and these explain the outcomes
abbrev pub AreExplained : {E : Type 0} → List Job → Result (List Outcome) E → List Step → List Step → Type 0
AreExplained jobs result old part = IfOk result (λ outcomes. AllZip (IsExplained old part) jobs outcomes)

abbrev pub Carries : {E : Type 0} → List Job → Option (List Step) → Option (List Step) → Result (List Outcome) E → Type 0
Carries jobs before after result = GrowsSo (IsOfJobs jobs) (AreExplained jobs result) before after

-- why a download of a version ended as it did
pub record GaveOthers (found : ItemId) (version : ℕ) (digest : Digest) (old part : List Step) : Type 0 where
  pub bytes : List ℕ
  pub gave : WasHeard (Download found version) old part (reply.Content bytes)
  pub others : is_digest (digest_record bytes) digest ≡ false

pub record GaveNone (found : ItemId) (version : ℕ) (old part : List Step) (code : ErrorCode) : Type 0 where
  pub status : ℕ
  pub refused : WasHeard (Download found version) old part (reply.Refused status code)

abbrev pub IsDownloadExplained : List Step → List Step → ItemId → ℕ → Digest → Outcome → Type 0
IsDownloadExplained old part found version digest (Fetched bytes) = WasHeard (Download found version) old part (reply.Content bytes)
IsDownloadExplained old part found version digest Changed = GaveOthers found version digest old part
IsDownloadExplained old part found version digest (Refused code) = GaveNone found version old part code
IsDownloadExplained old part found version digest Lost = Unit {0}
