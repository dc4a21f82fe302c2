-- The jobs of a carrier, and what may come of them.
use Rattle.std.specs.Prelude.{◌≡◌, ℕ, ◌≤◌, Bool, true, false, not, cond, nat_eq, List, Option, Some, None, Result, Ok, Err, IfOk}
use Rattle.std.specs.List.{count_by}
use Rattle.std.specs.Cmp.Lexicographic.{pointwise}
use Rattle.gd_names.specs.Streams.{Rose}
use Rattle.gd_item.specs.Records.{digest_record}
use Rattle.gd_item.specs.Written.{IsWrittenId}
use Rattle.gd_item.specs.declared.digest.Digest.{Digest}
use Rattle.gd_item.specs.declared.fault.ErrorCode.{ErrorCode}
use Rattle.gd_item.specs.declared.id.ItemId.{ItemId}
use Rattle.gd_item.specs.declared.reply.Reply.{Reply}
use Rattle.gd_item.specs.declared.reply.Reply.TheVariants as reply
use Rattle.gd_item.specs.declared.request.Request.{Request}
use Rattle.gd_item.specs.declared.request.Request.TheVariants.{Content, Download}
use Rattle.od_transfer.specs.Asking.{RoseBy}
use Rattle.od_transfer.specs.declared.job.Job.{Job}
use Rattle.od_transfer.specs.declared.job.Job.TheVariants.{Fetch}
use Rattle.od_transfer.specs.declared.job.Outcome.{Outcome}
use Rattle.od_transfer.specs.declared.job.Outcome.TheVariants.{Fetched, Changed, Refused, Lost}

-- the bytes that were fetched have the job's digest
abbrev pub HasDigest : Digest → Outcome → Type 0
HasDigest digest (Fetched bytes) = digest_record bytes ≡ digest
HasDigest digest Changed = Unit {0}
HasDigest digest (Refused code) = Unit {0}
HasDigest digest Lost = Unit {0}

abbrev pub Fits : Job → Outcome → Type 0
Fits (Fetch id digest size) outcome = HasDigest digest outcome

-- a job whose requests have a written form
abbrev pub IsWrittenJob : Job → Type 0
IsWrittenJob (Fetch id digest size) = IsWrittenId id

-- the kinds of request that fetches ask
abbrev pub is_transfer : Request → Bool
is_transfer (Content at) = true
is_transfer (Download id version) = true
is_transfer request = false

abbrev pub IsTransfer : Request → Bool → Bool → Type 0
IsTransfer request served heard = is_transfer request ≡ true

abbrev pub is_lost : Outcome → Bool
is_lost (Fetched bytes) = false
is_lost Changed = false
is_lost (Refused code) = false
is_lost Lost = true

-- what comes of a fetch with these bytes
abbrev pub is_digest : Digest → Digest → Bool
is_digest a b = pointwise nat_eq a.0 b.0

abbrev pub fetched : Digest → List ℕ → Outcome
fetched digest bytes = cond (is_digest (digest_record bytes) digest) (Fetched bytes) Changed

-- the counts never fall. What is lost raised that of faults, and any other outcome that of answers
pub record HasFetchCause (faults_before faults_now answers_before answers_now : ℕ) {E : Type 0} (result : Result Outcome E) : Type 0 where
  pub faults_later : faults_before ≤ faults_now
  pub answers_later : answers_before ≤ answers_now
  pub lost : IfOk result (λ outcome. is_lost outcome ≡ true → Rose faults_before faults_now)
  pub answered : IfOk result (λ outcome. is_lost outcome ≡ false → Rose answers_before answers_now)

-- the same of as many outcomes as there are: as many are lost at most as the count of faults rose by, and as many others as
-- that of answers
pub record HasCarryCause (faults_before faults_now answers_before answers_now : ℕ) {E : Type 0} (result : Result (List Outcome) E) : Type 0 where
  pub faults_later : faults_before ≤ faults_now
  pub answers_later : answers_before ≤ answers_now
  pub lost : IfOk result (λ outcomes. RoseBy (count_by is_lost outcomes) faults_before faults_now)
  pub others : IfOk result (λ outcomes. RoseBy (count_by (λ outcome. not (is_lost outcome)) outcomes) answers_before answers_now)

-- what replies to the two requests of a fetch say
abbrev pub content_in : Reply → Option (Result (List ℕ) ErrorCode)
content_in (reply.Content bytes) = Some (Ok bytes)
content_in (reply.Refused status code) = Some (Err code)
content_in reply = None

abbrev pub found_in : Reply → Option (Result (ItemId × ℕ) ErrorCode)
found_in (reply.Found id version) = Some (Ok (id, version))
found_in (reply.Refused status code) = Some (Err code)
found_in reply = None

abbrev pub downloaded : Digest → Option (Result (List ℕ) ErrorCode) → Option Outcome
downloaded digest None = None
downloaded digest (Some (Ok bytes)) = Some (fetched digest bytes)
downloaded digest (Some (Err code)) = Some (Refused code)
