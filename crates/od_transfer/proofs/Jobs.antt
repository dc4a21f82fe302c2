-- Jobs whose requests have a written form ask for bytes alone.
use Rattle.std.proofs.Common.{◌≡◌, ℕ, ◌<◌, inl, inr, Bool, true, false, List, ◌++◌, Option, Some, None, refl, ap, sym, ◌∙◌, subst, arith}
use Rattle.std.specs.List.{All, Contains}
use Rattle.gd_item.specs.Answers.{about, answer_served, answer_unless, content_reply, found_reply, shown}
use Rattle.gd_item.specs.Ids.{item_id}
use Rattle.gd_item.specs.Inventory.{live_at}
use Rattle.gd_item.specs.Refused.{Refusal, refusal}
use Rattle.gd_item.specs.Steps.{state_of, held_by}
use Rattle.gd_item.specs.Targets.{target_of}
use Rattle.gd_item.specs.declared.id.ItemId.{ItemId}
use Rattle.gd_item.specs.declared.live.LiveItem.{LiveItem}
use Rattle.gd_item.specs.declared.reply.Reply.TheVariants as reply
use Rattle.gd_item.specs.declared.request.Address.TheVariants.{Id}
use Rattle.gd_item.specs.declared.request.Request.{Request}
use Rattle.gd_item.specs.declared.request.Request.TheVariants.{Content, Download}
use Rattle.gd_item.specs.declared.step.Step.{Step}
use Rattle.od_transfer.specs.Asking.{OwnAre}
use Rattle.od_transfer.specs.Explained.{WasHeard, IsOfJob, IsOfJobs}
use Rattle.od_transfer.specs.Fits.{IsTransfer, IsWrittenJob, is_transfer}
use Rattle.od_transfer.specs.declared.job.Job.{Job}
use Rattle.od_transfer.specs.declared.job.Job.TheVariants.{Fetch}
use Rattle.od_transfer.proofs.Alone.{found-item}
use Rattle.od_transfer.proofs.Logs.{such-also}

-- ---- where a drive says that bytes are to be had, the id is above 0
module _ (log : List Step) (size : ℕ) (found : ItemId) (version : ℕ) where
  found-of : (number : ℕ) (item : Option LiveItem) → live_at number (held_by log).items ≡ item → reply.Found found version ≡ about found_reply item → 0 < found.0
  found-of number None there is = absurd (cc is)
  found-of number (Some item) there is =
      let same : found ≡ item_id item.number = cc is in
      let there_is = found-item log number item there in
      subst (λ (id : ItemId). 0 < id.0) (sym same) (omega (arith, there_is.same, there_is.above))

  target-of : (target : Option ℕ) → reply.Found found version ≡ about (content_reply (held_by log)) target → 0 < found.0
  target-of None is = absurd (cc is)
  target-of (Some number) is = found-of number (live_at number (held_by log).items) refl is

  unless-of : (id : ItemId) (cause : Option Refusal) → reply.Found found version ≡ answer_unless cause (state_of log) size (Content (Id id)) → 0 < found.0
  unless-of id None is = target-of (target_of (held_by log) (Id id)) is
  unless-of id (Some cause) is = absurd (cc is)

  served-of : (id : ItemId) (served : Bool) → (state_of log).plain ≡ false → reply.Found found version ≡ answer_served served (state_of log) size (Content (Id id)) → 0 < found.0
  served-of id false plain is = absurd (cc is)
  served-of id true plain is =
      unless-of id (refusal (state_of log) (Content (Id id)))
      (is ∙ ap (λ b. shown b (answer_unless (refusal (state_of log) (Content (Id id))) (state_of log) size (Content (Id id)))) plain)

found-written : (id found : ItemId) (version : ℕ) (old part : List Step) → 0 < id.0 → WasHeard (Content (Id id)) old part (reply.Found found version) → 0 < found.0
found-written id found version old part written h =
    served-of (old ++ h.before) h.answers.size found version id h.served h.answers.not_plain
    (h.answers.reply_is ∙ ap (λ (sent : Request). answer_served h.served (state_of (old ++ h.before)) h.answers.size sent) (h.answers.sent_as written))

-- ---- so each request is one of a transfer
job-transfers : (job : Job) (old part : List Step) (sent : Request) (served heard : Bool) → IsWrittenJob job → IsOfJob job old part sent served heard → is_transfer sent ≡ true
job-transfers (Fetch id digest size) old part sent served heard written (inl said) = ap is_transfer (said written)
job-transfers (Fetch id digest size) old part sent served heard written (inr d) = ap is_transfer (d.sent_as (found-written id d.found d.version old part written d.named))

contained : {X : Type 0} (P : X → Type 0) (xs : List X) (x : X) → All P xs → Contains xs x → P x
contained P xs x all there = subst P there.2 (all there.0 x there.1)

pub jobs_transfers : (jobs : List Job) (old part : List Step) → All IsWrittenJob jobs → OwnAre (IsOfJobs jobs old part) part → OwnAre IsTransfer part
jobs_transfers jobs old part written such =
    such-also (IsOfJobs jobs old part) IsTransfer
    (λ sent served heard asked. job-transfers asked.job old part sent served heard (contained IsWrittenJob jobs asked.job written asked.there) asked.asks) part such
