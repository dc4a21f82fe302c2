use Rattle.std.proofs.Common.{[], ◌∷◌, refl}
use Rattle.gd_item.specs.declared.fault.ErrorCode.TheVariants.{QuotaLimitReached}
use Rattle.gd_item.specs.declared.reply.Reply.TheVariants as reply
use Rattle.od_job.proofs.Leading.{lead, start}
use Rattle.od_job.specs.Examples.{cancelled, failed, finished, got, open_new, part_at, send_new}
use Rattle.od_job.specs.declared.job.Outcome.TheVariants.{Accepted, Refused, Lost}
use Rattle.od_job.specs.declared.stage.Stage.TheVariants.{Opening, Opened, Finishing, Cancelling}
use Rattle.od_job.specs.declared.stage.Why.TheVariants as why
use Rattle.od_job.specs.declared.transfer.Next.TheVariants.{Ends, Goes}
use Rattle.od_job.proofs.instances.a_long_file_is_sent.Goals as goal

pub returns-clause-accepted : goal.returns-clause-accepted
returns-clause-accepted c = λ bytes item long.
    start (send_new bytes) (record { stage = Opening; row = 0; failures = 0 }) (got open_new (reply.Session 7 0) ∷ got (part_at 0 bytes) (reply.More 655360) ∷ got (part_at 655360 bytes) (reply.More 1000000) ∷ got finished (reply.Made item) ∷ []) (Ends (Accepted item)) (rw long refl)
    (lead (send_new bytes) (record { stage = Opening; row = 0; failures = 0 }) (got open_new (reply.Session 7 0)) (got (part_at 0 bytes) (reply.More 655360) ∷ got (part_at 655360 bytes) (reply.More 1000000) ∷ got finished (reply.Made item) ∷ []) (Goes (record { stage = Opened 7 0; row = 0; failures = 0 })) (Ends (Accepted item)) refl refl
    (lead (send_new bytes) (record { stage = Opened 7 0; row = 0; failures = 0 }) (got (part_at 0 bytes) (reply.More 655360)) (got (part_at 655360 bytes) (reply.More 1000000) ∷ got finished (reply.Made item) ∷ []) (Goes (record { stage = Opened 7 655360; row = 0; failures = 0 })) (Ends (Accepted item)) refl (rw long refl)
    (lead (send_new bytes) (record { stage = Opened 7 655360; row = 0; failures = 0 }) (got (part_at 655360 bytes) (reply.More 1000000)) (got finished (reply.Made item) ∷ []) (Goes (record { stage = Finishing 7; row = 0; failures = 0 })) (Ends (Accepted item)) refl (rw long refl)
    (lead (send_new bytes) (record { stage = Finishing 7; row = 0; failures = 0 }) (got finished (reply.Made item)) ([]) (Ends (Accepted item)) (Ends (Accepted item)) refl refl
    refl))))

pub returns-clause-refused : goal.returns-clause-refused
returns-clause-refused c = λ bytes long.
    start (send_new bytes) (record { stage = Opening; row = 0; failures = 0 }) (got open_new (reply.Session 7 0) ∷ got (part_at 0 bytes) (reply.Refused 507 QuotaLimitReached) ∷ failed cancelled ∷ []) (Ends (Refused QuotaLimitReached)) (rw long refl)
    (lead (send_new bytes) (record { stage = Opening; row = 0; failures = 0 }) (got open_new (reply.Session 7 0)) (got (part_at 0 bytes) (reply.Refused 507 QuotaLimitReached) ∷ failed cancelled ∷ []) (Goes (record { stage = Opened 7 0; row = 0; failures = 0 })) (Ends (Refused QuotaLimitReached)) refl refl
    (lead (send_new bytes) (record { stage = Opened 7 0; row = 0; failures = 0 }) (got (part_at 0 bytes) (reply.Refused 507 QuotaLimitReached)) (failed cancelled ∷ []) (Goes (record { stage = Cancelling 7 (why.Refused QuotaLimitReached); row = 0; failures = 0 })) (Ends (Refused QuotaLimitReached)) refl refl
    (lead (send_new bytes) (record { stage = Cancelling 7 (why.Refused QuotaLimitReached); row = 0; failures = 0 }) (failed cancelled) ([]) (Ends (Refused QuotaLimitReached)) (Ends (Refused QuotaLimitReached)) refl refl
    refl)))

pub returns-clause-lost : goal.returns-clause-lost
returns-clause-lost c = λ bytes long.
    start (send_new bytes) (record { stage = Opening; row = 0; failures = 0 }) (failed open_new ∷ []) (Ends (Lost)) (rw long refl)
    (lead (send_new bytes) (record { stage = Opening; row = 0; failures = 0 }) (failed open_new) ([]) (Ends (Lost)) (Ends (Lost)) refl refl
    refl)
