use Rattle.std.proofs.Common.{[], ◌∷◌, refl}
use Rattle.gd_item.specs.declared.fault.ErrorCode.TheVariants.{ItemNotFound}
use Rattle.gd_item.specs.declared.reply.Reply.TheVariants as reply
use Rattle.od_job.proofs.Leading.{lead, start}
use Rattle.od_job.specs.Examples.{failed, finished, got, open_new, part_at, send_new, status_asked}
use Rattle.od_job.specs.declared.job.Outcome.TheVariants.{Lost}
use Rattle.od_job.specs.declared.stage.Stage.TheVariants.{Opening, Opened, AskStatus, Finishing, AskTotal}
use Rattle.od_job.specs.declared.transfer.Next.TheVariants.{Ends, Goes}
use Rattle.od_job.proofs.instances.a_gone_session_is_lost.Goals as goal

pub returns-clause-fragment : goal.returns-clause-fragment
returns-clause-fragment c = λ bytes long.
    start (send_new bytes) (record { stage = Opening; row = 0; failures = 0 }) (got open_new (reply.Session 7 0) ∷ failed (part_at 0 bytes) ∷ got status_asked (reply.Refused 404 ItemNotFound) ∷ []) (Ends (Lost)) (rw long refl)
    (lead (send_new bytes) (record { stage = Opening; row = 0; failures = 0 }) (got open_new (reply.Session 7 0)) (failed (part_at 0 bytes) ∷ got status_asked (reply.Refused 404 ItemNotFound) ∷ []) (Goes (record { stage = Opened 7 0; row = 0; failures = 0 })) (Ends (Lost)) refl refl
    (lead (send_new bytes) (record { stage = Opened 7 0; row = 0; failures = 0 }) (failed (part_at 0 bytes)) (got status_asked (reply.Refused 404 ItemNotFound) ∷ []) (Goes (record { stage = AskStatus 7 0; row = 1; failures = 1 })) (Ends (Lost)) refl refl
    (lead (send_new bytes) (record { stage = AskStatus 7 0; row = 1; failures = 1 }) (got status_asked (reply.Refused 404 ItemNotFound)) ([]) (Ends (Lost)) (Ends (Lost)) refl refl
    refl)))

pub returns-clause-finish : goal.returns-clause-finish
returns-clause-finish c = λ bytes long.
    start (send_new bytes) (record { stage = Opening; row = 0; failures = 0 }) (got open_new (reply.Session 7 0) ∷ got (part_at 0 bytes) (reply.More 500000) ∷ failed finished ∷ got status_asked (reply.Refused 404 ItemNotFound) ∷ []) (Ends (Lost)) (rw long refl)
    (lead (send_new bytes) (record { stage = Opening; row = 0; failures = 0 }) (got open_new (reply.Session 7 0)) (got (part_at 0 bytes) (reply.More 500000) ∷ failed finished ∷ got status_asked (reply.Refused 404 ItemNotFound) ∷ []) (Goes (record { stage = Opened 7 0; row = 0; failures = 0 })) (Ends (Lost)) refl refl
    (lead (send_new bytes) (record { stage = Opened 7 0; row = 0; failures = 0 }) (got (part_at 0 bytes) (reply.More 500000)) (failed finished ∷ got status_asked (reply.Refused 404 ItemNotFound) ∷ []) (Goes (record { stage = Finishing 7; row = 0; failures = 0 })) (Ends (Lost)) refl (rw long refl)
    (lead (send_new bytes) (record { stage = Finishing 7; row = 0; failures = 0 }) (failed finished) (got status_asked (reply.Refused 404 ItemNotFound) ∷ []) (Goes (record { stage = AskTotal 7; row = 1; failures = 1 })) (Ends (Lost)) refl refl
    (lead (send_new bytes) (record { stage = AskTotal 7; row = 1; failures = 1 }) (got status_asked (reply.Refused 404 ItemNotFound)) ([]) (Ends (Lost)) (Ends (Lost)) refl refl
    refl))))
