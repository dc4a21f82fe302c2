use Rattle.std.proofs.Common.{[], ◌∷◌, refl}
use Rattle.gd_item.specs.declared.reply.Reply.TheVariants as reply
use Rattle.od_job.proofs.Leading.{lead, start}
use Rattle.od_job.specs.Examples.{cancelled, failed, finished, got, open_new, part_at, send_new, status_asked}
use Rattle.od_job.specs.declared.job.Outcome.TheVariants.{Accepted, Lost}
use Rattle.od_job.specs.declared.stage.Stage.TheVariants.{Opening, Opened, AskStatus, Finishing, AskTotal, Cancelling}
use Rattle.od_job.specs.declared.stage.Why.TheVariants as why
use Rattle.od_job.specs.declared.transfer.Next.TheVariants.{Ends, Goes}
use Rattle.od_job.proofs.instances.a_failed_fragment_is_asked_for.Goals as goal

pub returns-clause-again : goal.returns-clause-again
returns-clause-again c = λ bytes item long.
    start (send_new bytes) (record { stage = Opening; row = 0; failures = 0 }) (got open_new (reply.Session 7 0) ∷ failed (part_at 0 bytes) ∷ got status_asked (reply.Status 0) ∷ got (part_at 0 bytes) (reply.More 500000) ∷ got finished (reply.Made item) ∷ []) (Ends (Accepted item)) (rw long refl)
    (lead (send_new bytes) (record { stage = Opening; row = 0; failures = 0 }) (got open_new (reply.Session 7 0)) (failed (part_at 0 bytes) ∷ got status_asked (reply.Status 0) ∷ got (part_at 0 bytes) (reply.More 500000) ∷ got finished (reply.Made item) ∷ []) (Goes (record { stage = Opened 7 0; row = 0; failures = 0 })) (Ends (Accepted item)) refl refl
    (lead (send_new bytes) (record { stage = Opened 7 0; row = 0; failures = 0 }) (failed (part_at 0 bytes)) (got status_asked (reply.Status 0) ∷ got (part_at 0 bytes) (reply.More 500000) ∷ got finished (reply.Made item) ∷ []) (Goes (record { stage = AskStatus 7 0; row = 1; failures = 1 })) (Ends (Accepted item)) refl refl
    (lead (send_new bytes) (record { stage = AskStatus 7 0; row = 1; failures = 1 }) (got status_asked (reply.Status 0)) (got (part_at 0 bytes) (reply.More 500000) ∷ got finished (reply.Made item) ∷ []) (Goes (record { stage = Opened 7 0; row = 0; failures = 1 })) (Ends (Accepted item)) refl refl
    (lead (send_new bytes) (record { stage = Opened 7 0; row = 0; failures = 1 }) (got (part_at 0 bytes) (reply.More 500000)) (got finished (reply.Made item) ∷ []) (Goes (record { stage = Finishing 7; row = 0; failures = 1 })) (Ends (Accepted item)) refl (rw long refl)
    (lead (send_new bytes) (record { stage = Finishing 7; row = 0; failures = 1 }) (got finished (reply.Made item)) ([]) (Ends (Accepted item)) (Ends (Accepted item)) refl refl
    refl)))))

pub returns-clause-on : goal.returns-clause-on
returns-clause-on c = λ bytes item long.
    start (send_new bytes) (record { stage = Opening; row = 0; failures = 0 }) (got open_new (reply.Session 7 0) ∷ failed (part_at 0 bytes) ∷ failed status_asked ∷ got status_asked (reply.Status 500000) ∷ failed finished ∷ got status_asked (reply.Status 500000) ∷ got finished (reply.Made item) ∷ []) (Ends (Accepted item)) (rw long refl)
    (lead (send_new bytes) (record { stage = Opening; row = 0; failures = 0 }) (got open_new (reply.Session 7 0)) (failed (part_at 0 bytes) ∷ failed status_asked ∷ got status_asked (reply.Status 500000) ∷ failed finished ∷ got status_asked (reply.Status 500000) ∷ got finished (reply.Made item) ∷ []) (Goes (record { stage = Opened 7 0; row = 0; failures = 0 })) (Ends (Accepted item)) refl refl
    (lead (send_new bytes) (record { stage = Opened 7 0; row = 0; failures = 0 }) (failed (part_at 0 bytes)) (failed status_asked ∷ got status_asked (reply.Status 500000) ∷ failed finished ∷ got status_asked (reply.Status 500000) ∷ got finished (reply.Made item) ∷ []) (Goes (record { stage = AskStatus 7 0; row = 1; failures = 1 })) (Ends (Accepted item)) refl refl
    (lead (send_new bytes) (record { stage = AskStatus 7 0; row = 1; failures = 1 }) (failed status_asked) (got status_asked (reply.Status 500000) ∷ failed finished ∷ got status_asked (reply.Status 500000) ∷ got finished (reply.Made item) ∷ []) (Goes (record { stage = AskStatus 7 0; row = 2; failures = 2 })) (Ends (Accepted item)) refl refl
    (lead (send_new bytes) (record { stage = AskStatus 7 0; row = 2; failures = 2 }) (got status_asked (reply.Status 500000)) (failed finished ∷ got status_asked (reply.Status 500000) ∷ got finished (reply.Made item) ∷ []) (Goes (record { stage = Finishing 7; row = 0; failures = 2 })) (Ends (Accepted item)) refl (rw long refl)
    (lead (send_new bytes) (record { stage = Finishing 7; row = 0; failures = 2 }) (failed finished) (got status_asked (reply.Status 500000) ∷ got finished (reply.Made item) ∷ []) (Goes (record { stage = AskTotal 7; row = 1; failures = 3 })) (Ends (Accepted item)) refl refl
    (lead (send_new bytes) (record { stage = AskTotal 7; row = 1; failures = 3 }) (got status_asked (reply.Status 500000)) (got finished (reply.Made item) ∷ []) (Goes (record { stage = Finishing 7; row = 0; failures = 3 })) (Ends (Accepted item)) refl (rw long refl)
    (lead (send_new bytes) (record { stage = Finishing 7; row = 0; failures = 3 }) (got finished (reply.Made item)) ([]) (Ends (Accepted item)) (Ends (Accepted item)) refl refl
    refl)))))))

pub returns-clause-elsewhere : goal.returns-clause-elsewhere
returns-clause-elsewhere c = λ bytes long.
    start (send_new bytes) (record { stage = Opening; row = 0; failures = 0 }) (got open_new (reply.Session 7 0) ∷ failed (part_at 0 bytes) ∷ got status_asked (reply.Status 327680) ∷ got cancelled reply.Done ∷ []) (Ends (Lost)) (rw long refl)
    (lead (send_new bytes) (record { stage = Opening; row = 0; failures = 0 }) (got open_new (reply.Session 7 0)) (failed (part_at 0 bytes) ∷ got status_asked (reply.Status 327680) ∷ got cancelled reply.Done ∷ []) (Goes (record { stage = Opened 7 0; row = 0; failures = 0 })) (Ends (Lost)) refl refl
    (lead (send_new bytes) (record { stage = Opened 7 0; row = 0; failures = 0 }) (failed (part_at 0 bytes)) (got status_asked (reply.Status 327680) ∷ got cancelled reply.Done ∷ []) (Goes (record { stage = AskStatus 7 0; row = 1; failures = 1 })) (Ends (Lost)) refl refl
    (lead (send_new bytes) (record { stage = AskStatus 7 0; row = 1; failures = 1 }) (got status_asked (reply.Status 327680)) (got cancelled reply.Done ∷ []) (Goes (record { stage = Cancelling 7 why.Lost; row = 0; failures = 1 })) (Ends (Lost)) refl (rw long refl)
    (lead (send_new bytes) (record { stage = Cancelling 7 why.Lost; row = 0; failures = 1 }) (got cancelled reply.Done) ([]) (Ends (Lost)) (Ends (Lost)) refl refl
    refl))))
