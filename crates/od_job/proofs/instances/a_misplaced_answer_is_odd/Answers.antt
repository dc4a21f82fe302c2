use Rattle.std.proofs.Common.{[], ◌∷◌, refl}
use Rattle.gd_item.specs.declared.reply.Reply.TheVariants as reply
use Rattle.od_job.proofs.Leading.{lead, start}
use Rattle.od_job.specs.Examples.{cancelled, got, open_new, part_at, send_new}
use Rattle.od_job.specs.declared.job.Outcome.TheVariants.{Odd}
use Rattle.od_job.specs.declared.stage.Stage.TheVariants.{Opening, Opened, Cancelling}
use Rattle.od_job.specs.declared.stage.Why.TheVariants as why
use Rattle.od_job.specs.declared.transfer.Next.TheVariants.{Ends, Goes}
use Rattle.od_job.proofs.instances.a_misplaced_answer_is_odd.Goals as goal

pub returns-clause-session : goal.returns-clause-session
returns-clause-session c = λ bytes long.
    start (send_new bytes) (record { stage = Opening; row = 0; failures = 0 }) (got open_new (reply.Session 7 1) ∷ got cancelled reply.Done ∷ []) (Ends (Odd 0)) (rw long refl)
    (lead (send_new bytes) (record { stage = Opening; row = 0; failures = 0 }) (got open_new (reply.Session 7 1)) (got cancelled reply.Done ∷ []) (Goes (record { stage = Cancelling 7 (why.Odd 0); row = 0; failures = 0 })) (Ends (Odd 0)) refl refl
    (lead (send_new bytes) (record { stage = Cancelling 7 (why.Odd 0); row = 0; failures = 0 }) (got cancelled reply.Done) ([]) (Ends (Odd 0)) (Ends (Odd 0)) refl refl
    refl))

pub returns-clause-item : goal.returns-clause-item
returns-clause-item c = λ bytes item long.
    start (send_new bytes) (record { stage = Opening; row = 0; failures = 0 }) (got open_new (reply.Session 7 0) ∷ got (part_at 0 bytes) (reply.Made item) ∷ got cancelled reply.Done ∷ []) (Ends (Odd 0)) (rw long refl)
    (lead (send_new bytes) (record { stage = Opening; row = 0; failures = 0 }) (got open_new (reply.Session 7 0)) (got (part_at 0 bytes) (reply.Made item) ∷ got cancelled reply.Done ∷ []) (Goes (record { stage = Opened 7 0; row = 0; failures = 0 })) (Ends (Odd 0)) refl refl
    (lead (send_new bytes) (record { stage = Opened 7 0; row = 0; failures = 0 }) (got (part_at 0 bytes) (reply.Made item)) (got cancelled reply.Done ∷ []) (Goes (record { stage = Cancelling 7 (why.Odd 0); row = 0; failures = 0 })) (Ends (Odd 0)) refl refl
    (lead (send_new bytes) (record { stage = Cancelling 7 (why.Odd 0); row = 0; failures = 0 }) (got cancelled reply.Done) ([]) (Ends (Odd 0)) (Ends (Odd 0)) refl refl
    refl)))
