use Rattle.std.proofs.Common.{refl, ap}
use Rattle.gd_item.specs.Moves.{remove_refusal}
use Rattle.gd_item.specs.Refused.{at_target, by_store}
use Rattle.gd_item.specs.Sessions.{held}
use Rattle.gd_item.specs.Steps.{state_of}
use Rattle.gd_item.specs.Targets.{target_of}
use Rattle.gd_item.specs.declared.request.Request.TheVariants.{Delete}
use Rattle.gd_api.proofs.Handling.{stepped, within, within-limit}
use Rattle.gd_api.proofs.drive.Drive.delete.Goals as goal

pub returns-clause-answer : goal.returns-clause-answer
returns-clause-answer c =
    λ log stands.
    let before = held (state_of log) in
    let request = Delete c.args.at.now c.args.condition.now in
    let fault = at_target (λ number. remove_refusal before number c.args.condition.now) (target_of before c.args.at.now) in
    within c.args.self.now _ _ log request c.make_reply.result c.self.view_is
    (λ has. stepped _ c.remove.new.store log request fault c.remove.result c.make_reply.result c.make_reply.ensures has
    (ap by_store (within-limit log fault)) refl (λ who. refl) (c.remove.ensures.answer (state_of log).effects (state_of log).epoch (state_of log).floor has.store) c.remove.ensures.kept) stands
