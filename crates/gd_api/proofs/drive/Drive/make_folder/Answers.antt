use Rattle.std.proofs.Common.{refl, ap}
use Rattle.gd_item.specs.Refused.{at_target, by_store}
use Rattle.gd_item.specs.Refusals.{make_folder_refusal}
use Rattle.gd_item.specs.Sessions.{held}
use Rattle.gd_item.specs.Steps.{state_of}
use Rattle.gd_item.specs.Targets.{target_of}
use Rattle.gd_item.specs.declared.request.Request.TheVariants.{MakeFolder}
use Rattle.gd_api.proofs.Handling.{stepped, within, answers-so, within-limit}
use Rattle.gd_api.proofs.drive.Drive.make_folder.Goals as goal

pub returns-clause-answer : goal.returns-clause-answer
returns-clause-answer c =
    λ log stands.
    let before = held (state_of log) in
    let request = MakeFolder c.args.at.now c.args.name.now c.args.behaviour in
    let fault = at_target (λ parent. make_folder_refusal before parent c.args.name.now c.args.behaviour) (target_of before c.args.at.now) in
    within c.args.self.now _ _ log request c.make_reply.result c.self.view_is
    (λ has. stepped _ c.make_folder.new.store log request fault c.make_folder.result c.make_reply.result c.make_reply.ensures has
    (ap by_store (within-limit log fault)) refl (λ who. refl)
    (answers-so fault c.make_folder.result (λ reply steps. (steps.replied, steps.stands)) (c.make_folder.ensures.answer (state_of log).effects (state_of log).epoch (state_of log).floor has.store))
    c.make_folder.ensures.kept) stands
