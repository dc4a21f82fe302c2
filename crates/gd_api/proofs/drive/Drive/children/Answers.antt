use Rattle.std.proofs.Common.{ℕ, List, Option, refl, ap, ◌∙◌}
use Rattle.gd_item.specs.Answers.{about, children_reply}
use Rattle.gd_item.specs.Refused.{at_target}
use Rattle.gd_item.specs.Refusals.{folder_refusal}
use Rattle.gd_item.specs.Sessions.{held}
use Rattle.gd_item.specs.Steps.{state_of}
use Rattle.gd_item.specs.Targets.{target_of}
use Rattle.gd_item.specs.declared.request.Request.TheVariants.{Children}
use Rattle.gd_api.proofs.Handling.{looked, within-read, answers-so}
use Rattle.gd_api.proofs.drive.Drive.children.Goals as goal

pub returns : goal.returns
returns c = record {
  answer = λ log stands.
      let before = held (state_of log) in
      let target = target_of before c.args.at.now in
      let fault = at_target (folder_refusal before) target in
      within-read c.args.self.now _ log (Children c.args.at.now c.args.after.now) c.make_reply.result c.self.view_is
      (λ has. looked _ log (Children c.args.at.now c.args.after.now) fault c.children.result c.make_reply.result c.make_reply.ensures has refl refl refl (λ who. refl)
      (answers-so fault c.children.result
      (λ reply is. is ∙ ap (λ (after : Option (List ℕ)). about (children_reply before after c.self.inside.size) target) c.as_ref.ensures.value)
      (c.children.ensures.answer (state_of log).effects (state_of log).epoch (state_of log).floor has.store))) stands;
}
