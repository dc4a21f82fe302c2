use Rattle.std.proofs.Common.{refl}
use Rattle.gd_item.specs.Answers.{about, content_reply}
use Rattle.gd_item.specs.Refused.{at_target}
use Rattle.gd_item.specs.Refusals.{file_refusal}
use Rattle.gd_item.specs.Sessions.{held}
use Rattle.gd_item.specs.Steps.{state_of}
use Rattle.gd_item.specs.Targets.{target_of}
use Rattle.gd_item.specs.declared.request.Request.TheVariants.{Content}
use Rattle.gd_store.proofs.Given.{given-answers}
use Rattle.gd_api.proofs.Handling.{looked, served-store, within-read, within-served}
use Rattle.gd_api.proofs.drive.Drive.content.Goals as goal

pub returns : goal.returns
returns c = record {
  answer = λ log stands.
      let before = held (state_of log) in
      let target = target_of before c.args.at.now in
      let fault = at_target (file_refusal before) target in
      within-read c.args.self.now _ log (Content c.args.at.now) c.make_reply.result c.self.view_is
      (λ has. looked _ log (Content c.args.at.now) fault c.content.result c.make_reply.result c.make_reply.ensures has refl refl refl (λ who. refl)
      (given-answers fault (about (content_reply before) target) c.content.result (c.content.ensures.answer (state_of log).effects (state_of log).epoch (state_of log).floor has.store))) stands;
  served = λ log stands.
      let before = held (state_of log) in
      let target = target_of before c.args.at.now in
      within-served c.args.self.now _ log (Content c.args.at.now) c.make_reply.result c.self.view_is
      (λ has. served-store log (Content c.args.at.now) _ (at_target (file_refusal before) target) c.content.result (about (content_reply before) target) c.make_reply.result
      c.make_reply.ensures refl refl (c.content.ensures.answer (state_of log).effects (state_of log).epoch (state_of log).floor has.store)) stands;
}
