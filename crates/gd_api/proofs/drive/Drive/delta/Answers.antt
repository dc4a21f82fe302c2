use Rattle.std.proofs.Common.{ℕ, List, Option, ap, ◌∙◌}
use Rattle.gd_item.specs.Answers.{delta_reply}
use Rattle.gd_item.specs.Pages.{asked}
use Rattle.gd_item.specs.Steps.{state_of}
use Rattle.gd_item.specs.declared.request.Request.TheVariants.{Delta}
use Rattle.gd_api.proofs.Asking.{delta-answered}
use Rattle.gd_api.proofs.Handling.{unserved-so, within-read}
use Rattle.gd_api.proofs.drive.Drive.delta.Goals as goal

pub returns-in-Ok : goal.returns-in-Ok
returns-in-Ok c = record {
  answer = λ log stands.
      within-read c.args.self.now _ log (Delta c.args.token.now) c.in-Ok.reply c.self.view_is
      (λ has. delta-answered _ log c.args.token.now c.in-Ok.reply has
      (c.in-Ok.ensures (state_of log) has.store ∙ ap (λ (token : Option (List ℕ)). delta_reply (state_of log) c.self.inside.size (asked (state_of log) token)) c.as_ref.ensures.value)) stands;
}

pub returns-in-Err : goal.returns-in-Err
returns-in-Err c = record {
  answer = λ log stands.
      within-read c.args.self.now _ log (Delta c.args.token.now) c.unserved.result c.self.view_is (λ has. unserved-so _ log (Delta c.args.token.now) c.unserved.result has c.unserved.ensures) stands;
}
