use Rattle.std.proofs.Common.{true, refl}
use Rattle.gd_item.specs.Records.{record_at}
use Rattle.gd_item.specs.Refused.{at_target}
use Rattle.gd_item.specs.Refusals.{missing}
use Rattle.gd_item.specs.Sessions.{held}
use Rattle.gd_item.specs.Steps.{state_of}
use Rattle.gd_item.specs.Targets.{target_of}
use Rattle.gd_item.specs.declared.request.Request.TheVariants.{Get}
use Rattle.gd_api.proofs.Handling.{looked, within-read}
use Rattle.gd_api.proofs.drive.Drive.get.Goals as goal

pub returns : goal.returns
returns c = record {
  answer = λ log stands.
      let before = held (state_of log) in
      within-read c.args.self.now _ log (Get c.args.at.now) c.make_reply.result c.self.view_is
      (λ has. looked _ log (Get c.args.at.now) (at_target (λ number. missing (record_at number true before)) (target_of before c.args.at.now)) c.get.result c.make_reply.result
      c.make_reply.ensures has refl refl refl (λ who. refl) (c.get.ensures.answer (state_of log).effects (state_of log).epoch (state_of log).floor has.store)) stands;
}
