use Rattle.std.proofs.Common.{refl}
use Rattle.gd_item.specs.Refusals.{missing}
use Rattle.gd_item.specs.Sessions.{held}
use Rattle.gd_item.specs.Steps.{state_of}
use Rattle.gd_item.specs.Versions.{version_at}
use Rattle.gd_item.specs.declared.request.Request.TheVariants.{Download}
use Rattle.gd_api.proofs.Handling.{looked, within-read}
use Rattle.gd_api.proofs.drive.Drive.download.Goals as goal

pub returns : goal.returns
returns c = record {
  answer = λ log stands.
      let before = held (state_of log) in
      within-read c.args.self.now _ log (Download c.args.id c.args.version) c.make_reply.result c.self.view_is
      (λ has. looked _ log (Download c.args.id c.args.version) (missing (version_at c.args.id.0 c.args.version before)) c.download.result c.make_reply.result
      c.make_reply.ensures has refl refl refl (λ who. refl) (c.download.ensures.answer (state_of log).effects (state_of log).epoch (state_of log).floor has.store)) stands;
}
