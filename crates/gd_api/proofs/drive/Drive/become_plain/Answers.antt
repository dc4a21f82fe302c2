use Rattle.std.proofs.Common.{refl}
use Rattle.gd_item.specs.declared.step.DriveEvent.TheVariants.{Plain}
use Rattle.gd_api.proofs.Handling.{event-stood}
use Rattle.gd_api.proofs.drive.Drive.become_plain.Goals as goal

pub returns-clause-stands : goal.returns-clause-stands
returns-clause-stands c = λ log stands. event-stood c.args.self.now _ _ log (Plain) c.self.view_is (λ has. record { size = has.size; store = has.store; sessions = has.sessions; plain = refl }) stands
