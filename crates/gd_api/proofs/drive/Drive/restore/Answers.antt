use Rattle.gd_item.specs.Steps.{state_of}
use Rattle.gd_item.specs.declared.step.DriveEvent.TheVariants.{Restore}
use Rattle.gd_api.proofs.Handling.{event-stood}
use Rattle.gd_api.proofs.drive.Drive.restore.Goals as goal

pub returns-clause-stands : goal.returns-clause-stands
returns-clause-stands c = λ log stands. event-stood c.args.self.now _ _ log (Restore) c.self.view_is (λ has. record { size = has.size; store = c.restore.ensures (state_of log).effects (state_of log).epoch (state_of log).floor has.store; sessions = has.sessions; plain = has.plain }) stands
