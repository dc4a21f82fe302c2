use Rattle.std.proofs.Common.{length}
use Rattle.gd_item.specs.Steps.{state_of}
use Rattle.gd_item.specs.declared.step.DriveEvent.TheVariants.{EndSession}
use Rattle.gd_api.proofs.Handling.{event-stood}
use Rattle.gd_api.proofs.drive.Drive.end_session.Goals as goal

pub returns-clause-stands : goal.returns-clause-stands
returns-clause-stands c = λ log stands. event-stood c.args.self.now _ _ log (EndSession c.args.session) c.self.view_is (λ has. record { size = has.size; store = has.store; sessions = c.end.ensures (state_of log).sessions (length (state_of log).openers) has.sessions; plain = has.plain }) stands
