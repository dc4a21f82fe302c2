use Rattle.std.proofs.Common.{subst, sym}
use Rattle.gd_item.specs.Steps.{state_of}
use Rattle.gd_api.specs.Drives.{Has}
use Rattle.gd_api.proofs.drive.Drive.versions.Goals as goal

pub returns : goal.returns
returns c = λ log stands. c.versions.ensures log (state_of log).epoch (state_of log).floor (subst (λ d. Has d (state_of log)) (sym c.self.view_is) stands).store
