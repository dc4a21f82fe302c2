use Rattle.od_keeper.proofs.Called.{none-listed}
use Rattle.od_keeper.proofs.laws.unlisted_calls_never_fail.Goals as goal

pub returns : goal.returns
returns c = none-listed
