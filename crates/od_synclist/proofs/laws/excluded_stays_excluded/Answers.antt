use Rattle.od_synclist.proofs.Further.{stays_excluded}
use Rattle.od_synclist.proofs.laws.excluded_stays_excluded.Goals as goal

pub returns : goal.returns
returns c = stays_excluded
