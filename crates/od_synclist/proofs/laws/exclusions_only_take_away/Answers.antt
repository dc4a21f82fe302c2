use Rattle.od_synclist.proofs.Further.{exclusion_takes_away}
use Rattle.od_synclist.proofs.laws.exclusions_only_take_away.Goals as goal

pub returns : goal.returns
returns c = exclusion_takes_away
