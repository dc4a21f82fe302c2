use Rattle.od_merge.proofs.Digests.{none-fetched, none-sent}
use Rattle.od_merge.proofs.laws.what_is_the_same_is_not_carried.Goals as goal

pub returns-clause-fetched : goal.returns-clause-fetched
returns-clause-fetched c = none-fetched

pub returns-clause-sent : goal.returns-clause-sent
returns-clause-sent c = none-sent
