use Rattle.od_outside.proofs.Knowing.{known-beginning, known-run}
use Rattle.od_outside.proofs.laws.what_is_known_stays.Goals as goal

pub returns-clause-begins : goal.returns-clause-begins
returns-clause-begins c = known-beginning

pub returns-clause-stays : goal.returns-clause-stays
returns-clause-stays c = known-run
