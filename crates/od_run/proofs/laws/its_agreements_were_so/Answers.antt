use Rattle.od_run.proofs.Truths.{were-so}
use Rattle.od_run.proofs.laws.its_agreements_were_so.Goals as goal

pub returns : goal.returns
returns c = were-so
