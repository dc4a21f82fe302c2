use Rattle.od_synclist.proofs.Keeping.{keeps_all}
use Rattle.od_synclist.proofs.laws.no_rules_keep_all.Goals as goal

pub returns : goal.returns
returns c = keeps_all
