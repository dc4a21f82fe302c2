use Rattle.od_merge.proofs.MergeLaws.{user-alone}
use Rattle.od_merge.proofs.laws.user_alone_is_the_target.Goals as goal

pub returns : goal.returns
returns c = user-alone
