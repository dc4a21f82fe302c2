use Rattle.od_merge.proofs.MergeLaws.{drive-alone}
use Rattle.od_merge.proofs.laws.drive_alone_is_the_target.Goals as goal

pub returns : goal.returns
returns c = drive-alone
