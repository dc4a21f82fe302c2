use Rattle.od_transfer.proofs.Alone.{transfers_keep}
use Rattle.od_transfer.proofs.laws.transfers_change_nothing.Goals as goal

pub returns : goal.returns
returns c old part own such = transfers_keep old part own such
