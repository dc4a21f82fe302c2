use Rattle.od_transfer.proofs.Alone.{fetched_there}
use Rattle.od_transfer.proofs.laws.a_file_that_is_there_is_fetched.Goals as goal

pub returns : goal.returns
returns c old part number bytes outcome own such file explained lost = fetched_there old part number bytes outcome own such file explained lost
