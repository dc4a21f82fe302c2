use Rattle.od_transfer.proofs.Jobs.{jobs_transfers}
use Rattle.od_transfer.proofs.laws.jobs_ask_for_bytes.Goals as goal

pub returns : goal.returns
returns c = jobs_transfers
