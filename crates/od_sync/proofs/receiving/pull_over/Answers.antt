use Rattle.od_sync.proofs.Sends.{none-asked}
use Rattle.od_sync.proofs.receiving.pull_over.Goals as goal

pub returns-in_err-items-clause-asks : goal.returns-in_err-items-clause-asks
returns-in_err-items-clause-asks g c = none-asked c.args.image.now.token (g.R.Remote.log c.args.remote.now)
