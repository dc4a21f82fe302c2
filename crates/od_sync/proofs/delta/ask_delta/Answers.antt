use Rattle.od_sync.proofs.Sends.{asks-none, delta-asks, none-asked}
use Rattle.od_sync.proofs.delta.ask_delta.Goals as goal

pub returns-clause-asks : goal.returns-clause-asks
returns-clause-asks g c = delta-asks c.args.token c.send_again.result (g.R.Remote.log c.args.remote.now) (g.R.Remote.log c.send_again.new.remote) c.send_again.ensures.log

pub returns-then-not-is_written_token-clause-log : goal.returns-then-not-is_written_token-clause-log
returns-then-not-is_written_token-clause-log g c = asks-none _ (g.R.Remote.log c.args.remote.now)

pub returns-then-not-is_written_token-clause-asks : goal.returns-then-not-is_written_token-clause-asks
returns-then-not-is_written_token-clause-asks g c = none-asked c.args.token (g.R.Remote.log c.args.remote.now)
