use Rattle.od_transfer.proofs.Explaining.{one-job}
use Rattle.od_transfer.proofs.carry.carry_one.Goals as goal

pub returns-clause-told : goal.returns-clause-told
returns-clause-told g c =
    one-job c.args.job.now c.fetch.result (g.R.Remote.log c.args.remote.now) (g.R.Remote.log c.fetch.new.remote) (λ id digest size same. rw same at c.fetch.ensures.told)
