use Rattle.std.proofs.Common.{[]}
use Rattle.od_sync.proofs.Batched.{fetched-batch, stops-at}
use Rattle.od_sync.proofs.RowsPut.{puts-rows}
use Rattle.od_sync.proofs.fetching.fetch_batch.Goals as goal

pub returns-in_err-rows-clause-stops : goal.returns-in_err-rows-clause-stops
returns-in_err-rows-clause-stops g c =
    stops-at c.from_residual.result c.args.image [] (g.R.Remote.log c.args.remote.now) (g.R.Remote.log c.fetch_files.new.remote) (g.T.Tree.log c.args.tree.now) (g.T.Tree.log c.fetch_files.new.tree) (g.K.Keeper.images c.args.keeper.now) (g.K.Keeper.images c.args.keeper.now)
    c.fetch_files.ensures.requests c.fetch_files.ensures.steps (λ images told. told)

pub returns-in_err-next-clause-stops : goal.returns-in_err-next-clause-stops
returns-in_err-next-clause-stops g c =
    stops-at c.from_residual-in_err-next.result c.args.image [] (g.R.Remote.log c.args.remote.now) (g.R.Remote.log c.fetch_files.new.remote) (g.T.Tree.log c.args.tree.now) (g.T.Tree.log c.fetch_files.new.tree) (g.K.Keeper.images c.args.keeper.now) (g.K.Keeper.images c.commit_rows.new.keeper)
    c.fetch_files.ensures.requests c.fetch_files.ensures.steps c.in_err-next.ensures.stays

pub returns-clause-fetches : goal.returns-clause-fetches
returns-clause-fetches g c =
    fetched-batch c.args.image c.args.batch.now c.in_ok-rows.rows c.in_ok-next.next (g.R.Remote.faults c.args.remote.now) (g.R.Remote.faults c.fetch_files.new.remote)
    (g.R.Remote.log c.args.remote.now) (g.R.Remote.log c.fetch_files.new.remote) (g.T.Tree.log c.args.tree.now) (g.T.Tree.log c.fetch_files.new.tree) (g.K.Keeper.images c.args.keeper.now) (g.K.Keeper.images c.commit_rows.new.keeper)
    c.in_ok-rows.ensures.fetches c.in_ok-rows.ensures.accepted c.in_ok-next.ensures.commits

pub returns-clause-rows : goal.returns-clause-rows
returns-clause-rows g c =
    puts-rows c.args.image c.in_ok-rows.rows c.in_ok-next.next (g.T.Tree.log c.args.tree.now) (g.T.Tree.log c.fetch_files.new.tree) c.in_ok-rows.ensures.rows c.in_ok-next.ensures.rows
