use Rattle.std.proofs.Common.{List, subst, sym}
use Rattle.std.specs.List.{AllZip}
use Rattle.od_transfer.specs.declared.job.Outcome.{Outcome}
use Rattle.od_sync.specs.Doing.{IsFetchFit, PlacesAll}
use Rattle.od_sync.proofs.Batched.{fetches-files, makes-brought}
use Rattle.od_sync.proofs.Made.{makes-none}
use Rattle.od_sync.proofs.fetching.fetch_files.Goals as goal

pub returns-in_err-outcomes-clause-steps : goal.returns-in_err-outcomes-clause-steps
returns-in_err-outcomes-clause-steps g c = makes-none (g.T.Tree.log c.args.tree.now)

pub place_files-requires-clause-fits : goal.place_files-requires-clause-fits
place_files-requires-clause-fits g c = subst (λ (outcomes : List Outcome). AllZip IsFetchFit c.args.batch.now outcomes) (sym c.as_slice.ensures) c.in_ok-outcomes.ensures.fits

pub returns-in-Ok-clause-steps : goal.returns-in-Ok-clause-steps
returns-in-Ok-clause-steps g c =
    makes-brought c.args.batch.now c.in_ok-outcomes.outcomes c.as_slice.result.now (g.T.Tree.log c.args.tree.now) (g.T.Tree.log c.place_files.new.tree) c.as_slice.ensures c.in_ok-outcomes.ensures.fits c.place_files.ensures.log

pub returns-clause-steps : goal.returns-clause-steps
returns-clause-steps g c =
    makes-brought c.args.batch.now c.in_ok-outcomes.outcomes c.as_slice.result.now (g.T.Tree.log c.args.tree.now) (g.T.Tree.log c.place_files.new.tree) c.as_slice.ensures c.in_ok-outcomes.ensures.fits c.place_files.ensures.log

pub returns-in-Ok-clause-fetches : goal.returns-in-Ok-clause-fetches
returns-in-Ok-clause-fetches g c =
    fetches-files c.args.batch.now c.in_ok-outcomes.outcomes (g.R.Remote.faults c.args.remote.now) (g.R.Remote.faults c.carry_batch.new.remote) (g.R.Remote.log c.args.remote.now)
    (g.R.Remote.log c.carry_batch.new.remote) (g.T.Tree.log c.args.tree.now) (g.T.Tree.log c.place_files.new.tree) c.in_ok-outcomes.ensures.brings c.place_files.ensures.log
    (subst (λ (outcomes : List Outcome). PlacesAll c.args.batch.now outcomes (g.T.Tree.log c.args.tree.now) (g.T.Tree.log c.place_files.new.tree)) c.as_slice.ensures c.in-Ok.ensures.placed)
