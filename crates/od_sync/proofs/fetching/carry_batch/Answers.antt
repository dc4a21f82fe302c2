use Rattle.std.proofs.Common.{List, length, sym, ap, ◌∙◌}
use Rattle.std.proofs.lemmas.List.{length-map}
use Rattle.std.proofs.lemmas.Slice.Zip.{AllZip-long}
use Rattle.od_transfer.specs.Fits.{Fits}
use Rattle.od_transfer.specs.declared.job.Job.{Job}
use Rattle.od_transfer.proofs.Bounds.{some_lost}
use Rattle.od_sync.specs.Doing.{job_of}
use Rattle.od_sync.proofs.Batched.{brings, carries-transfers, fits-jobs}
use Rattle.od_sync.proofs.fetching.carry_batch.Goals as goal

pub returns-in-Ok-clause-same : goal.returns-in-Ok-clause-same
returns-in-Ok-clause-same g c =
    sym (AllZip-long Fits c.in_ok-jobs.jobs c.in-Ok.outcomes c.in-Ok.ensures.fits ∙ (ap (λ (jobs : List Job). length jobs) c.in_ok-jobs.ensures ∙ length-map c.args.batch.now job_of))

pub returns-in-Ok-clause-fits : goal.returns-in-Ok-clause-fits
returns-in-Ok-clause-fits g c = fits-jobs c.args.batch.now c.in_ok-jobs.jobs c.in-Ok.outcomes c.in_ok-jobs.ensures c.in-Ok.ensures.fits

pub returns-in-Ok-clause-brings : goal.returns-in-Ok-clause-brings
returns-in-Ok-clause-brings g c =
    brings c.args.batch.now c.in_ok-jobs.jobs c.in-Ok.outcomes (g.R.Remote.faults c.args.remote.now) (g.R.Remote.faults c.carry.new.self) (g.R.Remote.log c.args.remote.now) (g.R.Remote.log c.carry.new.self)
    c.in_ok-jobs.ensures c.requires c.in-Ok.ensures.told
    (some_lost c.in-Ok.outcomes (g.R.Remote.faults c.args.remote.now) (g.R.Remote.faults c.carry.new.self) c.in-Ok.ensures.cause.lost)

pub returns-in-Ok-clause-log : goal.returns-in-Ok-clause-log
returns-in-Ok-clause-log g c = carries-transfers c.args.batch.now c.in_ok-jobs.jobs (g.R.Remote.log c.args.remote.now) (g.R.Remote.log c.carry.new.self) c.in_ok-jobs.ensures c.requires c.in-Ok.ensures.told

pub returns-clause-log : goal.returns-clause-log
returns-clause-log g c = carries-transfers c.args.batch.now c.in_ok-jobs.jobs (g.R.Remote.log c.args.remote.now) (g.R.Remote.log c.carry.new.self) c.in_ok-jobs.ensures c.requires c.in-Err.ensures.told
