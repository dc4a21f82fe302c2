use Rattle.std.proofs.Common.{◌≡◌, List, [], not, take, get_or, refl, ap, ◌∙◌, arith}
use Rattle.std.specs.List.{AllZip, count_by}
use Rattle.od_transfer.specs.Explained.{IsExplained}
use Rattle.od_transfer.specs.Fits.{Fits, is_lost}
use Rattle.od_transfer.specs.declared.job.Job.{Job}
use Rattle.od_transfer.specs.declared.job.Job.TheVariants.{Fetch}
use Rattle.od_transfer.specs.declared.job.Outcome.{Outcome}
use Rattle.od_transfer.proofs.Bounds.{rose-step, other-rose}
use Rattle.od_transfer.proofs.Explaining.{none-carried, one-carried, cut-carried, all-carried}
use Rattle.od_transfer.proofs.Undisturbing.{undisturbed_same, undisturbed_then}
use Rattle.od_transfer.proofs.Zipped.{zip-step}
use Rattle.od_transfer.proofs.carry.carry_each.Goals as goal

-- the default of an index
abbrev nothing : Job
nothing = Fetch (record { 0 = 0 }) (record { 0 = [] }) 0

pub returns-in_err-outcome-clause-told : goal.returns-in_err-outcome-clause-told
returns-in_err-outcome-clause-told g c =
    cut-carried c.args.jobs.now c.as_slice-job-items.result.now c.as_slice-job-items.ensures (λ old part. AllZip (IsExplained old part) (take c.loop-job.job-index c.as_slice-job-items.result.now) c.loop-job.outcomes) (λ old part. Unit {0})
    c.from_residual.result c.loop-job.job-index nothing c.from_residual.ensures.0 c.loop-job-test.true c.loop-job.invariant.told c.in_err-outcome.ensures.told

pub returns-in_err-outcome-clause-goes : goal.returns-in_err-outcome-clause-goes
returns-in_err-outcome-clause-goes g c = g.met.R.Remote.goes_trans c.args.remote.now c.loop-job.remote c.carry_one.new.remote c.loop-job.invariant.goes c.in_err-outcome.ensures.goes

pub returns-in_err-push-clause-told : goal.returns-in_err-push-clause-told
returns-in_err-push-clause-told g c =
    cut-carried c.args.jobs.now c.as_slice-job-items.result.now c.as_slice-job-items.ensures (λ old part. AllZip (IsExplained old part) (take c.loop-job.job-index c.as_slice-job-items.result.now) c.loop-job.outcomes)
    (λ old part. IsExplained old part (get_or c.as_slice-job-items.result.now c.loop-job.job-index nothing) c.in_ok-outcome.outcome) c.from_residual-in_err-push.result c.loop-job.job-index nothing
    c.from_residual-in_err-push.ensures.0 c.loop-job-test.true c.loop-job.invariant.told c.in_ok-outcome.ensures.told

pub returns-in_err-push-clause-goes : goal.returns-in_err-push-clause-goes
returns-in_err-push-clause-goes g c = g.met.R.Remote.goes_trans c.args.remote.now c.loop-job.remote c.carry_one.new.remote c.loop-job.invariant.goes c.in_ok-outcome.ensures.goes

pub loop-job-init : goal.loop-job-init
loop-job-init g c =
    let none = c.new-outcomes.ensures in
    let lost : count_by is_lost c.new-outcomes.result ≡ 0 = ap (λ (outcomes : List Outcome). count_by is_lost outcomes) none in
    let others : count_by (λ (outcome : Outcome). not (is_lost outcome)) c.new-outcomes.result ≡ 0 = ap (λ (outcomes : List Outcome). count_by (λ (outcome : Outcome). not (is_lost outcome)) outcomes) none in
    record {
      fits = rw none tt;
      told = none-carried c.args.jobs.now c.as_slice-job-items.result.now c.as_slice-job-items.ensures c.new-outcomes.result (g.R.Remote.log c.args.remote.now) none;
      undisturbed = undisturbed_same (g.R.Remote.undisturbed c.args.remote.now) (g.R.Remote.log c.args.remote.now);
      no_faults = λ quiet. refl;
      goes = g.met.R.Remote.goes_refl c.args.remote.now;
      faults_later = omega arith;
      answers_later = omega arith;
      lost = omega (arith, lost);
      others = omega (arith, others);
    }

pub loop-job-preserved : goal.loop-job-preserved
loop-job-preserved g c =
    let before = c.loop-job.invariant in
    let cause = c.in_ok-outcome.ensures.cause in
    record {
      fits = zip-step Fits c.as_slice-job-items.result.now c.loop-job.outcomes c.push.new.self c.loop-job.job-index nothing c.in_ok-outcome.outcome c.loop-job-test.true before.fits c.in_ok-outcome.ensures.fits c.in_ok-push.ensures.ok;
      told = one-carried c.args.jobs.now c.as_slice-job-items.result.now c.as_slice-job-items.ensures c.loop-job.outcomes c.push.new.self c.loop-job.job-index nothing c.in_ok-outcome.outcome
          c.loop-job-test.true before.told c.in_ok-outcome.ensures.told c.in_ok-push.ensures.ok;
      undisturbed = undisturbed_then (g.R.Remote.undisturbed c.args.remote.now) (g.R.Remote.undisturbed c.loop-job.remote) (g.R.Remote.undisturbed c.carry_one.new.remote)
          (g.R.Remote.log c.args.remote.now) (g.R.Remote.log c.loop-job.remote) (g.R.Remote.log c.carry_one.new.remote) before.undisturbed c.in_ok-outcome.ensures.undisturbed;
      no_faults = λ quiet. c.in_ok-outcome.ensures.no_faults (before.undisturbed.stays quiet) ∙ before.no_faults quiet;
      goes = g.met.R.Remote.goes_trans c.args.remote.now c.loop-job.remote c.carry_one.new.remote before.goes c.in_ok-outcome.ensures.goes;
      faults_later = omega (arith, before.faults_later, cause.faults_later);
      answers_later = omega (arith, before.answers_later, cause.answers_later);
      lost = rose-step is_lost c.loop-job.outcomes c.push.new.self c.in_ok-outcome.outcome (g.R.Remote.faults c.args.remote.now) (g.R.Remote.faults c.loop-job.remote) (g.R.Remote.faults c.carry_one.new.remote)
          c.in_ok-push.ensures.ok before.lost cause.faults_later cause.lost;
      others = rose-step (λ outcome. not (is_lost outcome)) c.loop-job.outcomes c.push.new.self c.in_ok-outcome.outcome (g.R.Remote.answers c.args.remote.now) (g.R.Remote.answers c.loop-job.remote) (g.R.Remote.answers c.carry_one.new.remote)
          c.in_ok-push.ensures.ok before.others cause.answers_later
          (other-rose c.in_ok-outcome.outcome (g.R.Remote.answers c.loop-job.remote) (g.R.Remote.answers c.carry_one.new.remote) cause.answered);
    }

pub returns-in_err-outcome-clause-undisturbed : goal.returns-in_err-outcome-clause-undisturbed
returns-in_err-outcome-clause-undisturbed g c =
    undisturbed_then (g.R.Remote.undisturbed c.args.remote.now) (g.R.Remote.undisturbed c.loop-job.remote) (g.R.Remote.undisturbed c.carry_one.new.remote)
    (g.R.Remote.log c.args.remote.now) (g.R.Remote.log c.loop-job.remote) (g.R.Remote.log c.carry_one.new.remote) c.loop-job.invariant.undisturbed c.in_err-outcome.ensures.undisturbed

pub returns-in_err-outcome-clause-no_faults : goal.returns-in_err-outcome-clause-no_faults
returns-in_err-outcome-clause-no_faults g c = λ quiet. c.in_err-outcome.ensures.no_faults (c.loop-job.invariant.undisturbed.stays quiet) ∙ c.loop-job.invariant.no_faults quiet

pub returns-in_err-push-clause-undisturbed : goal.returns-in_err-push-clause-undisturbed
returns-in_err-push-clause-undisturbed g c =
    undisturbed_then (g.R.Remote.undisturbed c.args.remote.now) (g.R.Remote.undisturbed c.loop-job.remote) (g.R.Remote.undisturbed c.carry_one.new.remote)
    (g.R.Remote.log c.args.remote.now) (g.R.Remote.log c.loop-job.remote) (g.R.Remote.log c.carry_one.new.remote) c.loop-job.invariant.undisturbed c.in_ok-outcome.ensures.undisturbed

pub returns-in_err-push-clause-no_faults : goal.returns-in_err-push-clause-no_faults
returns-in_err-push-clause-no_faults g c = λ quiet. c.in_ok-outcome.ensures.no_faults (c.loop-job.invariant.undisturbed.stays quiet) ∙ c.loop-job.invariant.no_faults quiet

pub returns-clause-told : goal.returns-clause-told
returns-clause-told g c =
    all-carried c.args.jobs.now c.as_slice-job-items.result.now c.as_slice-job-items.ensures c.loop-job.outcomes c.loop-job.job-index c.loop-job-test.false c.loop-job.invariant.told
