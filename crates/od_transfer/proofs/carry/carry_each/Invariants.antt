use Rattle.std.proofs.Common.{◌≡◌, ◌≤◌, true, not, take}
use Rattle.std.specs.List.{AllZip, count_by}
use Rattle.od_transfer.specs.Asking.{RoseBy}
use Rattle.od_transfer.specs.Explained.{GrowsSo, IsExplained, IsOfJobs}
use Rattle.od_transfer.specs.Undisturbed.{Undisturbed}
use Rattle.od_transfer.specs.Fits.{Fits, is_lost}
use Rattle.od_transfer.proofs.carry.carry_each.Given as goal

-- the jobs so far have their outcomes
abbrev pub invariant-loop-job : goal.invariant-loop-job
invariant-loop-job g l = record {
  fits : AllZip Fits (take l.job-index l.job-items) l.outcomes;
  told : GrowsSo (IsOfJobs l.jobs) (λ old part. AllZip (IsExplained old part) (take l.job-index l.job-items) l.outcomes) (g.R.Remote.log l.fn.remote) (g.R.Remote.log l.remote);
  undisturbed : Undisturbed (g.R.Remote.undisturbed l.fn.remote) (g.R.Remote.undisturbed l.remote) (g.R.Remote.log l.fn.remote) (g.R.Remote.log l.remote);
  no_faults : g.R.Remote.undisturbed l.fn.remote ≡ true → g.R.Remote.faults l.remote ≡ g.R.Remote.faults l.fn.remote;
  goes : g.R.Remote.goes l.fn.remote l.remote;
  faults_later : g.R.Remote.faults l.fn.remote ≤ g.R.Remote.faults l.remote;
  answers_later : g.R.Remote.answers l.fn.remote ≤ g.R.Remote.answers l.remote;
  lost : RoseBy (count_by is_lost l.outcomes) (g.R.Remote.faults l.fn.remote) (g.R.Remote.faults l.remote);
  others : RoseBy (count_by (λ outcome. not (is_lost outcome)) l.outcomes) (g.R.Remote.answers l.fn.remote) (g.R.Remote.answers l.remote);
}
