use Rattle.std.proofs.Common.{◌≡◌, ◌≤◌, ◌-◌, length, take, sum_by}
use Rattle.od_sync.specs.Doing.{most_bytes, most_jobs}
use Rattle.od_sync.specs.declared.planning.Fetching.{Fetching}
use Rattle.od_sync.proofs.doing.batch_length.Given as goal

abbrev pub invariant-loop-count : goal.invariant-loop-count
invariant-loop-count l = record {
  within : l.count ≤ length l.fetches;
  few : l.count ≤ most_jobs;
  total_is : l.total ≡ sum_by (λ (fetch : Fetching). fetch.size) (take l.count l.fetches);
  light : l.total ≤ most_bytes;
}

abbrev pub decreases-loop-count : goal.decreases-loop-count
decreases-loop-count l = length l.fetches - l.count
