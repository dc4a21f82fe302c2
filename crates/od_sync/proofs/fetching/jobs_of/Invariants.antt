use Rattle.std.proofs.Common.{◌≡◌, map, take}
use Rattle.od_sync.specs.Doing.{job_of}
use Rattle.od_sync.proofs.fetching.jobs_of.Given as goal

abbrev pub invariant-loop-fetch : goal.invariant-loop-fetch
invariant-loop-fetch l = l.jobs ≡ map job_of (take l.fetch-index l.batch)
