-- What may come of a job over a drive whose log is told.
use Rattle.od_job.specs.declared.job.Outcome.{Outcome}
use Rattle.od_job.specs.declared.job.Outcome.TheVariants.{Fetched, Changed, Accepted, Refused, Lost, Odd, Bad}

-- no answer is out of its place, and each is a reply
abbrev pub IsTold : Outcome → Type 0
IsTold (Fetched bytes) = Unit {0}
IsTold Changed = Unit {0}
IsTold (Accepted item) = Unit {0}
IsTold (Refused code) = Unit {0}
IsTold Lost = Unit {0}
IsTold (Odd first) = ⊥
IsTold (Bad bytes) = ⊥
