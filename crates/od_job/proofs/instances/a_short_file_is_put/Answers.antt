use Rattle.std.proofs.Common.{refl}
use Rattle.od_job.proofs.instances.a_short_file_is_put.Goals as goal

pub returns-clause-accepted : goal.returns-clause-accepted
returns-clause-accepted c = λ bytes item long. rw long (refl, refl)

pub returns-clause-lost : goal.returns-clause-lost
returns-clause-lost c = λ bytes long. rw long (refl, refl)
