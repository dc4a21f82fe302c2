use Rattle.std.proofs.Common.{subst}
use Rattle.std.specs.Map.{values_of}
use Rattle.od_mirror.specs.Pulled.{Pulled, nodes, IsLeastBad}
use Rattle.od_sync.proofs.pulling.view_after.Goals as goal

pub returns-in-Err-clause-bad : goal.returns-in-Err-clause-bad
returns-in-Err-clause-bad c = λ n is. subst (λ (pulled : Pulled). IsLeastBad (nodes (values_of pulled.items)) n) c.in_ok-_taken.ensures.ok.0 (c.in-Err.ensures.bad n is)
