use Rattle.std.proofs.Common.{rules}
use Rattle.gd_api.proofs.reads.download.Goals as goal

pub returns : goal.returns
returns c = record { answer = λ log epoch floor stands. let told = c.in_ok-bytes.ensures log epoch floor stands in search (rules, told) }
