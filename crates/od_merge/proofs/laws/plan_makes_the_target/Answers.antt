use Rattle.std.proofs.Common.{is_some}
use Rattle.od_merge.specs.Merging.{renamed, why_held}
use Rattle.od_merge.proofs.Copying.{merged}
use Rattle.od_merge.proofs.laws.plan_makes_the_target.Goals as goal

pub returns : goal.returns
returns c = λ s drive copy copying limits. merged s drive copy copying (λ other. is_some (why_held limits (renamed copy s) other))
