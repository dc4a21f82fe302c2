use Rattle.std.proofs.Common.{nat_eq, ◌∙◌}
use Rattle.od_synclist.specs.Matching.{is_star}
use Rattle.od_synclist.proofs.Ends.{reaches_all}
use Rattle.od_synclist.proofs.matching.matches_one.Goals as goal

pub returns : goal.returns
returns c = c.reach.ensures ∙ reaches_all is_star nat_eq c.args.component.now c.args.name.now
