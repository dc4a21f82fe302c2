use Rattle.std.proofs.Common.{◌∙◌}
use Rattle.od_tree.proofs.Above.{last-at}
use Rattle.od_tree.proofs.listing.last_name.Goals as goal

pub returns-in_ok-clone-in-len1-up : goal.returns-in_ok-clone-in-len1-up
returns-in_ok-clone-in-len1-up c = c.in_ok-clone-in-len1-up.ensures.cases ∙ last-at c.args.names.now c.name-item.result c.in-len1-up.len_at_least c.name-item.is
