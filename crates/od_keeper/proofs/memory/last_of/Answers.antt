use Rattle.std.proofs.Common.{◌∙◌}
use Rattle.od_keeper.proofs.Lists.{last-at}
use Rattle.od_keeper.proofs.memory.last_of.Goals as goal

pub returns-in_ok-clone-in-len1-up : goal.returns-in_ok-clone-in-len1-up
returns-in_ok-clone-in-len1-up c = c.in_ok-clone-in-len1-up.ensures.cases ∙ last-at c.args.images.now c.image-item.result c.in-len1-up.len_at_least c.image-item.is
