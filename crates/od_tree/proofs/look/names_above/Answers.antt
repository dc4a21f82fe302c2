use Rattle.od_tree.proofs.Above.{take-above}
use Rattle.od_tree.proofs.look.names_above.Goals as goal

pub returns-in-len1-up : goal.returns-in-len1-up
returns-in-len1-up c = take-above c.args.names.now
