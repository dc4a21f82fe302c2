use Rattle.std.proofs.Common.{◌∙◌}
use Rattle.od_reconcile.specs.Looks.{merge_sides}
use Rattle.od_reconcile.proofs.Wanting.{unwanted-is}
use Rattle.od_reconcile.proofs.look.is_unwanted.Goals as goal

pub returns : goal.returns
returns c = c.unwanted_by.ensures ∙ unwanted-is (merge_sides c.args.look.now.merge.now) c.args.side.now.tree.now c.args.path.now c.is_kept.ensures c.is_left.ensures c.standing.ensures c.target.ensures
