use Rattle.std.proofs.Common.{◌∙◌}
use Rattle.od_reconcile.specs.Looks.{merge_sides}
use Rattle.od_reconcile.proofs.Goes.{going-by}
use Rattle.od_reconcile.proofs.look.is_going.Goals as goal

pub returns : goal.returns
returns c = c.goes_by.ensures
    ∙ going-by (merge_sides c.args.look.now.merge.now) c.args.side.now.tree.now c.args.path.now c.requires.one c.standing.ensures c.is_unwanted.ensures
    (c.has.ensures ∙ c.requires.stuck.has c.args.path.now)
