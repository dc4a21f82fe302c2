use Rattle.std.proofs.Common.{◌∙◌}
use Rattle.od_reconcile.specs.Looks.{merge_sides}
use Rattle.od_reconcile.proofs.Wanting.{wanted-is}
use Rattle.od_reconcile.proofs.merge.wanted.Goals as goal

pub returns : goal.returns
returns c = c.wanted_by.ensures ∙ wanted-is (merge_sides c.args.merge.now) c.args.path.now c.is_left.ensures c.is_kept.ensures c.is_kept-2.ensures c.base_at.ensures c.here_at.ensures c.there_at.ensures
