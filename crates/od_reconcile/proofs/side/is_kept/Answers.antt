use Rattle.std.proofs.Common.{◌∙◌}
use Rattle.od_synclist.specs.Rules.{passes_file}
use Rattle.od_reconcile.proofs.Indexes.{kept-is}
use Rattle.od_reconcile.proofs.side.is_kept.Goals as goal

pub returns : goal.returns
returns c = c.kept_by.ensures
    ∙ kept-is (passes_file c.args.rules.now) c.args.side.now.tree.now c.args.path.now c.standing.ensures (c.has.ensures ∙ c.requires.kept c.args.path.now)
