use Rattle.std.proofs.Common.{ap, ◌∙◌}
use Rattle.gd_item.specs.Records.{child_count}
use Rattle.gd_index.proofs.index.Index.child_count.Goals as goal

pub returns : goal.returns
returns c = c.count_of.ensures ∙ c.self.invariant.counted.each c.args.parent ∙ ap (child_count c.args.parent) c.self.view_is
