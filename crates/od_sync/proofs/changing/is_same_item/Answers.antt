use Rattle.std.proofs.Common.{◌∙◌}
use Rattle.od_sync.proofs.SameItems.{kinds-compared}
use Rattle.od_sync.proofs.changing.is_same_item.Goals as goal

pub returns : goal.returns
returns c = c.eq.ensures ∙ (rw (kinds-compared c.args.old.now.kind c.args.new.now.kind))
