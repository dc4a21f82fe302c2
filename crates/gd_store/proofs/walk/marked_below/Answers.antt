use Rattle.std.proofs.Common.{ap, not, ◌∙◌}
use Rattle.gd_store.proofs.Marking.{whole-dead, whole-live}
use Rattle.gd_store.proofs.There.{alive}
use Rattle.gd_store.proofs.walk.marked_below.Goals as goal

pub returns-then-is_none : goal.returns-then-is_none
returns-then-is_none c =
    whole-dead c.args.items.now c.args.top c.len.result c.new-marked.result.keys c.requires c.len.ensures c.new-marked.ensures.empty c.mark_within.new.marked.keys c.remove.new.self.keys c.remove.ensures.ordered
    c.in_ok-mark_within.ensures.marks (alive c.args.top c.args.items.now c.get.result _ c.get.ensures (c.is_none.ensures ∙ ap not c.if-is_none.true)) c.remove.ensures.updates.0

pub returns : goal.returns
returns c =
    whole-live c.args.items.now c.args.top c.len.result c.new-marked.result.keys c.requires c.len.ensures c.new-marked.ensures.empty c.mark_within.new.marked.keys c.in_ok-mark_within.ensures.ordered
    c.in_ok-mark_within.ensures.marks (alive c.args.top c.args.items.now c.get.result _ c.get.ensures (c.is_none.ensures ∙ ap not c.if-is_none.false))
