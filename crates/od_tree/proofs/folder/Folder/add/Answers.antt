use Rattle.od_tree.proofs.Steps.{operated}
use Rattle.od_tree.proofs.folder.Folder.add.Goals as goal

pub invariant_of-self-2 : goal.invariant_of-self-2
invariant_of-self-2 c =
    operated _ c.self.inside.steps.items c.reserve.new.self.items c.push_reserved.new.self.items c.args.call c.self.inside.spots.items c.do_op.new.spots.items c.self.inside.held.items c.do_op.new.held.items
    c.self.view_is c.reserve.ensures.items c.push_reserved.ensures.items c.self.invariant c.requires c.in_ok-do_op.ensures.ok
