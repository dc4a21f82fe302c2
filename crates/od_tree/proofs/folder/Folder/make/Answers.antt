use Rattle.std.proofs.Common.{List, length, ap}
use Rattle.od_tree.specs.declared.step.LocalStep.{LocalStep}
use Rattle.od_tree.proofs.Steps.{made}
use Rattle.od_tree.proofs.folder.Folder.make.Goals as goal

pub invariant_of-self-2 : goal.invariant_of-self-2
invariant_of-self-2 c =
    made _ c.self.inside.steps.items c.reserve.new.self.items c.push_reserved.new.self.items c.args.edit.now c.in_ok-clone.field-0 (length c.as_slice.result.now) c.self.inside.spots.items
    c.make_edit.new.spots.items c.self.inside.held.items c.self.view_is c.reserve.ensures.items c.in_ok-clone.ensures.cases c.push_reserved.ensures.items c.self.invariant c.requires
    (ap (λ (xs : List LocalStep). length xs) c.as_slice.ensures.value) c.in_ok-make_edit.ensures.ok
