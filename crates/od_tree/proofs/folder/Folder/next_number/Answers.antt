use Rattle.od_tree.proofs.Holding.{number_is_low}
use Rattle.od_tree.proofs.folder.Folder.next_number.Goals as goal

pub number_after-requires : goal.number_after-requires
number_after-requires c =
    number_is_low c.self.inside.steps.items c.as_slice.result.now c.self.inside.spots.items c.self.inside.held.items c.as_slice-2.result.now c.self.invariant c.as_slice.ensures.value c.as_slice-2.ensures.value
