use Rattle.std.proofs.Common.{◌≡◌, ◌++◌, drop}
use Rattle.std.specs.List.{filter_map}
use Rattle.od_reconcile.specs.Plans.{patch_there}
use Rattle.od_reconcile.proofs.steps.add_patches.Given as goal

abbrev pub invariant-loop-pair : goal.invariant-loop-pair
invariant-loop-pair l = l.up ++ filter_map (patch_there l.items.entries) (drop l.pair-index l.pairs) ≡ l.fn.up ++ filter_map (patch_there l.items.entries) l.pairs
