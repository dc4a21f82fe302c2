use Rattle.std.proofs.Common.{◌≡◌, ◌++◌, drop}
use Rattle.od_mirror.specs.Digests.{bare_of}
use Rattle.od_mirror.proofs.view.MirrorView.bare.Given as goal

abbrev pub invariant-loop-item : goal.invariant-loop-item
invariant-loop-item l = l.found.items ++ bare_of (drop l.item-index l.item-items) ≡ bare_of l.self.items
