use Rattle.std.proofs.Common.{◌≡◌, ◌++◌, map, take, drop}
use Rattle.od_mirror.specs.Digests.{learned}
use Rattle.od_mirror.proofs.view.learn_each.Given as goal

abbrev pub invariant-loop-item : goal.invariant-loop-item
invariant-loop-item l = l.items ≡ map (learned l.id l.etag l.digest) (take l.item-index l.fn.items) ++ drop l.item-index l.fn.items
