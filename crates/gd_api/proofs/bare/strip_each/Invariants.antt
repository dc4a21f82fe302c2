use Rattle.std.proofs.Common.{◌≡◌, ◌++◌, map, take, drop}
use Rattle.gd_item.specs.Answers.{bare_item}
use Rattle.gd_api.proofs.bare.strip_each.Given as goal

abbrev pub invariant-loop-item : goal.invariant-loop-item
invariant-loop-item l = l.items ≡ map bare_item (take l.item-index l.fn.items) ++ drop l.item-index l.fn.items
