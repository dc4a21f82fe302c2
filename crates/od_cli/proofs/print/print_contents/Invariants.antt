use Rattle.std.proofs.Common.{◌≡◌, ◌++◌, List, drop}
use Rattle.std.specs.List.{flat_map}
use Rattle.gd_item.specs.Inventory.{Effect, inventory}
use Rattle.od_cli.specs.Worlds.{Holds}
use Rattle.od_cli.specs.Pulled.{shown_line}
use Rattle.od_cli.proofs.print.print_contents.Given as goal

abbrev pub invariant-loop-path : goal.invariant-loop-path
invariant-loop-path l = (log : List Effect) → Holds l.store log → l.out ++ flat_map (shown_line (inventory log)) (drop l.path-index l.items) ≡ l.fn.out ++ flat_map (shown_line (inventory log)) l.items
