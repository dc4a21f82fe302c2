use Rattle.std.proofs.Common.{◌≡◌, ◌++◌, drop}
use Rattle.std.specs.List.{flat_map}
use Rattle.od_cli.specs.Pulled.{item_line}
use Rattle.od_cli.proofs.print.print_items.Given as goal

abbrev pub invariant-loop-path : goal.invariant-loop-path
invariant-loop-path l = l.out ++ flat_map item_line (drop l.path-index l.items) ≡ l.fn.out ++ flat_map item_line l.items
