use Rattle.std.proofs.Common.{◌≡◌, map, drop, Some}
use Rattle.gd_item.specs.Nodes.{live_node, number_at, number_below}
use Rattle.gd_store.proofs.look.find_names.Given as goal

abbrev pub invariant-loop-name : goal.invariant-loop-name
invariant-loop-name l = number_at l.names (map live_node l.items) ≡ number_below (Some l.number) (drop l.name-index l.names) (map live_node l.items)
