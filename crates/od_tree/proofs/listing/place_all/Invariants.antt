use Rattle.std.proofs.Common.{◌≡◌, map, drop}
use Rattle.gd_names.specs.Ordered.{in_order_from}
use Rattle.od_tree.specs.Local.{bytes_in, tree_of_spots}
use Rattle.od_tree.specs.declared.local.Spot.{Spot}
use Rattle.od_tree.proofs.listing.place_all.Given as goal

abbrev pub invariant-loop-spot : goal.invariant-loop-spot
invariant-loop-spot l = in_order_from l.placed.entries (map (λ (spot : Spot). (spot.path, bytes_in spot.file)) (drop l.spot-index l.spots)) ≡ tree_of_spots l.spots
