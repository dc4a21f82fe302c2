use Rattle.std.proofs.Common.{◌≡◌, map, filter, drop}
use Rattle.gd_names.specs.Ordered.{in_order, in_order_from}
use Rattle.od_tree.specs.Listing.{is_right_below, entry_of}
use Rattle.od_tree.specs.declared.local.Spot.{Spot}
use Rattle.od_tree.proofs.listing.place_entries.Given as goal

abbrev pub invariant-loop-spot : goal.invariant-loop-spot
invariant-loop-spot l =
    in_order_from l.placed.entries (map (λ (spot : Spot). (spot.path, entry_of spot)) (filter (λ (spot : Spot). is_right_below l.at spot.path) (drop l.spot-index l.spots)))
    ≡ in_order (map (λ (spot : Spot). (spot.path, entry_of spot)) (filter (λ (spot : Spot). is_right_below l.at spot.path) l.spots))
