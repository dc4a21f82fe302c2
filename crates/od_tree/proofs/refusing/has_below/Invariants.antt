use Rattle.std.proofs.Common.{◌≡◌, not, ◌&&◌, drop}
use Rattle.std.specs.List.{list_any}
use Rattle.od_tree.specs.Local.{is_from, is_path}
use Rattle.od_tree.specs.declared.local.Spot.{Spot}
use Rattle.od_tree.proofs.refusing.has_below.Given as goal

abbrev pub invariant-loop-spot : goal.invariant-loop-spot
invariant-loop-spot l =
    list_any (λ (spot : Spot). is_from l.at spot.path && not (is_path l.at spot.path)) l.spots
    ≡ list_any (λ (spot : Spot). is_from l.at spot.path && not (is_path l.at spot.path)) (drop l.spot-index l.spots)
