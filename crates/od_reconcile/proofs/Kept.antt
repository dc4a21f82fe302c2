-- What a plan keeps where the folder and the drive are trees.
use Rattle.std.proofs.Common.{◌≡◌, ℕ, List, All, refl, sym, ap, subst, ◌∙◌}
use Rattle.std.specs.List.{filter_map}
use Rattle.gd_item.specs.declared.item.Item.{Item}
use Rattle.od_keeper.specs.declared.image.BaseRow.{BaseRow}
use Rattle.od_merge.specs.Merging.{Limits}
use Rattle.od_merge.specs.Sides.{Sides}
use Rattle.od_merge.specs.Steps.{AreRenamed, AreTrees}
use Rattle.od_merge.proofs.Lists.{Path}
use Rattle.od_merge.proofs.Proper.{are-renamed}
use Rattle.od_reconcile.specs.Copying.{copy_path}
use Rattle.od_reconcile.specs.Entries.{local_tree, remote_tree}
use Rattle.od_reconcile.specs.Plans.{IsPlan, begun, down_list, limits_then, renamed_sides, up_list}
use Rattle.od_reconcile.specs.Promises.{IsAgreedHere, IsCareful, IsFreeHere, IsFreeThere, IsUnlikeHere, IsUnlikeThere, Keeps, pair_here, pair_there}
use Rattle.od_reconcile.specs.declared.types.Down.{Down}
use Rattle.od_reconcile.specs.declared.types.Node.{Node}
use Rattle.od_reconcile.specs.declared.types.Plan.{Plan}
use Rattle.od_reconcile.specs.declared.types.Up.{Up}
use Rattle.od_reconcile.proofs.Beside.{copies-beside}
use Rattle.od_reconcile.proofs.Careful.{all-agreed, all-free-here, all-free-there, all-unlike-here, all-unlike-there, moves-here, moves-there}
use Rattle.od_reconcile.proofs.InTurn.{in-order-is}
use Rattle.od_reconcile.proofs.Merged.{merges}

careful : (limits : Limits) (m : Sides) → AreRenamed m → (items : List (Path × Item)) → m.remote ≡ remote_tree items → (plan : Plan) → plan.down ≡ down_list m items → plan.up ≡ up_list limits m items → IsCareful limits m plan
careful limits m is items remote_is plan down_is up_is = record {
  agreed = subst (λ (downs : List Down). All (IsAgreedHere m) downs) (sym down_is) (all-agreed m is items remote_is);
  unlike_here = subst (λ (downs : List Down). All (IsUnlikeHere m) downs) (sym down_is) (all-unlike-here m is items remote_is);
  unlike_there = subst (λ (ups : List Up). All (IsUnlikeThere m) ups) (sym up_is) (all-unlike-there limits m is items remote_is);
  free_here = subst (λ (downs : List Down). All (IsFreeHere m) downs) (sym down_is) (all-free-here m is items remote_is);
  free_there = subst (λ (ups : List Up). All (IsFreeThere limits m) ups) (sym up_is) (all-free-there limits m is items remote_is);
  moves_here = ap (λ (downs : List Down). filter_map pair_here downs) down_is ∙ moves-here m is items remote_is;
  moves_there = ap (λ (ups : List Up). filter_map pair_there ups) up_is ∙ moves-there limits m is items remote_is;
}

pub keeps : (rules host : List ℕ) (rows : List BaseRow) (local : List (Path × Node)) (items : List (Path × Item)) (quota : List Path) (plan : Plan) → IsPlan rules host rows local items quota plan
    → AreTrees (begun rules rows local items) → Keeps (limits_then rules host rows local items quota) (renamed_sides rules host rows local items) plan
keeps rules host rows local items quota plan is trees =
    let limits = limits_then rules host rows local items quota in
    let m = renamed_sides rules host rows local items in
    let renamed = are-renamed (begun rules rows local items) trees (copy_path host (local_tree local)) (copies-beside host (local_tree local)) in
    record {
      merges = merges limits m renamed items refl plan is.down is.up;
      careful = careful limits m renamed items refl plan is.down is.up;
      in_order = in-order-is limits m renamed items refl plan is.down is.up;
    }
