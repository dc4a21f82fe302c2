use Rattle.std.proofs.Common.{ap, sym, List, [], ◌∙◌}
use Rattle.od_merge.specs.Merging.{in_order_from}
use Rattle.od_merge.specs.Sides.{paths_of}
use Rattle.od_merge.proofs.Lists.{Path, in_order_joined}
use Rattle.od_reconcile.specs.Looks.{merge_sides}
use Rattle.od_reconcile.proofs.merge.all_paths.Goals as goal

pub returns : goal.returns
returns c =
    let s = merge_sides c.args.merge.now in
    c.in_ok-add_paths-2.ensures ∙ (ap (λ (keys : List Path). in_order_from keys (paths_of s.remote)) (c.in_ok-add_paths.ensures ∙ ap (λ (keys : List Path). in_order_from keys (paths_of s.local)) c.new-paths.ensures.empty) ∙ sym (in_order_joined [] (paths_of s.local) (paths_of s.remote)))
