use Rattle.std.proofs.Common.{◌≡◌, ◌∙◌, List, ap}
use Rattle.od_merge.specs.Merging.{Limits}
use Rattle.od_merge.specs.Sides.{Sides}
use Rattle.od_merge.proofs.Lists.{Path}
use Rattle.od_reconcile.specs.Holding.{held_list, limiter_limits, limiter_sides, limits_of}
use Rattle.od_reconcile.specs.Looks.{merge_sides}
use Rattle.od_reconcile.specs.Plans.{down_list, up_list}
use Rattle.od_reconcile.specs.declared.look.Look.{Look}
use Rattle.od_reconcile.specs.declared.merge.Merge.{Merge}
use Rattle.od_reconcile.specs.declared.types.Node.{Node}
use Rattle.od_reconcile.proofs.planning.steps_of.Goals as goal

pub returns : goal.returns
returns c =
    let items = c.args.items.now.entries in
    let quota = c.args.quota.now in
    let entries = c.args.entries.now in
    let limiter = c.in_ok-limiter.limiter in
    let made = c.in_ok-limiter.ensures in
    let limits : limiter_limits limiter ≡ limits_of quota entries =
    ap (λ (q : List Path). limits_of q limiter.entries.now) made.quota ∙ ap (λ (es : List (Path × Node)). limits_of quota es) made.entries in
    let sides : limiter_sides limiter ≡ merge_sides c.args.merge.now =
    ap (λ (k : Look). merge_sides k.merge.now) made.look ∙ ap (λ (m : Merge). merge_sides m) c.in_ok-look.ensures.merge in
    record {
      down = c.in_ok-down.ensures ∙ ap (λ (m : Merge). down_list (merge_sides m) items) c.in_ok-look.ensures.merge;
      up = c.in_ok-up.ensures ∙ (ap (λ (l : Limits). up_list l (limiter_sides limiter) items) limits ∙ ap (λ (m : Sides). up_list (limits_of quota entries) m items) sides);
      held = c.in_ok-held.ensures ∙ (ap (λ (l : Limits). held_list l (limiter_sides limiter)) limits ∙ ap (λ (m : Sides). held_list (limits_of quota entries) m) sides);
    }
