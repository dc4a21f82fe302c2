use Rattle.std.proofs.Common.{◌≡◌, ◌∙◌, List, ap}
use Rattle.gd_item.specs.declared.item.Item.{Item}
use Rattle.od_merge.proofs.Lists.{Path}
use Rattle.od_mirror.specs.Pulled.{paths_of}
use Rattle.od_reconcile.specs.Entries.{local_tree, remote_tree}
use Rattle.od_reconcile.specs.Plans.{begun, item_at}
use Rattle.od_reconcile.specs.Ready.{sides_found}
use Rattle.od_reconcile.specs.declared.types.Node.{Node}
use Rattle.od_reconcile.proofs.Kept.{keeps}
use Rattle.od_reconcile.proofs.Listed.{found-alike, plan-is}
use Rattle.od_reconcile.proofs.planning.plan.Goals as goal

pub returns-clause-is : goal.returns-clause-is
returns-clause-is c =
    let rules = c.args.rules.now in
    let rows = c.args.rows.now in
    let local = c.args.local.now in
    let items = paths_of c.args.remote.now.items in
    let ready = c.in_ok-both.ensures in
    let sides : sides_found c.in_ok-both.both ≡ begun rules rows local items = found-alike ready.rules (ready.rows ∙ c.as_slice-3.ensures)
    (ready.here ∙ (c.as_slice-4.ensures.value ∙ (c.in_ok-here.ensures ∙ ap (λ (es : List (Path × Node)). local_tree es) c.as_slice.ensures)))
    (ready.there ∙ (c.as_slice-5.ensures.value ∙ (c.in_ok-there.ensures ∙ ap (λ (es : List (Path × Item)). remote_tree es) (c.as_slice-2.ensures ∙ c.in_ok-items.ensures)))) in
    plan-is c.args.host.now (sides_found c.in_ok-both.both) (begun rules rows local items) c.as_slice-7.result.now local c.as_slice-8.result.now c.args.quota.now
    c.in_ok-index.index.entries items c.in_ok-plan.plan sides c.as_slice-7.ensures c.as_slice-8.ensures
    (λ path. c.in_ok-index.ensures path ∙ ap (λ (es : List (Path × Item)). item_at es path) (c.as_slice-6.ensures ∙ c.in_ok-items.ensures)) c.in_ok-plan.ensures

pub returns-clause-keeps : goal.returns-clause-keeps
returns-clause-keeps c = keeps c.args.rules.now c.args.host.now c.args.rows.now c.args.local.now (paths_of c.args.remote.now.items) c.args.quota.now c.in_ok-plan.plan (returns-clause-is c)
