use Rattle.std.proofs.Common.{◌≡◌, ◌∙◌, List, map, ap, sym}
use Rattle.od_merge.specs.Merging.{renamed, renamed_tree, renames, without_copy}
use Rattle.od_merge.specs.Sides.{Sides, Tree}
use Rattle.od_merge.proofs.Lists.{Path}
use Rattle.od_reconcile.specs.Copying.{copy_path, renamed_entries}
use Rattle.od_reconcile.specs.Entries.{local_tree}
use Rattle.od_reconcile.specs.Holding.{held_list, limits_of}
use Rattle.od_reconcile.specs.Plans.{down_list, rename_of, up_list}
use Rattle.od_reconcile.specs.Ready.{sides_found}
use Rattle.od_reconcile.specs.declared.types.Node.{Node}
use Rattle.od_reconcile.proofs.Listed.{renamed-contents, sides-then}
use Rattle.od_reconcile.proofs.planning.plan_over.Goals as goal

pub returns : goal.returns
returns c =
    let s = sides_found c.args.both.now in
    let copy = copy_path c.args.host.now s.local in
    let moves = renames copy s in
    let m = renamed copy s in
    let local = c.args.local.now in
    let items = c.args.items.now.entries in
    let quota = c.args.quota.now in
    let entries : c.in_ok-entries.entries.items ≡ renamed_entries moves local =
    c.in_ok-entries.ensures ∙ ap (λ (ms : List (Path × Path)). renamed_entries ms local) (c.as_slice.ensures.value ∙ c.in_ok-copies.ensures.renames) in
    let trees : c.in_ok-here.here.tree.now ≡ renamed_tree moves s.local =
    c.in_ok-here.ensures.tree ∙ (c.as_slice-3.ensures.value ∙ (c.in_ok-tree.ensures
    ∙ (ap (λ (es : List (Path × Node)). local_tree es) (c.as_slice-2.ensures.value ∙ entries)
    ∙ (renamed-contents moves local ∙ ap (λ (t : Tree). renamed_tree moves t) (sym c.requires.here))))) in
    let lefts : c.as_slice-4.result.now ≡ without_copy copy s = c.as_slice-4.ensures.value ∙ c.in_ok-copies.ensures.left in
    let sides = sides-then s c.in_ok-here.here.tree.now (renamed_tree moves s.local) c.as_slice-4.result.now (without_copy copy s) trees lefts in
    let then : c.as_slice-5.result.now ≡ renamed_entries moves local = c.as_slice-5.ensures.value ∙ entries in
    record {
      renames = c.in_ok-renames.ensures ∙ ap (λ (ms : List (Path × Path)). map rename_of ms) (c.as_slice-6.ensures.value ∙ c.in_ok-copies.ensures.renames);
      down = c.in_ok-steps.ensures.down ∙ ap (λ (n : Sides). down_list n items) sides;
      up = c.in_ok-steps.ensures.up
          ∙ (ap (λ (n : Sides). up_list (limits_of quota c.as_slice-5.result.now) n items) sides ∙ ap (λ (es : List (Path × Node)). up_list (limits_of quota es) m items) then);
      held = c.in_ok-steps.ensures.held
          ∙ (ap (λ (n : Sides). held_list (limits_of quota c.as_slice-5.result.now) n) sides ∙ ap (λ (es : List (Path × Node)). held_list (limits_of quota es) m) then);
    }
