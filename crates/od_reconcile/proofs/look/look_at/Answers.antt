use Rattle.std.proofs.Common.{ap, List, ◌∙◌, ◌++◌, filter, is_some}
use Rattle.std.specs.List.{list_any}
use Rattle.od_merge.specs.Merging.{is_staying, wanted}
use Rattle.od_merge.specs.Sides.{is_below, is_from}
use Rattle.od_merge.proofs.Lists.{Path}
use Rattle.od_reconcile.specs.Looks.{merge_sides}
use Rattle.od_reconcile.proofs.Wanting.{needed-is}
use Rattle.od_reconcile.proofs.look.look_at.Goals as goal

pub returns-clause-ready : goal.returns-clause-ready
returns-clause-ready c =
    let s = merge_sides c.args.merge.now in
    let paths = c.in_ok-paths.ensures in
    record {
      merge = c.requires;
      paths = paths;
      needed = λ path. needed-is s path c.in_ok-above.above.keys c.in_ok-staying.staying.keys
          (c.in_ok-above.ensures path
          ∙ ap (λ (ps : List Path). list_any (λ other. is_below path other) ps)
          (c.as_slice.ensures.value ∙ (c.in_ok-add_copies.ensures ∙ ap (λ (ps : List Path). ps ++ s.left) (c.in_ok-found.ensures ∙ ap (λ (ps : List Path). filter (λ p. is_some (wanted s p)) ps) paths))))
          (c.in_ok-staying.ensures path
          ∙ ap (λ (ps : List Path). list_any (λ other. is_from path other) ps) (c.as_slice-2.ensures.value ∙ (c.in_ok-stays.ensures ∙ ap (λ (ps : List Path). filter (is_staying s) ps) paths)));
    }
