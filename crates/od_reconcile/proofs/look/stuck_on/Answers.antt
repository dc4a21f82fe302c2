use Rattle.std.proofs.Common.{◌∙◌, ap, filter, List}
use Rattle.std.specs.List.{list_any}
use Rattle.od_merge.specs.Sides.{is_below}
use Rattle.od_merge.proofs.Lists.{Path}
use Rattle.od_reconcile.specs.Looks.{is_staying_on, merge_sides}
use Rattle.od_reconcile.proofs.look.stuck_on.Goals as goal

pub returns : goal.returns
returns c =
    let staying = is_staying_on (merge_sides c.args.look.now.merge.now) c.args.side.now.tree.now in
    record {
      has = λ path. c.in_ok-stuck.ensures path
          ∙ ap (λ (ps : List Path). list_any (λ other. is_below path other) ps) (c.as_slice.ensures.value ∙ (c.in_ok-found.ensures ∙ ap (λ (ps : List Path). filter staying ps) c.requires.ready.paths));
    }
