use Rattle.std.proofs.Common.{ap, List, ◌∙◌}
use Rattle.std.specs.List.{list_any}
use Rattle.od_merge.specs.Sides.{is_below, is_skipped}
use Rattle.od_merge.proofs.Lists.{Path}
use Rattle.od_reconcile.specs.Looks.{merge_sides}
use Rattle.od_reconcile.proofs.Wanting.{skipped-any}
use Rattle.od_reconcile.proofs.merge.above_skipped.Goals as goal

pub returns : goal.returns
returns c = λ path.
    let s = merge_sides c.args.merge.now in
    c.in_ok-folders.ensures path
    ∙ (ap (λ (paths : List Path). list_any (λ other. is_below path other) paths) (c.as_slice.ensures.value ∙ c.in_ok-found.ensures)
    ∙ skipped-any (λ other. is_below path other) (is_skipped s.passes s.local) (is_skipped s.passes s.remote) s.local s.remote)
