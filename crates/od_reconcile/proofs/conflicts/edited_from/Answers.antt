use Rattle.std.proofs.Common.{ap, List, ◌∙◌, ◌&&◌}
use Rattle.std.specs.List.{list_any}
use Rattle.od_merge.specs.Merging.{is_changed_or_skipped}
use Rattle.od_merge.specs.Sides.{is_from, paths_of}
use Rattle.od_merge.proofs.Cores.{any-filter}
use Rattle.od_merge.proofs.Lists.{Path}
use Rattle.od_reconcile.specs.Ready.{sides_found}
use Rattle.od_reconcile.proofs.Indexes.{any-paths}
use Rattle.od_reconcile.proofs.conflicts.edited_from.Goals as goal

pub returns : goal.returns
returns c = λ path.
    let s = sides_found c.args.both.now in
    c.in_ok-edited.ensures path
    ∙ (ap (λ (paths : List Path). list_any (λ other. is_from path other) paths) (c.as_slice.ensures.value ∙ c.in_ok-found.ensures)
    ∙ (any-filter (λ other. is_from path other) (is_changed_or_skipped s) (paths_of c.args.both.now.here.tree.now)
    ∙ any-paths (λ other. is_from path other && is_changed_or_skipped s other) c.args.both.now.here.tree.now))
