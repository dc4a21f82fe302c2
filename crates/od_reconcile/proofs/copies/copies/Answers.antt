use Rattle.std.proofs.Common.{◌∙◌, ◌++◌, ap, List}
use Rattle.od_merge.specs.Merging.{copied}
use Rattle.od_merge.specs.Sides.{paths_of}
use Rattle.od_merge.proofs.Lists.{Path}
use Rattle.od_reconcile.specs.Copying.{copy_path, left_of, moves_of}
use Rattle.od_reconcile.specs.Ready.{sides_found}
use Rattle.od_reconcile.proofs.copies.copies.Goals as goal

pub returns-clause-renames : goal.returns-clause-renames
returns-clause-renames c =
    let both = c.args.both.now in
    let taken = paths_of both.here.tree.now ++ paths_of both.there.tree.now in
    c.in_ok-copies.ensures.renames taken c.in_ok-taken.ensures
    ∙ ap (λ (ps : List Path). moves_of (copied (copy_path c.args.host.now (sides_found both).local) taken ps)) (c.as_slice.ensures.value ∙ c.in_ok-conflicts.ensures)

pub returns-clause-left : goal.returns-clause-left
returns-clause-left c =
    let both = c.args.both.now in
    let taken = paths_of both.here.tree.now ++ paths_of both.there.tree.now in
    c.in_ok-copies.ensures.left taken c.in_ok-taken.ensures
    ∙ ap (λ (ps : List Path). left_of (copied (copy_path c.args.host.now (sides_found both).local) taken ps)) (c.as_slice.ensures.value ∙ c.in_ok-conflicts.ensures)
