use Rattle.std.proofs.Common.{◌∙◌, Option, ap}
use Rattle.od_merge.proofs.Lists.{Path}
use Rattle.od_reconcile.specs.Places.{moved_by}
use Rattle.od_reconcile.proofs.Placing.{moved-is}
use Rattle.od_reconcile.proofs.places.moved.Goals as goal

pub returns : goal.returns
returns c =
    c.in_ok-new.ensures
    ∙ (ap (λ (r : Option (Path × Path)). moved_by r c.args.path.now) c.rename_at.ensures
    ∙ moved-is c.args.renames.now c.args.places.now.entries c.args.path.now c.in_ok-place.place c.requires c.in_ok-place.ensures)
