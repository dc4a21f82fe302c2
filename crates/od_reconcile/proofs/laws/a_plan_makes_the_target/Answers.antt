use Rattle.std.proofs.Common.{is_some}
use Rattle.od_merge.specs.Merging.{why_held}
use Rattle.od_merge.proofs.Copying.{merged}
use Rattle.od_reconcile.specs.Copying.{copy_path}
use Rattle.od_reconcile.specs.Entries.{local_tree}
use Rattle.od_reconcile.specs.Plans.{begun, limits_then, renamed_sides}
use Rattle.od_reconcile.proofs.Beside.{copies-beside}
use Rattle.od_reconcile.proofs.laws.a_plan_makes_the_target.Goals as goal

pub returns : goal.returns
returns c = λ rules host rows local items quota drive.
    merged (begun rules rows local items) drive (copy_path host (local_tree local)) (copies-beside host (local_tree local))
    (λ other. is_some (why_held (limits_then rules host rows local items quota) (renamed_sides rules host rows local items) other))
