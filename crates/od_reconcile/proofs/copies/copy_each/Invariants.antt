use Rattle.std.proofs.Common.{◌≡◌, ◌++◌, ℕ, List, drop}
use Rattle.od_merge.specs.Merging.{copied}
use Rattle.od_reconcile.specs.Copying.{copy_path, left_of, moves_of}
use Rattle.od_reconcile.specs.Ready.{sides_found}
use Rattle.od_reconcile.specs.Taken.{HasNames, and_copies}
use Rattle.od_reconcile.proofs.copies.copy_each.Given as goal

abbrev pub invariant-loop-path : goal.invariant-loop-path
invariant-loop-path l = (paths : List (List (List ℕ))) → HasNames paths l.fn.taken.entries
    → HasNames (and_copies paths l.copies.renames.items) l.taken.entries
    × (l.copies.renames.items ++ moves_of (copied (copy_path l.host (sides_found l.both).local) (and_copies paths l.copies.renames.items) (drop l.path-index l.conflicts)) ≡ moves_of (copied (copy_path l.host (sides_found l.both).local) paths l.conflicts))
    × (l.copies.left.items ++ left_of (copied (copy_path l.host (sides_found l.both).local) (and_copies paths l.copies.renames.items) (drop l.path-index l.conflicts)) ≡ left_of (copied (copy_path l.host (sides_found l.both).local) paths l.conflicts))
