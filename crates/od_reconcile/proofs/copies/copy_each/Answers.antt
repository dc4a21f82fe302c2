use Rattle.std.proofs.Common.{◌≡◌, ◌<◌, ◌+◌, ◌∙◌, ◌∷◌, Bool, length, drop, arith, ap}
use Rattle.od_merge.specs.Merging.{and_taken, copied}
use Rattle.od_merge.specs.Sides.{is_folder}
use Rattle.od_reconcile.specs.Copying.{copy_beside, copy_path, left_of, moves_of}
use Rattle.od_reconcile.specs.Ready.{sides_found}
use Rattle.od_reconcile.specs.Taken.{and_copies}
use Rattle.od_reconcile.proofs.CopyNames.{left-step, moves-step}
use Rattle.od_reconcile.proofs.FolderNames.{copies-more, names-more}
use Rattle.od_reconcile.proofs.Indexes.{drop-next}
use Rattle.od_reconcile.proofs.copies.copy_each.Goals as goal

pub loop-path-preserved : goal.loop-path-preserved
loop-path-preserved c = λ paths has.
    let host = c.args.host.now in
    let copy = copy_path host (sides_found c.args.both.now).local in
    let conflicts = c.args.conflicts.now in
    let i = c.loop-path.path-index in
    let path = c.path-item.result in
    let before = c.loop-path.invariant paths has in
    let taken = and_copies paths c.loop-path.copies.renames.items in
    let now = and_copies paths c.add_copy.new.copies.renames.items in
    let less : i < length conflicts = omega arith in
    let left : drop i conflicts ≡ (path ∷ drop (i + 1) conflicts) = drop-next conflicts i path less c.path-item.is in
    let to : c.in_ok-to.to ≡ copy taken path = c.in_ok-to.ensures taken before.0
    ∙ ap (λ (f : Bool). copy_beside host f taken path) (c.is_folder-folder.ensures ∙ ap (λ x. is_folder x) c.standing.ensures) in
    let put = c.in_ok-add_copy.ensures in
    let now_is : now ≡ and_taken c.in_ok-to.to taken = copies-more paths path c.in_ok-to.to c.loop-path.copies.renames.items c.add_copy.new.copies.renames.items put.renames in (
      names-more taken now c.in_ok-to.to c.loop-path.taken.entries c.add_copy.new.taken.entries before.0 now_is put.taken,
      moves-step copy path c.in_ok-to.to taken now (drop i conflicts) (drop (i + 1) conflicts) c.loop-path.copies.renames.items c.add_copy.new.copies.renames.items
          (moves_of (copied copy paths conflicts)) left to now_is before.1 put.renames,
      left-step copy path c.in_ok-to.to taken now (drop i conflicts) (drop (i + 1) conflicts) c.loop-path.copies.left.items c.add_copy.new.copies.left.items
          (left_of (copied copy paths conflicts)) left to now_is before.2 put.left,
    )
