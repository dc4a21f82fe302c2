use Rattle.std.proofs.Common.{◌≡◌, ◌++◌, filter}
use Rattle.od_reconcile.specs.Looks.{is_staying_on, merge_sides}
use Rattle.od_reconcile.proofs.look.staying_on.Given as goal

abbrev pub invariant-loop-path : goal.invariant-loop-path
invariant-loop-path l =
    l.found.items ++ filter (is_staying_on (merge_sides l.look.merge.now) l.side.tree.now) l.path-iterator ≡ filter (is_staying_on (merge_sides l.look.merge.now) l.side.tree.now) l.look.paths.keys
