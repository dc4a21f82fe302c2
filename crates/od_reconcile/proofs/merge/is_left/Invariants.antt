use Rattle.std.proofs.Common.{◌≡◌, drop}
use Rattle.std.specs.List.{list_any}
use Rattle.od_merge.specs.Sides.{is_from}
use Rattle.od_reconcile.proofs.merge.is_left.Given as goal

abbrev pub invariant-loop-top : goal.invariant-loop-top
invariant-loop-top l =
    list_any (λ top. is_from top l.path) l.merge.left.now ≡ list_any (λ top. is_from top l.path) (drop l.top-index l.merge.left.now)
