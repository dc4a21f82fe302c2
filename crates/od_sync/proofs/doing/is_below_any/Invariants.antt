use Rattle.std.proofs.Common.{◌≡◌, drop}
use Rattle.od_sync.specs.Doing.{is_below_any}
use Rattle.od_sync.proofs.doing.is_below_any.Given as goal

abbrev pub invariant-loop-top : goal.invariant-loop-top
invariant-loop-top l = is_below_any l.tops l.path ≡ is_below_any (drop l.top-index l.tops) l.path
