use Rattle.std.proofs.Common.{◌≡◌, drop, find}
use Rattle.od_mirror.specs.Climbs.{misfits}
use Rattle.od_mirror.specs.Pulled.{nodes}
use Rattle.od_mirror.proofs.climb.first_misfit.Given as goal

abbrev pub invariant-loop-item : goal.invariant-loop-item
invariant-loop-item l = find (misfits (nodes l.items)) (nodes l.items) ≡ find (misfits (nodes l.items)) (nodes (drop l.item-index l.items))
