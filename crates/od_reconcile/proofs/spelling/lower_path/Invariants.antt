use Rattle.std.proofs.Common.{◌≡◌, ◌++◌, map, drop}
use Rattle.gd_names.specs.Caseless.{lower_case}
use Rattle.od_reconcile.proofs.spelling.lower_path.Given as goal

abbrev pub invariant-loop-name : goal.invariant-loop-name
invariant-loop-name l =
    l.names ++ map lower_case (drop l.name-index l.name-items) ≡ map lower_case l.path
