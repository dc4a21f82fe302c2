use Rattle.std.proofs.Common.{◌≡◌, ◌-◌, length, reverse}
use Rattle.gd_item.specs.Nodes.{path_within, path_of}
use Rattle.od_mirror.specs.Climbs.{with_names}
use Rattle.od_mirror.specs.Pulled.{nodes}
use Rattle.od_mirror.proofs.climb.path_up.Given as goal

abbrev pub invariant-loop : goal.invariant-loop
invariant-loop l = path_of (nodes l.items) l.number ≡ with_names (path_within (length (nodes l.items) - l.index) (nodes l.items) l.at) (reverse l.names.items)
