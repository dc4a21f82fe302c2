use Rattle.std.proofs.Common.{◌≡◌, ◌-◌, is_some, length}
use Rattle.gd_item.specs.Nodes.{path_within, path_of}
use Rattle.od_mirror.specs.Pulled.{nodes}
use Rattle.od_mirror.proofs.climb.leads_up.Given as goal

abbrev pub invariant-loop : goal.invariant-loop
invariant-loop l = is_some (path_of (nodes l.items) l.number) ≡ is_some (path_within (length (nodes l.items) - l.index) (nodes l.items) l.at)
