use Rattle.std.proofs.Common.{◌≤◌}
use Rattle.gd_server.proofs.Counting.{Going}
use Rattle.gd_server.proofs.serving.serve_all.Given as goal

abbrev pub invariant-loop : goal.invariant-loop
invariant-loop g l =
    (goal.iterator-loop g).can_next l.iterator' × (goal.iterator-loop g).is_finite l.iterator'
    × (g.A.Accept.faults l.fn.accept ≤ g.A.Accept.faults l.accept)
    × Going l.fn.connections l.left (g.A.Accept.given l.fn.accept) (g.A.Accept.given l.accept) (g.P.Spawner.handed l.fn.spawner) (g.P.Spawner.handed l.spawner)
