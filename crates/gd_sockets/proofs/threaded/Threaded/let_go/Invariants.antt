use Rattle.std.proofs.Common.{◌≡◌}
use Rattle.gd_sockets.proofs.threaded.Threaded.let_go.Given as goal

abbrev pub invariant-loop : goal.invariant-loop
invariant-loop g l = l.self.handed ≡ l.fn.self.handed
