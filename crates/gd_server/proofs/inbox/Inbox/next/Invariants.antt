use Rattle.std.proofs.Common.{◌≤◌}
use Rattle.gd_server.proofs.Pieces.{Waits}
use Rattle.gd_server.proofs.inbox.Inbox.next.Given as goal

abbrev pub invariant-loop : goal.invariant-loop
invariant-loop g l = record {
  waits : Waits (g.I.Source.left l.fn.source) (g.I.Source.left l.source) l.fn.self l.self;
  later : g.I.Source.faults l.fn.source ≤ g.I.Source.faults l.source;
  goes : g.I.Source.goes l.fn.source l.source;
}
