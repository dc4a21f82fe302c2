use Rattle.std.proofs.Common.{◌≤◌}
use Rattle.gd_server.proofs.Conversing.{SoFar}
use Rattle.gd_server.proofs.connection.converse.Given as goal

abbrev pub invariant-loop-answered : goal.invariant-loop-answered
invariant-loop-answered g l = record {
  so_far : SoFar g.A.Answers.asks l.wire.base (g.I.Source.left l.fn.source) (g.I.Source.left l.source) l.fn.answers l.answers (g.S.Sink.written l.fn.sink) (g.S.Sink.written l.sink) l.inbox l.answered;
  reads_later : g.I.Source.faults l.fn.source ≤ g.I.Source.faults l.source;
  writes_later : g.S.Sink.faults l.fn.sink ≤ g.S.Sink.faults l.sink;
  source : g.I.Source.goes l.fn.source l.source;
  sink : g.S.Sink.goes l.fn.sink l.sink;
}
