use Rattle.od_cli.proofs.Ends.{replays}
use Rattle.od_cli.proofs.replay.replay.Goals as goal

pub returns-in-None-clause-replayed : goal.returns-in-None-clause-replayed
returns-in-None-clause-replayed g c =
    replays (g.I.Source.left c.args.source.now) (g.I.Source.left c.read_all.new.source) (g.S.Sink.written c.args.sink.now) (g.S.Sink.written c.write.new.self) c.in_ok-text.text c.as_slice.result.now c.in_ok-made.made.text c.as_slice-2.result.now c.in_ok-made.made.bad_line
    c.in_ok-text.ensures.all.0 c.in_ok-text.ensures.all.1 c.as_slice.ensures c.in_ok-made.ensures.0 c.in_ok-made.ensures.1 c.in-None.is c.as_slice-2.ensures c.in_ok-write.ensures.bytes.ok
