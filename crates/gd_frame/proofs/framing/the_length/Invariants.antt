use Rattle.std.proofs.Common.{◌≡◌, map, drop}
use Rattle.httparse.specs.Spans.{header_bytes}
use Rattle.gd_frame.specs.Framing.{the_length}
use Rattle.gd_frame.proofs.framing.the_length.Given as goal

abbrev pub invariant-loop-header : goal.invariant-loop-header
invariant-loop-header l = the_length (map (header_bytes l.bytes) l.headers) ≡ the_length (map (header_bytes l.bytes) (drop l.header-index l.headers))
