use Rattle.std.proofs.Common.{◌≡◌, map, drop}
use Rattle.httparse.specs.Spans.{header_bytes}
use Rattle.gd_frame.specs.Framing.{has_coding}
use Rattle.gd_frame.proofs.framing.has_coding.Given as goal

abbrev pub invariant-loop-header : goal.invariant-loop-header
invariant-loop-header l = has_coding (map (header_bytes l.bytes) l.headers) ≡ has_coding (map (header_bytes l.bytes) (drop l.header-index l.headers))
