use Rattle.std.proofs.Common.{◌≡◌, map, take}
use Rattle.httparse.specs.Spans.{header_bytes}
use Rattle.gd_frame.specs.Frames.{field}
use Rattle.gd_frame.proofs.frame.fields_of.Given as goal

abbrev pub invariant-loop-header : goal.invariant-loop-header
invariant-loop-header l = l.fields ≡ map field (map (header_bytes l.bytes) (take l.header-index l.headers))
