use Rattle.std.proofs.Common.{◌≡◌, ◌+◌, ◌≤◌, map, drop, count_by}
use Rattle.httparse.specs.Spans.{header_bytes}
use Rattle.gd_frame.specs.Framing.{is_length}
use Rattle.gd_frame.proofs.framing.lengths.Given as goal

abbrev pub invariant-loop-header : goal.invariant-loop-header
invariant-loop-header l = record {
  so_far : count_by is_length (map (header_bytes l.bytes) l.headers) ≡ l.count + count_by is_length (map (header_bytes l.bytes) (drop l.header-index l.headers));
  few : l.count ≤ l.header-index;
}
