use Rattle.std.proofs.Common.{◌≡◌, ◌+◌, ◌≤◌, drop}
use Rattle.gd_item.specs.Sessions.{held_bytes}
use Rattle.gd_upload.proofs.sessions.Sessions.bytes.Given as goal

abbrev pub invariant-loop-session : goal.invariant-loop-session
invariant-loop-session l = record {
  so_far : l.held + held_bytes (drop l.session-index l.session-items) ≡ held_bytes l.session-items;
  light : held_bytes l.session-items ≤ 536870912;
}
