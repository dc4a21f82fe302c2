use Rattle.std.proofs.Common.{◌≡◌, ◌++◌, take, drop}
use Rattle.gd_item.specs.Sessions.{with_fragment}
use Rattle.gd_upload.proofs.append.append.Given as goal

abbrev pub invariant-loop-session : goal.invariant-loop-session
invariant-loop-session l = record {
  same : l.sessions ≡ l.fn.sessions;
  so_far : with_fragment l.number l.total l.bytes l.sessions
      ≡ take l.session-index l.sessions ++ with_fragment l.number l.total l.bytes (drop l.session-index l.sessions);
}
