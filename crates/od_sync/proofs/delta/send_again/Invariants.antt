use Rattle.std.proofs.Common.{◌≡◌, ◌≤◌, true, List, Some}
use Rattle.gd_item.specs.declared.step.Step.{Step}
use Rattle.od_transfer.specs.Undisturbed.{Undisturbed, MayBeServed}
use Rattle.od_sync.specs.Deltas.{Spent, HasNoPage}
use Rattle.od_sync.proofs.delta.send_again.Given as goal

-- the sends so far had no page
abbrev pub invariant-loop-sent : goal.invariant-loop-sent
invariant-loop-sent g l = record {
  log : (old : List Step) → g.R.Remote.log l.fn.remote ≡ Some old → Spent l.request l._sent l.replies old (g.R.Remote.log l.remote);
  counts : HasNoPage l._sent l.replies (g.R.Remote.faults l.fn.remote) (g.R.Remote.faults l.remote) (g.R.Remote.answers l.fn.remote) (g.R.Remote.answers l.remote) (g.R.Remote.in_row l.fn.remote) (g.R.Remote.in_row l.remote);
  faults_later : g.R.Remote.faults l.fn.remote ≤ g.R.Remote.faults l.remote;
  answers_later : g.R.Remote.answers l.fn.remote ≤ g.R.Remote.answers l.remote;
  undisturbed : Undisturbed (g.R.Remote.undisturbed l.fn.remote) (g.R.Remote.undisturbed l.remote) (g.R.Remote.log l.fn.remote) (g.R.Remote.log l.remote);
  no_faults : g.R.Remote.undisturbed l.fn.remote ≡ true → MayBeServed l.request (g.R.Remote.log l.fn.remote) → g.R.Remote.faults l.remote ≡ g.R.Remote.faults l.fn.remote;
}
