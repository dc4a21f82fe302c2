use Rattle.std.proofs.Common.{◌≡◌, List, Some}
use Rattle.gd_item.specs.declared.step.Step.{Step}
use Rattle.od_remote.specs.Again.{Spent, SpentTries}
use Rattle.od_remote.proofs.again.ask_until_served.Given as goal

-- as many sends as were made brought nothing
abbrev pub invariant-loop-sent : goal.invariant-loop-sent
invariant-loop-sent g l = record {
  goes : g.R.Remote.goes l.fn.remote l.remote;
  spent : Spent (g.R.Remote.reads l.fn.remote) l._sent l.replies l.request (g.R.Remote.counts l.fn.remote) (g.R.Remote.counts l.remote);
  log : (old : List Step) → g.R.Remote.log l.fn.remote ≡ Some old → SpentTries l.request l._sent l.replies old (g.R.Remote.log l.remote);
}
