use Rattle.std.proofs.Common.{◌≡◌, List, Some}
use Rattle.gd_item.specs.declared.step.Step.{Step}
use Rattle.od_remote.specs.Again.{IsUnheard, Lost, Tried}
use Rattle.od_remote.proofs.again.ask_again.Given as goal

-- as many sends as were made had no reply
abbrev pub invariant-loop-sent : goal.invariant-loop-sent
invariant-loop-sent g l = record {
  goes : g.R.Remote.goes l.fn.remote l.remote;
  lost : Lost l._sent l.request (g.R.Remote.counts l.fn.remote) (g.R.Remote.counts l.remote);
  log : (old : List Step) → g.R.Remote.log l.fn.remote ≡ Some old → Tried (IsUnheard l.request) l._sent old (g.R.Remote.log l.remote);
}
