use Rattle.std.proofs.Common.{◌≡◌, take}
use Rattle.od_pull.specs.Digests.{with_learned}
use Rattle.od_pull.proofs.learning.take_learned.Given as goal

abbrev pub invariant-loop-one : goal.invariant-loop-one
invariant-loop-one l = record {
  items : l.view.items ≡ with_learned (take l.one-index l.learned) l.fn.view.items;
  token : l.view.token ≡ l.fn.view.token;
}
