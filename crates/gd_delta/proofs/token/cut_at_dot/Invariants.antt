use Rattle.std.proofs.Common.{◌≡◌, take, drop}
use Rattle.gd_delta.specs.Cuts.{cut, cut_from}
use Rattle.gd_delta.proofs.token.cut_at_dot.Given as goal

abbrev pub invariant-loop-i : goal.invariant-loop-i
invariant-loop-i l = cut l.text ≡ cut_from (take l.i l.text) (drop l.i l.text)
