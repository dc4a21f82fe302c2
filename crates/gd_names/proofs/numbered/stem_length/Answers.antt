use Rattle.std.proofs.Common.{◌-◌, arith}
use Rattle.gd_names.proofs.Extensions.{extension_at_dot, extension_of_none}
use Rattle.gd_names.proofs.numbered.stem_length.Goals as goal

pub returns-then-name-at-eq46-clause-rest : goal.returns-then-name-at-eq46-clause-rest
returns-then-name-at-eq46-clause-rest c =
    extension_at_dot c.args.name.now (c.loop-at.at - 1) (omega arith) (omega arith) c.if-name-at-eq46.true (λ k above h. c.loop-at.invariant.after k (omega arith) h)

pub returns-clause-rest : goal.returns-clause-rest
returns-clause-rest c =
    extension_of_none c.args.name.now (λ k some h. c.loop-at.invariant.after k (omega arith) h)
