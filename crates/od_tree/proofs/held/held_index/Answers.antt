use Rattle.std.proofs.Common.{nat_eq, ap, ◌∙◌}
use Rattle.std.proofs.lemmas.Bool.{eq-eqb}
use Rattle.od_tree.specs.declared.local.HeldFile.{HeldFile}
use Rattle.od_tree.proofs.Removing.{first_at}
use Rattle.od_tree.proofs.held.held_index.Goals as goal

pub returns-then-held-index-clause-file : goal.returns-then-held-index-clause-file
returns-then-held-index-clause-file c =
    c.loop-index.invariant.2
    ∙ first_at (λ (file : HeldFile). nat_eq file.number c.args.number) c.args.held.now c.loop-index.index c.index-held-index.result c.loop-index-test.true c.index-held-index.is
    (eq-eqb c.index-held-index.result.number c.args.number (ap (λ (file : HeldFile). file.number) c.index-held-index.is ∙ c.if-held-index.true))
