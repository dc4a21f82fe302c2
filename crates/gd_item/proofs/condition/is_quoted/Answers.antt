use Rattle.std.proofs.Common.{refl, ◌∙◌, arith}
use Rattle.gd_item.proofs.Quotes.{other_first, other_last, in_quotes}
use Rattle.gd_item.proofs.condition.is_quoted.Goals as goal
use Rattle.gd_item.proofs.condition.is_quoted.Goals.{then-text-ne34-via-then-text-ne34, then-text-ne34-via-else-text-ne34+then-text-bare-ne34}

pub returns-then-text-ne34 : goal.returns-then-text-ne34
returns-then-text-ne34 c = elim c.then-text-ne34.branch [
  | then-text-ne34-via-then-text-ne34 w ↦ other_first c.args.text.now c.args.bare.now (omega arith) w.if-text-ne34.true
  | then-text-ne34-via-else-text-ne34+then-text-bare-ne34 w ↦ other_last c.args.text.now c.args.bare.now (omega arith) w.if-text-bare-ne34.true
]

pub returns : goal.returns
returns c = c.eq.ensures ∙ in_quotes c.args.text.now c.args.bare.now _ (omega arith) (omega arith) (omega arith) refl
