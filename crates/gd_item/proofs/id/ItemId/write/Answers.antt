use Rattle.std.proofs.Common.{codes, ◌++◌, ap, ◌∙◌, arith}
use Rattle.gd_item.proofs.Hex.{id_written}
use Rattle.gd_item.proofs.id.ItemId.write.Goals as goal

pub returns : goal.returns
returns c =
    let written = rw (c.laid_out.ensures, c.in_radix.ensures) at c.in_ok-text.ensures.ok in
    c.from_string.ensures ∙ written ∙ ap (λ digits. codes "01GD" ++ digits) (id_written c.args.self.now.0 (omega arith))
