use Rattle.std.proofs.Common.{ap, sym, ◌∙◌}
use Rattle.gd_index.specs.Indexed.{number_at_spot}
use Rattle.gd_index.proofs.Finding.{child-spot}
use Rattle.gd_index.proofs.index.Index.child.Goals as goal

pub returns-in-Ok : goal.returns-in-Ok
returns-in-Ok c =
    c.at_spot.ensures ∙ ap (λ spot. number_at_spot spot c.args.self.now) c.in-Ok.ensures ∙ sym (child-spot c.args.parent c.args.name.now c.args.self.now)
