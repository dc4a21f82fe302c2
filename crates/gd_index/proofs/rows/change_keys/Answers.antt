use Rattle.std.proofs.Common.{sym, ◌∙◌}
use Rattle.gd_index.proofs.Steps.{spot-stays, spot-goes}
use Rattle.gd_index.proofs.rows.change_keys.Goals as goal

pub returns-then-stays-clause-names : goal.returns-then-stays-clause-names
returns-then-stays-clause-names c =
    spot-stays c.args.number c.args.from.now c.args.to c.args.names.now.entries c.add_keys.new.names.entries (sym c.eq-stays.ensures ∙ c.if-stays.true) c.in_ok-add_keys.ensures.names

pub returns-clause-names : goal.returns-clause-names
returns-clause-names c =
    spot-goes c.args.number c.args.from.now c.args.to c.args.names.now.entries c.add_keys.new.names.entries c.remove-2.new.self.entries (sym c.eq-stays.ensures ∙ c.if-stays.false) c.in_ok-add_keys.ensures.names
    (record { here = c.remove-2.ensures.updates.1; each = c.remove-2.ensures.updates.0 })
