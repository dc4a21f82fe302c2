use Rattle.std.proofs.Common.{sym, ◌∙◌}
use Rattle.gd_laws.proofs.Allowed.{may-make, not-refused}
use Rattle.gd_store.proofs.There.{folder-over}
use Rattle.gd_store.proofs.items.Items.name_of_folder.Goals as goal

pub unreachable-requires : goal.unreachable-requires
unreachable-requires c = folder-over c.args.self.now c.args.parent c.args.name.now c.args.behaviour c.in-Over.field-0 (sym c.in_ok-settle.ensures ∙ c.in-Over.is)

pub unreachable-requires-in-Refuse : goal.unreachable-requires-in-Refuse
unreachable-requires-in-Refuse c =
    let may = may-make c.args.self.now c.args.parent c.args.name.now c.args.behaviour c.in_ok-settle.settle c.in_ok-settle.ensures (sym c.in-None.is ∙ c.folder_refusal.ensures) in
    not-refused c.in_ok-settle.settle c.in-Refuse.is may.had
