use Rattle.std.proofs.Common.{sym, subst, ◌∙◌}
use Rattle.gd_store.specs.Kept.{IsKept}
use Rattle.gd_store.proofs.Kept.{removed-map}
use Rattle.gd_store.proofs.items.Items.take_out.Goals as goal

pub remove_all-requires-clause-map : goal.remove_all-requires-clause-map
remove_all-requires-clause-map c =
    removed-map c.args.self.now c.args.number c.args.condition.now c.as_slice-2.result.now (subst IsKept c.self.view_is c.self.invariant) (sym c.in-None.is ∙ c.removal_refusal.ensures) (c.as_slice-2.ensures.value ∙ c.in_ok-order.ensures)
