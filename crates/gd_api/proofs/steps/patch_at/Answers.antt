use Rattle.std.proofs.Common.{false, refl}
use Rattle.std.specs.Option.{option_copied}
use Rattle.gd_item.specs.Inventory.{inventory}
use Rattle.gd_item.specs.Moves.{patch_refusal, patch_effect}
use Rattle.gd_item.specs.Refused.{id_number}
use Rattle.gd_api.proofs.Calls.{item-stepped}
use Rattle.gd_api.proofs.steps.patch_at.Goals as goal

pub returns-clause-answer : goal.returns-clause-answer
returns-clause-answer c =
    λ log epoch floor stands.
    item-stepped c.patch_and_get.new.self epoch floor log (patch_refusal (inventory log) c.args.id.0 (option_copied c.args.name) (id_number c.args.parent) c.args.condition.now)
    (patch_effect (inventory log) c.args.id.0 (option_copied c.args.name) (id_number c.args.parent)) c.in_ok-item.item false refl (c.in_ok-item.ensures.answer log epoch floor stands)
