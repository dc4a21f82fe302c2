use Rattle.std.proofs.Common.{rules, true}
use Rattle.gd_item.specs.Inventory.{inventory}
use Rattle.gd_item.specs.Refusals.{settled_in, make_folder_refusal, make_folder_effect}
use Rattle.gd_api.proofs.Calls.{item-stepped, folder-is-made}
use Rattle.gd_api.proofs.steps.make_folder_in.Goals as goal

pub returns-clause-answer : goal.returns-clause-answer
returns-clause-answer c =
    λ log epoch floor stands.
    item-stepped c.make_folder_and_get.new.self epoch floor log (make_folder_refusal (inventory log) c.args.parent.0 c.args.name.now c.args.behaviour)
    (make_folder_effect (inventory log) c.args.parent.0 c.args.name.now c.args.behaviour) c.in_ok-item.item true
    (folder-is-made c.args.parent.0 c.args.name.now (settled_in (inventory log) c.args.parent.0 c.args.name.now c.args.behaviour true)) (c.in_ok-item.ensures.answer log epoch floor stands)

pub returns-in_err-item-clause-answer : goal.returns-in_err-item-clause-answer
returns-in_err-item-clause-answer c = λ log epoch floor stands. let told = c.in_err-item.ensures.answer log epoch floor stands in search (rules, told, c.from_residual.ensures)
