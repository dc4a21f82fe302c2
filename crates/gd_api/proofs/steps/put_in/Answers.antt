use Rattle.std.proofs.Common.{rules, true, false}
use Rattle.gd_item.specs.Inventory.{inventory}
use Rattle.gd_item.specs.Refusals.{put_refusal, put_effect}
use Rattle.gd_api.proofs.Calls.{item-put}
use Rattle.gd_api.proofs.steps.put_in.Goals as goal

pub returns-then-made-clause-answer : goal.returns-then-made-clause-answer
returns-then-made-clause-answer c =
    λ log epoch floor stands.
    item-put c.put_and_get.new.self epoch floor log (put_refusal (inventory log) c.args.place.now c.args.bytes.now c.args.behaviour c.args.condition.now c.args.others)
    (put_effect (inventory log) c.args.place.now c.args.bytes.now c.args.behaviour) (c.in_ok-item.item, c.in_ok-item.made) true c.if-made.true (c.in_ok-item.ensures.answer log epoch floor stands)

pub returns-else-made-clause-answer : goal.returns-else-made-clause-answer
returns-else-made-clause-answer c =
    λ log epoch floor stands.
    item-put c.put_and_get.new.self epoch floor log (put_refusal (inventory log) c.args.place.now c.args.bytes.now c.args.behaviour c.args.condition.now c.args.others)
    (put_effect (inventory log) c.args.place.now c.args.bytes.now c.args.behaviour) (c.in_ok-item.item, c.in_ok-item.made) false c.if-made.false (c.in_ok-item.ensures.answer log epoch floor stands)

pub returns-in_err-item-clause-answer : goal.returns-in_err-item-clause-answer
returns-in_err-item-clause-answer c = λ log epoch floor stands. let told = c.in_err-item.ensures.answer log epoch floor stands in search (rules, told, c.from_residual.ensures)
