use Rattle.std.proofs.Common.{add-one, ◌∙◌}
use Rattle.gd_json.proofs.ListLoop.{before_more, before_all, listed_drop, listed_past, known_drop, known_past}
use Rattle.gd_json.proofs.list.item_values.Goals as goal

pub loop-item-preserved : goal.loop-item-preserved
loop-item-preserved c =
    let next = listed_drop c.args.items.now c.loop-item.item-index c.item-item.result c.loop-item-test.true c.item-item.is in
    rw (c.in_ok-push.ensures.items, add-one) (record {
      values = before_more _ _ _ ∙ rw c.in_ok-value.ensures (rw next at c.loop-item.invariant.values);
      known = λ more. c.loop-item.invariant.known (known_drop c.args.items.now c.loop-item.item-index c.item-item.result c.loop-item-test.true c.item-item.is c.known_item.ensures more);
    })

pub returns-clause-values : goal.returns-clause-values
returns-clause-values c =
    before_all c.loop-item.values.items ∙ rw (listed_past c.args.items.now c.loop-item.item-index c.loop-item-test.false) at c.loop-item.invariant.values

pub returns-clause-known : goal.returns-clause-known
returns-clause-known c = c.loop-item.invariant.known (known_past c.args.items.now c.loop-item.item-index c.loop-item-test.false)
