use Rattle.std.proofs.Common.{add-one}
use Rattle.std.proofs.lemmas.Result.{err_from_is_err_and}
use Rattle.serde_json.specs.View.{view}
use Rattle.gd_json.proofs.ListLoop.{view_drop, view_past, goes_on, ends, is_done}
use Rattle.gd_json.proofs.list.items_in.Goals as goal

pub returns-in_err-item : goal.returns-in_err-item
returns-in_err-item c =
    let next = view_drop c.args.values.now c.loop-value.value-index c.value-item.result c.loop-value-test.true c.value-item.is in
    let p = err_from_is_err_and c.from_residual.result c.from_residual.ensures.1 in
    rw (p.1, p.2) (ends c.in_err-item.field-0.0 c.loop-value.items (view c.value-item.result) _ _ c.in_err-item.ensures (rw next at c.loop-value.invariant))

pub loop-value-preserved : goal.loop-value-preserved
loop-value-preserved c =
    let next = view_drop c.args.values.now c.loop-value.value-index c.value-item.result c.loop-value-test.true c.value-item.is in
    rw (c.in_ok-push.ensures.ok, add-one) (goes_on c.loop-value.items c.in_ok-item.item (view c.value-item.result) _ _ c.in_ok-item.ensures (rw next at c.loop-value.invariant))

pub returns : goal.returns
returns c = is_done c.loop-value.items _ (rw (view_past c.args.values.now c.loop-value.value-index c.loop-value-test.false) at c.loop-value.invariant)
