use Rattle.std.proofs.Common.{map}
use denote.Bor.{Bor}
use Rattle.gd_item.specs.declared.live.LiveItem.{LiveItem}
use Rattle.gd_index.proofs.Ranging.{items-step}
use Rattle.gd_index.proofs.index.ranges.items_of.Goals as goal

pub loop-number-preserved : goal.loop-number-preserved
loop-number-preserved c =
    items-step c.args.rows.now.entries c.args.numbers.now c.loop-number.number-index (map (λ (item : Bor LiveItem). item.now) c.loop-number.found.items) (map (λ (item : Bor LiveItem). item.now) c.push_item.new.found.items)
    c.loop-number-test.true c.loop-number.invariant c.in_ok-push_item.ensures
