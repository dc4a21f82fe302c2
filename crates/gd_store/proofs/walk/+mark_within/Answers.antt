use denote.Bor.{Bor}
use Rattle.std.specs.BTreeSet.{contains}
use Rattle.std.specs.Ordering.{nat_cmp}
use Rattle.gd_item.specs.declared.live.LiveItem.{LiveItem}
use Rattle.gd_store.proofs.Marking.{first-marks}
use Rattle.gd_store.proofs.walk.+mark_within.Goals as goal

pub loop-child-init : goal.loop-child-init
loop-child-init t c = record {
  marks = λ n. first-marks (λ (child : Bor LiveItem). child.now) c.args.items.now c.args.steps c.args.number n c.len.result (contains nat_cmp c.args.marked.now n) (contains nat_cmp c.insert.new.self n)
      c.in_ok-children.children.items c.as_slice-child-items.result.now c.requires c.if-steps-eq0.false c.len.ensures c.in_ok-children.ensures c.as_slice-child-items.ensures.value (c.in_ok-insert.ensures.updates.0 n);
  ordered = c.in_ok-insert.ensures.ordered;
}
