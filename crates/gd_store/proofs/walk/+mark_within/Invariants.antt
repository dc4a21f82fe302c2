use denote.Bor.{Bor}
use Rattle.std.proofs.Common.{◌≡◌, ℕ, ◌-◌, ◌||◌, map, drop}
use Rattle.std.specs.BTreeSet.{IsOrdered, contains}
use Rattle.std.specs.List.{list_any}
use Rattle.std.specs.Ordering.{nat_cmp}
use Rattle.gd_item.specs.Moves.{is_in_within}
use Rattle.gd_item.specs.Nodes.{live_node}
use Rattle.gd_item.specs.declared.live.LiveItem.{LiveItem}
use Rattle.gd_store.proofs.walk.+mark_within.Given as goal

abbrev pub decreases-mark_within : goal.decreases-mark_within
decreases-mark_within l = l.steps

abbrev pub invariant-loop-child : goal.invariant-loop-child
invariant-loop-child l = record {
  marks : (n : ℕ) → (list_any (λ (child : Bor LiveItem). is_in_within (l.steps - 1) (map live_node l.items) child.now.number n) (drop l.child-index l.child-items) || contains nat_cmp l.marked n)
      ≡ (is_in_within l.steps (map live_node l.items) l.number n || contains nat_cmp l.fn.marked n);
  ordered : IsOrdered nat_cmp l.marked;
}
