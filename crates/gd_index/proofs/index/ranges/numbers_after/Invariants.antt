use Rattle.std.proofs.Common.{◌≡◌, ◌≤◌, ◌++◌, length}
use Rattle.std.specs.Map.{values_of}
use Rattle.std.specs.Ordering.{nat_cmp}
use Rattle.std.specs.declared.ops.Bound.TheVariants.{Excluded, Unbounded}
use Rattle.std.specs.BTreeMap.Range.{entries_between}
use Rattle.gd_index.proofs.index.ranges.numbers_after.Given as goal

abbrev pub invariant-loop-number : goal.invariant-loop-number
invariant-loop-number l = record {
  within : length l.numbers.items ≤ l.most;
  whole : l.numbers.items ++ values_of l.number-iterator ≡ values_of (entries_between nat_cmp (Excluded l.position) Unbounded l.changes.entries);
}
