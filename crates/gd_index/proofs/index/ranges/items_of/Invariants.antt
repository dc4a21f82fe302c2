use Rattle.std.proofs.Common.{◌≡◌, ◌++◌, map, drop}
use Rattle.gd_index.specs.Indexed.{items_at}
use Rattle.gd_index.proofs.index.ranges.items_of.Given as goal

abbrev pub invariant-loop-number : goal.invariant-loop-number
invariant-loop-number l = map (λ item. item.now) l.found.items ++ items_at l.rows.entries (drop l.number-index l.numbers) ≡ items_at l.rows.entries l.numbers
