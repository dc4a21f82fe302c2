use Rattle.std.proofs.Common.{◌≡◌, drop}
use Rattle.serde_json.specs.View.{items_view}
use Rattle.gd_json.specs.Lists.{items_in}
use Rattle.gd_json.proofs.ListLoop.{with_front}
use Rattle.gd_json.proofs.list.items_in.Given as goal

abbrev pub invariant-loop-value : goal.invariant-loop-value
invariant-loop-value l = with_front l.items (items_in (items_view (drop l.value-index l.values))) ≡ items_in (items_view l.values)
