use Rattle.std.proofs.Common.{◌≡◌, drop}
use Rattle.std.specs.List.{list_any}
use Rattle.od_mirror.specs.Digests.{is_unknown}
use Rattle.od_mirror.proofs.view.has_unknown.Given as goal

abbrev pub invariant-loop-item : goal.invariant-loop-item
invariant-loop-item l = list_any (is_unknown l.id l.etag) l.items ≡ list_any (is_unknown l.id l.etag) (drop l.item-index l.items)
