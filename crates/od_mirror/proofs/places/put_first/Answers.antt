use Rattle.std.proofs.Common.{cond, Some, ap, ◌∙◌}
use Rattle.std.specs.BTreeMap.{is_at}
use Rattle.std.specs.Map.{lookup}
use Rattle.od_mirror.specs.Places.{spot_cmp}
use Rattle.od_mirror.proofs.Lookups.{puts-spot}
use Rattle.od_mirror.proofs.places.put_first.Goals as goal

pub returns-in_ok-put_number-in-Some : goal.returns-in_ok-put_number-in-Some
returns-in_ok-put_number-in-Some c spot =
    c.in_ok-put_number-in-Some.ensures.each spot
    ∙ ap (λ key. cond (is_at (spot_cmp key) spot) (Some c.args.item.now.id.0) (lookup (is_at (spot_cmp spot)) c.args.firsts.now.entries)) c.in_ok-spot-in-Some.ensures
    ∙ puts-spot c.args.item.now c.in-Some.parent spot (lookup (is_at (spot_cmp spot)) c.args.firsts.now.entries) c.if-item-eq1.false c.in-Some.is
