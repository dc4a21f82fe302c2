use Rattle.std.proofs.Common.{ap, ◌∙◌}
use Rattle.gd_index.specs.Indexed.{at, spot_cmp, number_at_spot}
use Rattle.gd_index.proofs.Finding.{at-spot}
use Rattle.gd_index.proofs.index.Index.at_spot.Goals as goal

pub returns-in-None : goal.returns-in-None
returns-in-None c =
    c.in-None.ensures.value ∙ at-spot c.self.inside.rows.entries c.self.invariant.maps.lined c.self.invariant.maps.rises (at spot_cmp c.self.inside.names.entries) c.self.invariant.maps.by_name c.args.spot.now
    ∙ ap (number_at_spot c.args.spot.now) c.self.view_is

pub returns-in-Some : goal.returns-in-Some
returns-in-Some c =
    c.in-Some.ensures.value ∙ at-spot c.self.inside.rows.entries c.self.invariant.maps.lined c.self.invariant.maps.rises (at spot_cmp c.self.inside.names.entries) c.self.invariant.maps.by_name c.args.spot.now
    ∙ ap (number_at_spot c.args.spot.now) c.self.view_is
